-- Which rules are active after a change of the rules.
use Rattle.std.proofs.Math.Bool.{or-false}
use Rattle.std.proofs.Common.{◌≡◌, ◌∙◌, ℕ, Bool, true, false, not, cond, ◌&&◌, ◌||◌, nat_eq, List, [], ◌∷◌, ◌++◌, map, filter, Some, refl, sym, ap, eqb-true, eq-eqb}
use Rattle.std.proofs.lemmas.List.Folds.{list_any-append}
use Rattle.std.proofs.lemmas.Option.{none-some, same_Some}
use Rattle.std.specs.List.{list_any}
use Rattle.sb_value.specs.Flags.{flag_at}
use Rattle.sb_value.specs.Name.{same_name}
use Rattle.sb_catalog.specs.declared.rule.Rule.{Rule}
use Rattle.sb_catalog.specs.Places.{HasActive}
use Rattle.sb_catalog.specs.Rules.{is_active, named, change_numbered, set_active, with_active, without_rule}

same_number : (n : ℕ) → nat_eq n n ≡ true
same_number n = eq-eqb n n refl

other_number : (m n : ℕ) → nat_eq m n ≡ false → nat_eq n m ≡ false
other_number m n e = by (nat_eq n m) refl
  where
    by : (b : Bool) → nat_eq n m ≡ b → nat_eq n m ≡ false
    by true f = absurd (let same = same_number m in let there = ap (nat_eq m) (eqb-true n m f) in cc)
    by false f = f

-- ---- tests over lists

any-same : (f g : Rule → Bool) (rules : List Rule) → ((r : Rule) → f r ≡ g r) → list_any f rules ≡ list_any g rules
any-same f g [] h = refl
any-same f g (r ∷ rules) h = λ i. h r i || any-same f g rules h i

any-none : (f : Rule → Bool) (rules : List Rule) → ((r : Rule) → f r ≡ false) → list_any f rules ≡ false
any-none f [] h = refl
any-none f (r ∷ rules) h = (λ i. h r i || list_any f rules) ∙ any-none f rules h

any-filter : (f p : Rule → Bool) (rules : List Rule) → list_any f (filter p rules) ≡ list_any (λ r. p r && f r) rules
any-filter f p [] = refl
any-filter f p (r ∷ rules) = by (p r) ∙ ap (λ (b : Bool). (p r && f r) || b) (any-filter f p rules)
  where
    by : (b : Bool) → list_any f (cond b (r ∷ filter p rules) (filter p rules)) ≡ ((b && f r) || list_any f (filter p rules))
    by true = refl
    by false = refl

any-map : (f : Rule → Bool) (g : Rule → Rule) (rules : List Rule) → list_any f (map g rules) ≡ list_any (λ r. f (g r)) rules
any-map f g [] = refl
any-map f g (r ∷ rules) = λ i. f (g r) || any-map f g rules i

any-both : (f : Rule → Bool) (b : Bool) (rules : List Rule) → list_any (λ r. f r && b) rules ≡ (list_any f rules && b)
any-both f true rules = any-same (λ r. f r && true) f rules (λ r. by (f r)) ∙ sym (by (list_any f rules))
  where
    by : (x : Bool) → (x && true) ≡ x
    by true = refl
    by false = refl
any-both f false rules = any-none (λ r. f r && false) rules (λ r. by (f r)) ∙ sym (by (list_any f rules))
  where
    by : (x : Bool) → (x && false) ≡ false
    by true = refl
    by false = refl

-- ---- a new rule

pub active-with : (set new : List Bool) (rules : List Rule) (r : Rule) → HasActive set rules → list_any (λ (q : Rule). nat_eq q.id r.id) rules ≡ false →
    ((id : ℕ) → flag_at new id ≡ cond (nat_eq id r.id) r.active (flag_at set id)) → HasActive new (rules ++ r ∷ [])
active-with set new rules r h free is id =
    is id ∙ ap (λ (b : Bool). cond (nat_eq id r.id) r.active b) (h id) ∙ by (nat_eq id r.id) refl ∙ sym (list_any-append (λ (q : Rule). nat_eq q.id id && q.active) rules (r ∷ []))
  where
    within : (q : Rule) (b : Bool) → nat_eq q.id r.id ≡ b → (b && q.active) ≡ true → nat_eq q.id r.id ≡ true
    within q true e p = e
    within q false e p = absurd (cc)

    none : (qs : List Rule) → list_any (λ (q : Rule). nat_eq q.id r.id) qs ≡ false → is_active qs r.id ≡ false
    none [] e = refl
    none (q ∷ qs) e = one (nat_eq q.id r.id) refl e (none qs)
      where
        one : (b : Bool) → nat_eq q.id r.id ≡ b → (nat_eq q.id r.id || list_any (λ (x : Rule). nat_eq x.id r.id) qs) ≡ false →
            (list_any (λ (x : Rule). nat_eq x.id r.id) qs ≡ false → is_active qs r.id ≡ false) → ((nat_eq q.id r.id && q.active) || is_active qs r.id) ≡ false
        one true f g rest = absurd (let p = ap (λ (b : Bool). b || list_any (λ (x : Rule). nat_eq x.id r.id) qs) f in cc)
        one false f g rest = ap (λ (b : Bool). (b && q.active) || is_active qs r.id) f ∙ rest (sym (ap (λ (b : Bool). b || list_any (λ (x : Rule). nat_eq x.id r.id) qs) f) ∙ g)

    by : (b : Bool) → nat_eq id r.id ≡ b → cond b r.active (is_active rules id) ≡ (is_active rules id || ((nat_eq r.id id && r.active) || false))
    by true e =
        sym ((λ i. is_active rules (eqb-true id r.id e i) || ((nat_eq r.id (eqb-true id r.id e i) && r.active) || false))
        ∙ (λ i. none rules free i || ((same_number r.id i && r.active) || false)) ∙ or-false r.active)
    by false e = sym ((λ i. is_active rules id || ((other_number id r.id e i && r.active) || false)) ∙ or-false (is_active rules id))

-- ---- a rule less

pub active-without : (set new : List Bool) (rules : List Rule) (gone : ℕ) → HasActive set rules → ((id : ℕ) → flag_at new id ≡ (flag_at set id && not (nat_eq id gone))) → HasActive new (without_rule rules gone)
active-without set new rules gone h is id =
    is id ∙ ap (λ (b : Bool). b && not (nat_eq id gone)) (h id) ∙ by (nat_eq id gone) refl ∙ sym (any-filter (λ (r : Rule). nat_eq r.id id && r.active) (λ (r : Rule). not (nat_eq r.id gone)) rules)
  where
    lost : (x : Bool) → (x && false) ≡ false
    lost true = refl
    lost false = refl

    kept : (x : Bool) → (x && true) ≡ x
    kept true = refl
    kept false = refl

    never : (r : Rule) (b : Bool) → nat_eq id gone ≡ true → nat_eq r.id id ≡ b → (not (nat_eq r.id gone) && (b && r.active)) ≡ false
    never r true e f = ap (λ (x : Bool). not x && r.active) (ap (λ (m : ℕ). nat_eq m gone) (eqb-true r.id id f) ∙ e)
    never r false e f = lost (not (nat_eq r.id gone))

    always : (r : Rule) (b : Bool) → nat_eq id gone ≡ false → nat_eq r.id id ≡ b → (not (nat_eq r.id gone) && (b && r.active)) ≡ (b && r.active)
    always r true e f = ap (λ (x : Bool). not x && r.active) (ap (λ (m : ℕ). nat_eq m gone) (eqb-true r.id id f) ∙ e)
    always r false e f = lost (not (nat_eq r.id gone))

    by : (b : Bool) → nat_eq id gone ≡ b → (is_active rules id && not b) ≡ list_any (λ (r : Rule). not (nat_eq r.id gone) && (nat_eq r.id id && r.active)) rules
    by true e = lost (is_active rules id) ∙ sym (any-none (λ (r : Rule). not (nat_eq r.id gone) && (nat_eq r.id id && r.active)) rules (λ r. never r (nat_eq r.id id) e refl))
    by false e = kept (is_active rules id) ∙ sym (any-same (λ (r : Rule). not (nat_eq r.id gone) && (nat_eq r.id id && r.active)) (λ (r : Rule). nat_eq r.id id && r.active) rules (λ r. always r (nat_eq r.id id) e refl))

-- ---- a rule made active or not

-- the number of a rule that is found by its name is some rule's
pub named_there : (name : List ℕ) (rules : List Rule) (r : Rule) → named rules name ≡ Some r → list_any (λ (q : Rule). nat_eq q.id r.id) rules ≡ true
named_there name [] r e = absurd (none-some r e)
named_there name (s ∷ rules) r e = by (same_name s.name name) refl (named_there name rules r)
  where
    or-second : (b : Bool) → list_any (λ (q : Rule). nat_eq q.id r.id) rules ≡ true → (b || list_any (λ (q : Rule). nat_eq q.id r.id) rules) ≡ true
    or-second true h = refl
    or-second false h = h

    by : (b : Bool) → same_name s.name name ≡ b → (named rules name ≡ Some r → list_any (λ (q : Rule). nat_eq q.id r.id) rules ≡ true) →
        (nat_eq s.id r.id || list_any (λ (q : Rule). nat_eq q.id r.id) rules) ≡ true
    by true f rest =
        ap (λ (b : Bool). b || list_any (λ (q : Rule). nat_eq q.id r.id) rules)
        (ap (λ (q : Rule). nat_eq q.id r.id) (same_Some s r (sym (ap (λ (b : Bool). cond b (Some s) (named rules name)) f) ∙ e)) ∙ same_number r.id)
    by false f rest = or-second (nat_eq s.id r.id) (rest (sym (ap (λ (b : Bool). cond b (Some s) (named rules name)) f) ∙ e))

pub active-set : (set new : List Bool) (rules : List Rule) (n : ℕ) (active : Bool) → HasActive set rules → list_any (λ (r : Rule). nat_eq r.id n) rules ≡ true →
    ((id : ℕ) → flag_at new id ≡ cond (nat_eq id n) active (flag_at set id)) → HasActive new (with_active rules n active)
active-set set new rules n active h there is id =
    is id ∙ ap (λ (b : Bool). cond (nat_eq id n) active b) (h id) ∙ by (nat_eq id n) refl ∙ sym (any-map (λ (r : Rule). nat_eq r.id id && r.active) (set_active n active) rules)
  where
    after : Rule → ℕ → Bool
    after r k = nat_eq (set_active n active r).id k && (set_active n active r).active

    own : (r : Rule) (b : Bool) → nat_eq r.id n ≡ b → after r n ≡ (b && active)
    own r true f = (λ i. nat_eq (cond (f i) (record r { active = active }) r).id n && (cond (f i) (record r { active = active }) r).active) ∙ (λ i. f i && active)
    own r false f = (λ i. nat_eq (cond (f i) (record r { active = active }) r).id n && (cond (f i) (record r { active = active }) r).active) ∙ (λ i. f i && r.active)

    other : (r : Rule) (b : Bool) → nat_eq id n ≡ false → nat_eq r.id n ≡ b → after r id ≡ (nat_eq r.id id && r.active)
    other r true e f =
        let apart : nat_eq r.id id ≡ false = ap (λ (m : ℕ). nat_eq m id) (eqb-true r.id n f) ∙ other_number id n e in
        (λ i. nat_eq (cond (f i) (record r { active = active }) r).id id && (cond (f i) (record r { active = active }) r).active) ∙ (λ i. apart i && active) ∙ (λ i. sym apart i && r.active)
    other r false e f = λ i. nat_eq (cond (f i) (record r { active = active }) r).id id && (cond (f i) (record r { active = active }) r).active

    by : (b : Bool) → nat_eq id n ≡ b → cond b active (is_active rules id) ≡ list_any (λ r. after r id) rules
    by true e =
        sym (ap (λ (m : ℕ). list_any (λ r. after r m) rules) (eqb-true id n e)
        ∙ any-same (λ r. after r n) (λ r. nat_eq r.id n && active) rules (λ r. own r (nat_eq r.id n) refl)
        ∙ any-both (λ (r : Rule). nat_eq r.id n) active rules ∙ (λ i. there i && active))
    by false e = sym (any-same (λ r. after r id) (λ r. nat_eq r.id id && r.active) rules (λ r. other r (nat_eq r.id n) e refl))

-- ---- a rule changed, which stays active or not

-- a test that passes the changed rule as it was passes as many
pub any-changed : (f : Rule → Bool) (change : Rule → Rule) → ((r : Rule) → f (change r) ≡ f r) → (rules : List Rule) (n : ℕ) → list_any f (map (change_numbered n change) rules) ≡ list_any f rules
any-changed f change same rules n = any-map f (change_numbered n change) rules ∙ any-same (λ r. f (change_numbered n change r)) f rules (λ r. by r (nat_eq r.id n))
  where
    by : (r : Rule) (b : Bool) → f (cond b (change r) r) ≡ f r
    by r true = same r
    by r false = refl

pub active-same : (set : List Bool) (change : Rule → Rule) → ((r : Rule) → ((change r).id ≡ r.id) × ((change r).active ≡ r.active)) → (rules : List Rule) (n : ℕ) → HasActive set rules → HasActive set (map (change_numbered n change) rules)
active-same set change same rules n h id =
    h id ∙ sym (any-changed (λ (r : Rule). nat_eq r.id id && r.active) change (λ r i. nat_eq ((same r).0 i) id && (same r).1 i) rules n)
