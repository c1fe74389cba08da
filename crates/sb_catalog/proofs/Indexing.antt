-- An index and an order of rules that follow the rules.
use Rattle.std.proofs.Math.Bool.{or_assoc, and-false, and-true}
use Rattle.std.proofs.Common.{◌≡◌, ◌∙◌, ℕ, Bool, true, false, true≢false, not, ◌&&◌, ◌||◌, cond, nat_eq, List, [], ◌∷◌, ◌++◌, map, filter, Some, None, refl, sym, ap, eqb-true, eq-eqb, ne_eqb}
use Rattle.std.specs.List.{list_any}
use Rattle.std.specs.Cmp.{eq_by_cmp_equiv}
use Rattle.std.specs.Cmp.Lexicographic.{nat_list_cmp_total}
use Rattle.std.proofs.lemmas.Option.{none-some, same_Some}
use Rattle.std.proofs.lemmas.List.Folds.{list_any-append}
use Rattle.sb_value.specs.Name.{same_name}
use Rattle.sb_index.specs.Operation.{Operation, names}
use Rattle.sb_catalog.specs.declared.rule.Rule.{Rule}
use Rattle.sb_catalog.specs.Rules.{numbered, named, has_name, change_numbered, with_active, without_rule, AreNumbered}

pub same_number : (n : ℕ) → nat_eq n n ≡ true
same_number n = eq-eqb n n refl

turned : (m n : ℕ) → nat_eq m n ≡ nat_eq n m
turned m n = by (nat_eq m n) refl
  where
    by : (b : Bool) → nat_eq m n ≡ b → b ≡ nat_eq n m
    by true e = sym (eq-eqb n m (sym (eqb-true m n e)))
    by false e = sym (ne_eqb n m (λ same. absurd (clash (sym e ∙ eq-eqb m n (sym same)))))
      where
        clash : false ≡ true → ⊥
        clash f = cc

module _ (table : ℕ) (operation : Operation) (id : ℕ) where
  -- the rule has the operation under that number
  abbrev pub has : Rule → Bool
  has rule = rule.active && (nat_eq rule.table table && (nat_eq rule.id id && names rule.triggers operation))

  -- what is added for a rule is what the rule has when it is active
  pub added : (r : Rule) → ((nat_eq table r.table && nat_eq id r.id) && names r.triggers operation) ≡ (nat_eq r.table table && (nat_eq r.id id && names r.triggers operation))
  added r =
      (λ i. (turned table r.table i && turned id r.id i) && names r.triggers operation)
      ∙ by (nat_eq r.table table)
    where
      by : (b : Bool) → ((b && nat_eq r.id id) && names r.triggers operation) ≡ (b && (nat_eq r.id id && names r.triggers operation))
      by true = refl
      by false = refl

  pub one_more : (rules : List Rule) (r : Rule) → list_any has (rules ++ r ∷ []) ≡ (list_any has rules || has r)
  one_more rules r = list_any-append has rules (r ∷ []) ∙ by (list_any has rules) (has r)
    where
      by : (a b : Bool) → (a || (b || false)) ≡ (a || b)
      by true b = refl
      by false true = refl
      by false false = refl

  -- what is taken from the rule is taken where the rule has the number that goes
  taken : (gone : ℕ) (r : Rule) (same : Bool) → nat_eq r.id gone ≡ same → (has r && not (nat_eq id gone)) ≡ (has r && not same)
  taken gone r same e = by r.active (nat_eq r.table table) (nat_eq r.id id) refl
    where
      by : (a b c : Bool) → nat_eq r.id id ≡ c → ((a && (b && (c && names r.triggers operation))) && not (nat_eq id gone)) ≡ ((a && (b && (c && names r.triggers operation))) && not same)
      by true true true f = ap (λ (d : Bool). names r.triggers operation && not d) (ap (λ (n : ℕ). nat_eq n gone) (sym (eqb-true r.id id f)) ∙ e)
      by true true false f = refl
      by true false c f = refl
      by false b c f = refl

  -- a rule under that number keeps nothing, and another one has nothing to do with it
  none_other : (gone : ℕ) (r : Rule) → nat_eq r.id gone ≡ true → (has r && not (nat_eq id gone)) ≡ false
  none_other gone r e = taken gone r true e ∙ and-false (has r)

  still : (gone : ℕ) (r : Rule) → nat_eq r.id gone ≡ false → (has r && not (nat_eq id gone)) ≡ has r
  still gone r e = taken gone r false e ∙ and-true (has r)

  spread : (a b c : Bool) → ((a || b) && c) ≡ ((a && c) || (b && c))
  spread true b true = refl
  spread true true false = refl
  spread true false false = refl
  spread false b c = refl

  pub without : (gone : ℕ) (rules : List Rule) → list_any has (without_rule rules gone) ≡ (list_any has rules && not (nat_eq id gone))
  without gone [] = refl
  without gone (r ∷ rules) = by (nat_eq r.id gone) refl (without gone rules)
    where
      by : (b : Bool) → nat_eq r.id gone ≡ b → list_any has (without_rule rules gone) ≡ (list_any has rules && not (nat_eq id gone)) →
          list_any has (cond (not b) (r ∷ without_rule rules gone) (without_rule rules gone)) ≡ ((has r || list_any has rules) && not (nat_eq id gone))
      by true e rest = rest ∙ sym (spread (has r) (list_any has rules) (not (nat_eq id gone)) ∙ (λ i. none_other gone r e i || (list_any has rules && not (nat_eq id gone))))
      by false e rest = (λ i. sym (still gone r e) i || rest i) ∙ sym (spread (has r) (list_any has rules) (not (nat_eq id gone)))

  pub made_inactive : (gone : ℕ) (rules : List Rule) → list_any has (with_active rules gone false) ≡ (list_any has rules && not (nat_eq id gone))
  made_inactive gone [] = refl
  made_inactive gone (r ∷ rules) = by (nat_eq r.id gone) refl (made_inactive gone rules)
    where
      by : (b : Bool) → nat_eq r.id gone ≡ b → list_any has (with_active rules gone false) ≡ (list_any has rules && not (nat_eq id gone)) →
          (has (cond b (record r { active = false }) r) || list_any has (with_active rules gone false)) ≡ ((has r || list_any has rules) && not (nat_eq id gone))
      by true e rest = rest ∙ sym (spread (has r) (list_any has rules) (not (nat_eq id gone)) ∙ (λ i. none_other gone r e i || (list_any has rules && not (nat_eq id gone))))
      by false e rest = (λ i. sym (still gone r e) i || rest i) ∙ sym (spread (has r) (list_any has rules) (not (nat_eq id gone)))

  -- what the rule has when it is active
  abbrev pub would_have : Rule → Bool
  would_have r = nat_eq r.table table && (nat_eq r.id id && names r.triggers operation)

  -- no rule has the number, so none is made active
  none_active : (n : ℕ) (rules : List Rule) → numbered rules n ≡ None → with_active rules n true ≡ rules
  none_active n [] e = refl
  none_active n (s ∷ rules) e = by (nat_eq s.id n) e (none_active n rules)
    where
      by : (b : Bool) → cond b (Some s) (numbered rules n) ≡ None → (numbered rules n ≡ None → with_active rules n true ≡ rules) →
          cond b (record s { active = true }) s ∷ with_active rules n true ≡ s ∷ rules
      by true f rest = absurd (none-some s (sym f))
      by false f rest = ap (λ (l : List Rule). s ∷ l) (rest f)

  pub made_active : (rules : List Rule) (r : Rule) (n : ℕ) → AreNumbered rules → numbered rules n ≡ Some r → list_any has (with_active rules n true) ≡ (list_any has rules || would_have r)
  made_active [] r n d e = absurd (none-some r e)
  made_active (s ∷ rules) r n d e = by (nat_eq s.id n) refl e (made_active rules r n d.1)
    where
      first : (a : Bool) (h m : Bool) → (h || m) ≡ (((a && h) || m) || h)
      first true true m = refl
      first true false true = refl
      first true false false = refl
      first false true true = refl
      first false true false = refl
      first false false true = refl
      first false false false = refl

      by : (b : Bool) → nat_eq s.id n ≡ b → cond b (Some s) (numbered rules n) ≡ Some r →
          (numbered rules n ≡ Some r → list_any has (with_active rules n true) ≡ (list_any has rules || would_have r)) →
          (has (cond b (record s { active = true }) s) || list_any has (with_active rules n true)) ≡ ((has s || list_any has rules) || would_have r)
      by true f g rest =
          let none = ap (numbered rules) (sym (eqb-true s.id n f)) ∙ d.0 in
          (λ i. would_have s || list_any has (none_active n rules none i))
          ∙ first s.active (would_have s) (list_any has rules)
          ∙ (λ i. (has s || list_any has rules) || would_have (same_Some s r g i))
      by false f g rest = (λ i. has s || rest g i) ∙ sym (or_assoc (has s) (list_any has rules) (would_have r))

-- ---- the list of numbers

pub listed_without : (gone : ℕ) (rules : List Rule) → map (λ (r : Rule). r.id) (without_rule rules gone) ≡ filter (λ k. not (nat_eq k gone)) (map (λ (r : Rule). r.id) rules)
listed_without gone [] = refl
listed_without gone (r ∷ rules) = by (nat_eq r.id gone) (listed_without gone rules)
  where
    by : (b : Bool) → map (λ (s : Rule). s.id) (without_rule rules gone) ≡ filter (λ k. not (nat_eq k gone)) (map (λ (s : Rule). s.id) rules) → map (λ (s : Rule). s.id) (cond (not b) (r ∷ without_rule rules gone) (without_rule rules gone))
        ≡ cond (not b) (r.id ∷ filter (λ k. not (nat_eq k gone)) (map (λ (s : Rule). s.id) rules)) (filter (λ k. not (nat_eq k gone)) (map (λ (s : Rule). s.id) rules))
    by true rest = rest
    by false rest = ap (λ (l : List ℕ). r.id ∷ l) rest

pub listed_changed : (change : Rule → Rule) → ((r : Rule) → (change r).id ≡ r.id) → (id : ℕ) (rules : List Rule) → map (λ (r : Rule). r.id) (map (change_numbered id change) rules) ≡ map (λ (r : Rule). r.id) rules
listed_changed change keeps id [] = refl
listed_changed change keeps id (r ∷ rules) = λ i. by (nat_eq r.id id) i ∷ listed_changed change keeps id rules i
  where
    by : (b : Bool) → (cond b (change r) r).id ≡ r.id
    by true = keeps r
    by false = refl

pub listed_active : (id : ℕ) (active : Bool) (rules : List Rule) → map (λ (r : Rule). r.id) (with_active rules id active) ≡ map (λ (r : Rule). r.id) rules
listed_active id active rules = listed_changed (λ r. record r { active = active }) (λ r. refl) id rules

-- ---- rules that are found

-- a rule that is found by its name is found by its number
pub named_number : (name : List ℕ) (rules : List Rule) (r : Rule) → AreNumbered rules → named rules name ≡ Some r → numbered rules r.id ≡ Some r
named_number name [] r d e = absurd (none-some r e)
named_number name (s ∷ rules) r d e = by (same_name s.name name) e (named_number name rules r d.1)
  where
    behind : (b : Bool) → nat_eq s.id r.id ≡ b → numbered rules r.id ≡ Some r → cond b (Some s) (numbered rules r.id) ≡ Some r
    behind true same f = absurd (none-some r (sym (ap (numbered rules) (sym (eqb-true s.id r.id same)) ∙ d.0) ∙ f))
    behind false other f = f

    by : (b : Bool) → cond b (Some s) (named rules name) ≡ Some r → (named rules name ≡ Some r → numbered rules r.id ≡ Some r) → cond (nat_eq s.id r.id) (Some s) (numbered rules r.id) ≡ Some r
    by true f rest = (λ i. cond (eq-eqb s.id r.id (ap (λ (x : Rule). x.id) (same_Some s r f)) i) (Some s) (numbered rules r.id)) ∙ f
    by false f rest = behind (nat_eq s.id r.id) refl (rest f)

pub named_last : (rules : List Rule) (r : Rule) → has_name rules r.name ≡ false → named (rules ++ r ∷ []) r.name ≡ Some r
named_last [] r e = λ i. cond ((eq_by_cmp_equiv nat_list_cmp_total).refl r.name i) (Some r) None
named_last (s ∷ rules) r e = by (same_name s.name r.name) e (named_last rules r)
  where
    by : (b : Bool) → (b || has_name rules r.name) ≡ false → (has_name rules r.name ≡ false → named (rules ++ r ∷ []) r.name ≡ Some r) → cond b (Some s) (named (rules ++ r ∷ []) r.name) ≡ Some r
    by true f rest = absurd (true≢false f)
    by false f rest = rest f

pub without_last : (rules : List Rule) (r : Rule) → numbered rules r.id ≡ None → without_rule (rules ++ r ∷ []) r.id ≡ rules
without_last [] r e = λ i. cond (not (same_number r.id i)) (r ∷ []) []
without_last (s ∷ rules) r e = by (nat_eq s.id r.id) e (without_last rules r)
  where
    by : (b : Bool) → cond b (Some s) (numbered rules r.id) ≡ None → (numbered rules r.id ≡ None → without_rule (rules ++ r ∷ []) r.id ≡ rules) →
        cond (not b) (s ∷ without_rule (rules ++ r ∷ []) r.id) (without_rule (rules ++ r ∷ []) r.id) ≡ s ∷ rules
    by true f rest = absurd (none-some s (sym f))
    by false f rest = ap (λ (l : List Rule). s ∷ l) (rest f)

-- ---- a rule that isn't made after all

none_without : (n : ℕ) (rules : List Rule) → numbered rules n ≡ None → without_rule rules n ≡ rules
none_without n [] e = refl
none_without n (s ∷ rules) e = by (nat_eq s.id n) e (none_without n rules)
  where
    by : (b : Bool) → cond b (Some s) (numbered rules n) ≡ None → (numbered rules n ≡ None → without_rule rules n ≡ rules) → cond (not b) (s ∷ without_rule rules n) (without_rule rules n) ≡ s ∷ rules
    by true f rest = absurd (none-some s (sym f))
    by false f rest = ap (λ (l : List Rule). s ∷ l) (rest f)

pub undone : (table : ℕ) (operation : Operation) (id n : ℕ) (rules : List Rule) (here names : Bool) → numbered rules n ≡ None →
    ((list_any (has table operation id) rules || ((here && nat_eq id n) && names)) && not (nat_eq id n)) ≡ list_any (has table operation id) rules
undone table operation id n rules here names e =
    by (list_any (has table operation id) rules) here (nat_eq id n)
    ∙ sym (without table operation id n rules)
    ∙ ap (list_any (has table operation id)) (none_without n rules e)
  where
    by : (x a b : Bool) → ((x || ((a && b) && names)) && not b) ≡ (x && not b)
    by true a b = refl
    by false true true = last names
      where
        last : (c : Bool) → (c && false) ≡ false
        last true = refl
        last false = refl
    by false true false = refl
    by false false b = refl
