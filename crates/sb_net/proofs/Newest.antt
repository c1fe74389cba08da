-- The newest of the records that a walk selects, and that a rule that new changes trigger is met at one.
use Rattle.std.proofs.Common.{◌≡◌, ◌⊎◌, inl, inr, ℕ, ◌+◌, ◌≤◌, Bool, true, false, ◌||◌, ◌&&◌, cond, nat_le, List, [], ◌∷◌, ◌++◌, reverse, Option, None, refl, sym, ap, subst, ◌∙◌, arith, eq-eqb, append_assoc}
use Rattle.std.specs.List.{list_any}
use Rattle.std.proofs.lemmas.Bool.{or_left, or_right, or_cases}
use Rattle.std.proofs.lemmas.List.{reverse-append}
use Rattle.std.proofs.lemmas.List.Folds.{list_any-append}
use Rattle.std.proofs.lemmas.List.Elements.{filter-append}
use Rattle.sb_value.specs.NetEffect.{is_operation}
use Rattle.sb_value.specs.declared.change.Change.{Change}
use Rattle.sb_value.specs.declared.net.Net.{Net}
use Rattle.sb_value.specs.declared.net.Triggers.{Triggers}
use Rattle.sb_rawlog.specs.Records.{Record, Rising, selected, walk}
use Rattle.sb_net.specs.Newest.{begins_at}

-- ---- a net effect that is asked at the newest change alone

pub asked_elsewhere : (b : Bool) (net : Option Net) → b ≡ false → None ≡ cond b net None
asked_elsewhere b net e = ap (λ c. cond c net None) (sym e)

pub asked_here : (b : Bool) (net : Option Net) → b ≡ true → net ≡ cond b net None
asked_here b net e = ap (λ c. cond c net None) (sym e)

pub asked_operation : (triggers : Triggers) (b : Bool) (net : Option Net) → is_operation triggers (cond b net None) ≡ (b && is_operation triggers net)
asked_operation triggers true net = refl
asked_operation triggers false net = refl

-- ---- a record of a list

-- the record stands in the list
pub record Stands (rs : List Record) (r : Record) : Type 0 where
  pub before : List Record
  pub behind : List Record
  pub are : rs ≡ before ++ r ∷ behind

-- a record of the list that is selected meets the test
abbrev MeetsAt : (Record → Bool) → (Change → Bool) → ℕ → List Record → Type 0
MeetsAt p q since rs = (r : Record) × (Stands rs r × (((nat_le since r.0 && q r.1) ≡ true) × (p r ≡ true)))

further : (p : Record → Bool) (q : Change → Bool) (since : ℕ) (r : Record) (rs : List Record) → MeetsAt p q since rs → MeetsAt p q since (r ∷ rs)
further p q since r rs on = let at = on.1.0 in (on.0, (record { before = r ∷ at.before; behind = at.behind; are = ap (λ l. r ∷ l) at.are }, on.1.1))

-- a test that a list of records meets is met at one that stands in it
pub found_at : (p : Record → Bool) (q : Change → Bool) (since : ℕ) (rs : List Record) → list_any p (selected q since rs) ≡ true → MeetsAt p q since rs
unfolding selected
found_at p q since [] e = absurd (cc)
found_at p q since (r ∷ rs) e =
    elim (nat_le since r.0 && q r.1) as (λ b. (nat_le since r.0 && q r.1) ≡ b → list_any p (cond b (r ∷ selected q since rs) (selected q since rs)) ≡ true → MeetsAt p q since (r ∷ rs)) [
      | true ↦ λ it h. elim (or_cases (p r) (list_any p (selected q since rs)) h) [
        | inl here ↦ (r, (record { before = []; behind = rs; are = refl }, (it, here)))
        | inr there ↦ further p q since r rs (found_at p q since rs there)
      ]
      | false ↦ λ _ h. further p q since r rs (found_at p q since rs h)
    ] refl e

-- and where it is met at one, the list meets it
pub meets_at : (p : Record → Bool) (q : Change → Bool) (since : ℕ) (rs : List Record) (r : Record) → Stands rs r → (nat_le since r.0 && q r.1) ≡ true → p r ≡ true → list_any p (selected q since rs) ≡ true
unfolding selected
meets_at p q since rs r at it here =
    ap (λ l. list_any p (selected q since l)) at.are
    ∙ ap (list_any p) (filter-append (λ (s : Record). nat_le since s.0 && q s.1) at.before (r ∷ at.behind) ∙ ap (λ b. selected q since at.before ++ cond b (r ∷ selected q since at.behind) (selected q since at.behind)) it)
    ∙ list_any-append p (selected q since at.before) (r ∷ selected q since at.behind)
    ∙ or_right (list_any p (selected q since at.before)) (p r || list_any p (selected q since at.behind)) (or_left (p r) (list_any p (selected q since at.behind)) here)

-- ---- the newest record that is selected

module _ (q : Change → Bool) (since : ℕ) where
  -- the record is selected, and none behind it
  pub record IsLast (rs : List Record) (r : Record) : Type 0 where
    pub at : Stands rs r
    pub it : (nat_le since r.0 && q r.1) ≡ true
    pub none : selected q since at.behind ≡ []

  last_in : (rs : List Record) → (selected q since rs ≡ []) ⊎ ((r : Record) × IsLast rs r)
  unfolding selected
  last_in [] = inl refl
  last_in (r ∷ rs) = elim (last_in rs) [
    | inl none ↦ elim (nat_le since r.0 && q r.1) as (λ b. (nat_le since r.0 && q r.1) ≡ b → (cond b (r ∷ selected q since rs) (selected q since rs) ≡ []) ⊎ ((s : Record) × IsLast (r ∷ rs) s)) [
      | true ↦ λ e. inr (r, record { at = record { before = []; behind = rs; are = refl }; it = e; none = none })
      | false ↦ λ _. inl none
    ] refl
    | inr last ↦ let l = last.1 in inr (last.0, record { at = record { before = r ∷ l.at.before; behind = l.at.behind; are = ap (λ k. r ∷ k) l.at.are }; it = l.it; none = l.none })
  ]

  -- what is selected ends with it
  pub ends_with : (rs : List Record) (r : Record) → (l : IsLast rs r) → selected q since rs ≡ selected q since l.at.before ++ r ∷ []
  unfolding selected
  ends_with rs r l =
      ap (selected q since) l.at.are
      ∙ filter-append (λ (s : Record). nat_le since s.0 && q s.1) l.at.before (r ∷ l.at.behind)
      ∙ ap (λ b. selected q since l.at.before ++ cond b (r ∷ selected q since l.at.behind) (selected q since l.at.behind)) l.it
      ∙ ap (λ k. selected q since l.at.before ++ r ∷ k) l.none

  -- and the walk begins with it
  pub begins_with : (rs : List Record) (r : Record) → IsLast rs r → begins_at r.0 (walk q since rs) ≡ true
  unfolding walk
  begins_with rs r l =
      ap (λ k. begins_at r.0 (reverse k)) (ends_with rs r l)
      ∙ ap (begins_at r.0) (reverse-append (selected q since l.at.before) (r ∷ []))
      ∙ eq-eqb r.0 r.0 refl

  rises_from : (low clock : ℕ) (rs : List Record) (r : Record) (behind : List Record) → Rising low (rs ++ r ∷ behind) clock → low ≤ r.0
  rises_from low clock [] r behind up = up.0
  rises_from low clock (s ∷ rs) r behind up = let first = up.0 in let on = rises_from (s.0 + 1) clock rs r behind up.1 in omega arith

  rises_behind : (low clock : ℕ) (rs : List Record) (r : Record) (behind : List Record) → Rising low (rs ++ r ∷ behind) clock → Rising r.0 (r ∷ behind) clock
  rises_behind low clock [] r behind up = ((let here = up.0 in omega arith), up.1)
  rises_behind low clock (s ∷ rs) r behind up = rises_behind (s.0 + 1) clock rs r behind up.1

  -- where a record is selected, there is a newest one, which isn't older
  pub newest_in : (clock : ℕ) (rs : List Record) (r : Record) → Rising 0 rs clock → Stands rs r → (nat_le since r.0 && q r.1) ≡ true → (d : Record) × (IsLast rs d × (r.0 ≤ d.0))
  unfolding selected
  newest_in clock rs r up at it = elim (last_in (r ∷ at.behind)) [
    | inl none ↦ absurd (let some = ap (λ b. cond b (r ∷ selected q since at.behind) (selected q since at.behind)) (sym it) ∙ none in cc)
    | inr last ↦
        let l = last.1 in let d = last.0 in
        let rises = rises_behind 0 clock at.before r at.behind (subst (λ k. Rising 0 k clock) at.are up) in (
          d,
          (
            record {
              at = record {
                before = at.before ++ l.at.before;
                behind = l.at.behind;
                are = at.are ∙ ap (λ k. at.before ++ k) l.at.are ∙ sym (append_assoc at.before l.at.before (d ∷ l.at.behind));
              };
              it = l.it;
              none = l.none;
            },
            rises_from r.0 clock l.at.before d l.at.behind (subst (λ k. Rising r.0 k clock) l.at.are rises),
          ),
        )
  ]
