-- What a test of a rule stands on, as marks, times and changes move on.
use Rattle.std.proofs.Common.{◌≡◌, ◌∙◌, ◌⊎◌, inl, inr, ℕ, ◌≤◌, Bool, true, false, ◌&&◌, cond, nat_le, nat_lt, nat_eq, List, [], ◌∷◌, ◌++◌, filter, drop, Option, Some, None, refl, sym, ap, subst, arith, eqb-true}
use Rattle.std.proofs.lemmas.Bool.{le-ltb}
use Rattle.std.proofs.lemmas.List.{append-nil}
use Rattle.std.proofs.lemmas.List.Elements.{filter-append}
use Rattle.sb_value.specs.declared.change.Change.{Change}
use Rattle.sb_value.specs.declared.id.Who.{Who}
use Rattle.sb_value.specs.Laws.{AreLives}
use Rattle.sb_value.specs.NetEffect.{is_triggered}
use Rattle.sb_catalog.specs.declared.rule.Rule.{Rule}
use Rattle.sb_catalog.specs.Rules.{numbered}
use Rattle.sb_rawlog.specs.Changes.{is_by}
use Rattle.sb_rawlog.specs.Records.{Record, Rising}
use Rattle.sb_rawlog.specs.Sessions.{records_by, changes, changes_by, changes_since, changes_between, MarksCut, TimesCut}
use Rattle.sb_process.specs.Represents.{AreUntriggered}
use Rattle.sb_process.specs.Transactions.{Kept, mark_of, tested_of, ArePast}
use Rattle.sb_process.specs.Triggered.{is_hit, CanTest, CanTestAll}
use Rattle.sb_process.proofs.MarkLaws.{end-mark, drop-all}

-- ---- changes between two times

abbrev passes : ℕ → ℕ → Record → Bool
passes since until r = nat_le since r.0 && nat_lt r.0 until

-- a further change comes after them
pub between-kept : (who : Who) (since until clock : ℕ) (c : Change) (rs : List Record) → until ≤ clock → changes_between who since until (rs ++ (clock, c) ∷ []) ≡ changes_between who since until rs
unfolding records_by
between-kept who since until clock c rs h =
    ap (λ (l : List Record). changes (filter (passes since until) l)) (filter-append (λ (r : Record). is_by who r.1) rs ((clock, c) ∷ []))
    ∙ ap changes (filter-append (passes since until) (records_by who rs) (cond {A = List Record} (is_by who c) ((clock, c) ∷ []) []) ∙ ap (λ (l : List Record). filter (passes since until) (records_by who rs) ++ l) (none (is_by who c)) ∙ append-nil (filter (passes since until) (records_by who rs)))
  where
    late : (b : Bool) → cond {A = List Record} (b && nat_lt clock until) ((clock, c) ∷ []) [] ≡ []
    late true = ap (λ (b : Bool). cond {A = List Record} b ((clock, c) ∷ []) []) (le-ltb clock until h)
    late false = refl

    none : (b : Bool) → filter (passes since until) (cond {A = List Record} b ((clock, c) ∷ []) []) ≡ []
    none true = late (nat_le since clock)
    none false = refl

-- of no changes there are none
pub between-none : (who : Who) (since until : ℕ) (rs : List Record) → changes_by who rs ≡ [] → changes_between who since until rs ≡ []
between-none who since until rs e = none (records_by who rs) e
  where
    none : (l : List Record) → changes l ≡ [] → changes (filter (passes since until) l) ≡ []
    none [] e = refl
    none (r ∷ l) e = absurd (cc)

-- up to now they are all that came since
pub between-now : (who : Who) (since clock : ℕ) (rs : List Record) → Rising 0 rs clock → MarksCut rs → TimesCut rs → since ≤ clock → changes_between who since clock rs ≡ changes_since who since rs
between-now who since clock rs rising marks times le =
    let none : changes_since who clock rs ≡ [] =
    marks who clock ∙ ap (λ (n : ℕ). drop n (changes_by who rs)) (sym (end-mark who rs clock rising)) ∙ drop-all (changes_by who rs) in
    sym (append-nil (changes_between who since clock rs)) ∙ ap (λ (l : List Change). changes_between who since clock rs ++ l) (sym none) ∙ sym (times who since clock le)

-- ---- rules that were tested

pub still-untriggered : (who : Who) (old new : Kept) (rs more : List Record)
    → ((r : ℕ) → changes_between who (mark_of new who.session r) (tested_of new who.session r) more ≡ changes_between who (mark_of old who.session r) (tested_of old who.session r) rs)
    → (rules : List Rule) → AreUntriggered who old rs rules → AreUntriggered who new more rules
still-untriggered who old new rs more same [] h = tt
still-untriggered who old new rs more same (rule ∷ rules) h = (ap (is_triggered rule.triggers rule.table) (same rule.id) ∙ h.0, still-untriggered who old new rs more same rules h.1)

pub none-untriggered : (who : Who) (kept : Kept) (rs : List Record) → changes_by who rs ≡ [] → (rules : List Rule) → AreUntriggered who kept rs rules
none-untriggered who kept rs none [] = tt
none-untriggered who kept rs none (rule ∷ rules) = (
  ap (is_triggered rule.triggers rule.table) (between-none who (mark_of kept who.session rule.id) (tested_of kept who.session rule.id) rs none),
  none-untriggered who kept rs none rules,
)

untriggered-at : (who : Who) (kept : Kept) (rs : List Record) (rules : List Rule) → AreUntriggered who kept rs rules → (r : ℕ) (rule : Rule) → numbered rules r ≡ Some rule
    → is_triggered rule.triggers rule.table (changes_between who (mark_of kept who.session rule.id) (tested_of kept who.session rule.id) rs) ≡ false
untriggered-at who kept rs [] h r rule e = absurd (cc)
untriggered-at who kept rs (x ∷ rules) h r rule e =
    elim (nat_eq x.id r) as (λ b. cond b (Some x) (numbered rules r) ≡ Some rule
    → is_triggered rule.triggers rule.table (changes_between who (mark_of kept who.session rule.id) (tested_of kept who.session rule.id) rs) ≡ false) [
      | true ↦ λ e. let same : x ≡ rule = cc in subst (λ (y : Rule). is_triggered y.triggers y.table (changes_between who (mark_of kept who.session y.id) (tested_of kept who.session y.id) rs) ≡ false) same h.0
      | false ↦ λ e. untriggered-at who kept rs rules h.1 r rule e
    ] e

-- tuples' lives and rules that were tested are all that a test stands on
pub can-test : (who : Who) (kept : Kept) (rs : List Record) (rules : List Rule) → ((rule : Rule) → AreLives (changes_since who (mark_of kept who.session rule.id) rs)) → AreUntriggered who kept rs rules → CanTestAll who kept rs rules
can-test who kept rs rules lives h r = by (numbered rules r) refl
  where
    by : (o : Option Rule) → numbered rules r ≡ o → CanTest who kept rs o
    by None e = tt
    by (Some rule) e = (lives rule, untriggered-at who kept rs rules h r rule e)

-- a rule's number is its own
id-of : (rules : List Rule) (r : ℕ) (rule : Rule) → numbered rules r ≡ Some rule → rule.id ≡ r
id-of [] r rule e = absurd (cc)
id-of (x ∷ rules) r rule e =
    elim (nat_eq x.id r) as (λ b. nat_eq x.id r ≡ b → cond b (Some x) (numbered rules r) ≡ Some rule → rule.id ≡ r) [
      | true ↦ λ is e. let same : x ≡ rule = cc in ap (λ (y : Rule). y.id) (sym same) ∙ eqb-true x.id r is
      | false ↦ λ _ e. id-of rules r rule e
    ] refl e

-- ---- a rule that isn't hit is tested up to now

module _ (who : Who) (old new : Kept) (rs : List Record) (clock : ℕ) (rules : List Rule) (left time : ℕ) (which : (time ≡ clock) ⊎ (time ≡ tested_of old who.session left)) (marks : (r : ℕ) → mark_of new who.session r ≡ mark_of old who.session r)
    (tested : (r : ℕ) → tested_of new who.session r ≡ cond (nat_eq r left) time (tested_of old who.session r)) where
  pub past-left : ArePast old who.session clock → ArePast new who.session clock
  past-left h r = by (nat_eq r left) refl (tested r)
    where
      by : (b : Bool) → nat_eq r left ≡ b → tested_of new who.session r ≡ cond b time (tested_of old who.session r) → (mark_of new who.session r ≤ tested_of new who.session r) × (tested_of new who.session r ≤ clock)
      by true is e = elim which [
        | inl now ↦ (let a = (h r).0 in let b = (h r).1 in let m = marks r in omega (arith, e, now), omega (arith, e, now))
        | inr same ↦
            let q : tested_of new who.session r ≡ tested_of old who.session r = e ∙ same ∙ ap (λ x. tested_of old who.session x) (sym (eqb-true r left is)) in
            (let a = (h r).0 in let m = marks r in omega (arith, q), let b = (h r).1 in omega (arith, q))
      ]
      by false is e = (let a = (h r).0 in let m = marks r in omega arith, let b = (h r).1 in omega arith)

  pub can-left : ((since : ℕ) → since ≤ clock → changes_between who since clock rs ≡ changes_since who since rs) → ArePast old who.session clock → CanTestAll who old rs rules → is_hit who old rs (numbered rules left) ≡ false → CanTestAll who new rs rules
  can-left now past can missed r = by (numbered rules r) refl (can r)
    where
      by : (o : Option Rule) → numbered rules r ≡ o → CanTest who old rs o → CanTest who new rs o
      by None e h = tt
      by (Some rule) e h = (subst (λ (t : ℕ). AreLives (changes_since who t rs)) (sym (marks rule.id)) h.0, at (nat_eq rule.id left) refl (tested rule.id))
        where
          at : (b : Bool) → nat_eq rule.id left ≡ b → tested_of new who.session rule.id ≡ cond b time (tested_of old who.session rule.id)
              → is_triggered rule.triggers rule.table (changes_between who (mark_of new who.session rule.id) (tested_of new who.session rule.id) rs) ≡ false
          at true is t = elim which [
            | inl at_now ↦
                let number : r ≡ left = sym (id-of rules r rule e) ∙ eqb-true rule.id left is in
                let not_hit : is_hit who old rs (Some rule) ≡ false = ap (is_hit who old rs) (sym e ∙ ap (numbered rules) number) ∙ missed in
                let early : mark_of old who.session rule.id ≤ clock = (let a = (past rule.id).0 in let b = (past rule.id).1 in omega arith) in
                ap (is_triggered rule.triggers rule.table) ((λ i. changes_between who (marks rule.id i) ((t ∙ at_now) i) rs) ∙ now (mark_of old who.session rule.id) early) ∙ not_hit
            | inr same ↦
                let q : tested_of new who.session rule.id ≡ tested_of old who.session rule.id = t ∙ same ∙ ap (λ x. tested_of old who.session x) (sym (eqb-true rule.id left is)) in
                ap (is_triggered rule.triggers rule.table) (λ i. changes_between who (marks rule.id i) (q i) rs) ∙ h.1
          ]
          at false is t = ap (is_triggered rule.triggers rule.table) (λ i. changes_between who (marks rule.id i) (t i) rs) ∙ h.1
