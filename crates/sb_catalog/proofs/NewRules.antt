-- The pairs that a new rule brings.
use Rattle.std.proofs.Common.{◌≡◌, ◌∙◌, ℕ, Bool, true, false, ◌||◌, cond, nat_eq, List, [], ◌∷◌, map, find, Option, Some, None, is_some, option_map, Result, Ok, Err, inl, inr, refl, sym, ap, eqb-true}
use Rattle.std.proofs.lemmas.Bool.{false≢true, or_cases}
use Rattle.std.specs.List.{list_any}
use Rattle.std.specs.Prelude.{OnOk, OnErr}
use Rattle.std.proofs.lemmas.Option.{none-some}
use Rattle.sb_value.specs.Name.{same_name}
use Rattle.sb_catalog.specs.Ruleset.{Ruleset}
use Rattle.sb_catalog.specs.Sets.{has_name, members_of}
use Rattle.sb_value.specs.declared.refusal.Refusal.{Refusal}
use Rattle.sb_value.specs.declared.refusal.Refusal.TheVariants.{NoRule, TooManyRules}
use Rattle.sb_syntax.specs.Tree.{Name}
use Rattle.sb_check.specs.Names.{and_then, required, some_or}
use Rattle.sb_priority.specs.Ranks.{pairs_of}
use Rattle.sb_catalog.specs.declared.rule.Rule.{Rule}
use Rattle.sb_catalog.specs.Rules.{AreThere, free_rule, has_room, named, numbered, rule_named}
use Rattle.sb_catalog.specs.Definitions.{acyclic, new_pairs, rules_named}
use Rattle.sb_catalog.proofs.LeastFree.{has}
use Rattle.sb_catalog.proofs.Noted.{some_numbered}
use Rattle.sb_catalog.proofs.Active.{named_there}

pub pairs_known : (rules : List Rule) (pairs : List (ℕ × ℕ)) (precedes follows : List Name) (before after : List ℕ) (rule : ℕ) →
    rules_named rules precedes ≡ Ok before → rules_named rules follows ≡ Ok after → has_room rules ≡ true → rule ≡ free_rule rules →
    new_pairs rules pairs precedes follows ≡ acyclic rules pairs (pairs_of rule before after)
pairs_known rules pairs precedes follows before after rule b a room number =
    (λ i. and_then (b i) (λ x. and_then (a i) (λ y. required (room i) TooManyRules (acyclic rules pairs (pairs_of (free_rule rules) x y)))))
    ∙ ap (λ (id : ℕ). acyclic rules pairs (pairs_of id before after)) (sym number)

-- a ruleset without members of its name isn't there
pub no_ruleset : (sets : List Ruleset) (name : Name) → members_of sets name ≡ None → has_name sets name ≡ false
no_ruleset [] name e = refl
no_ruleset (s ∷ sets) name e = by (same_name s.name name) e (no_ruleset sets name)
  where
    by : (b : Bool) → option_map (λ (x : Ruleset). x.rules) (cond b (Some s) (find (λ x. same_name x.name name) sets)) ≡ None → (members_of sets name ≡ None → has_name sets name ≡ false) → (b || has_name sets name) ≡ false
    by true f rest = absurd (none-some s.rules (sym f))
    by false f rest = rest f

-- one with members is there
pub a_ruleset : (sets : List Ruleset) (name : Name) (members : List Bool) → members_of sets name ≡ Some members → has_name sets name ≡ true
a_ruleset [] name members e = absurd (none-some members e)
a_ruleset (s ∷ sets) name members e = by (same_name s.name name) e (a_ruleset sets name members)
  where
    by : (b : Bool) → option_map (λ (x : Ruleset). x.rules) (cond b (Some s) (find (λ x. same_name x.name name) sets)) ≡ Some members → (members_of sets name ≡ Some members → has_name sets name ≡ true) → (b || has_name sets name) ≡ true
    by true f rest = refl
    by false f rest = rest f

same_Ok : (xs ys : List ℕ) (r : Result (List ℕ) Refusal) → r ≡ Ok xs → r ≡ Ok ys → xs ≡ ys
same_Ok xs ys r e f = cc

-- a number that no rule has isn't listed
pub unlisted : (rules : List Rule) (id : ℕ) → numbered rules id ≡ None → has (map (λ (r : Rule). r.id) rules) id ≡ false
unlisted rules id none = sym (some_numbered rules id) ∙ ap is_some none

-- a rule that is named is listed
pub named_listed : (rules : List Rule) (name : Name) (id : ℕ) → rule_named rules name ≡ Ok id → has (map (λ (r : Rule). r.id) rules) id ≡ true
named_listed rules name id e = by (named rules name) refl e
  where
    by : (found : Option Rule) → named rules name ≡ found → some_or NoRule (option_map (λ (r : Rule). r.id) found) ≡ Ok id → has (map (λ (r : Rule). r.id) rules) id ≡ true
    by None is h = absurd (cc)
    by (Some r) is h = any_mapped rules ∙ ap (λ (k : ℕ). list_any (λ (q : Rule). nat_eq q.id k) rules) (sym (same_ok r.id id h)) ∙ named_there name rules r is
      where
        same_ok : (a b : ℕ) → some_or NoRule (Some a) ≡ Ok b → a ≡ b
        same_ok a b q = cc

        any_mapped : (rs : List Rule) → has (map (λ (q : Rule). q.id) rs) id ≡ list_any (λ (q : Rule). nat_eq q.id id) rs
        any_mapped [] = refl
        any_mapped (q ∷ rs) = ap (λ b. nat_eq q.id id || b) (any_mapped rs)

-- so are all of a list
pub all_there : (rules : List Rule) (names : List Name) (ids : List ℕ) → rules_named rules names ≡ Ok ids → AreThere rules ids
all_there rules [] ids e id h = absurd (false≢true (ap (λ (l : List ℕ). has l id) (same_Ok [] ids (Ok []) refl e) ∙ h))
all_there rules (name ∷ names) ids e id h = by (rule_named rules name) refl (rules_named rules names) refl e (λ ys g. all_there rules names ys g id)
  where
    by : (first : Result ℕ Refusal) → rule_named rules name ≡ first → (rest : Result (List ℕ) Refusal) → rules_named rules names ≡ rest → and_then first (λ y. and_then rest (λ ys. Ok (y ∷ ys))) ≡ Ok ids →
        ((ys : List ℕ) → rules_named rules names ≡ Ok ys → has ys id ≡ true → has (map (λ (r : Rule). r.id) rules) id ≡ true) → has (map (λ (r : Rule). r.id) rules) id ≡ true
    by (Err x) f rest g all others = absurd (cc)
    by (Ok y) f (Err x) g all others = absurd (cc)
    by (Ok y) f (Ok ys) g all others =
        elim (or_cases (nat_eq y id) (has ys id) (ap (λ (l : List ℕ). has l id) (same_Ok (y ∷ ys) ids (Ok (y ∷ ys)) refl all) ∙ h)) [
          | inl here ↦ ap (has (map (λ (r : Rule). r.id) rules)) (sym (eqb-true y id here)) ∙ named_listed rules name y f
          | inr there ↦ others ys g there
        ]

-- an answer that can't be an error
pub agreed : {E : Type 0} (r : Result (Unit {0}) E) (A B : Type 0) → OnOk r A → OnErr r B → (B → ⊥) → A
agreed (Ok u) A B a b never = a
agreed (Err e) A B a b never = absurd (never b)
