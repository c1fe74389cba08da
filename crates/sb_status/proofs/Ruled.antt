-- The clauses of a rule stand at its place.
use Rattle.std.proofs.Common.{◌≡◌, ℕ, zero, suc, List, [], ◌∷◌, length, Some, slice_get, refl, ap, subst}
use Rattle.std.proofs.lemmas.Option.{none-some, same_Some}
use Rattle.sb_catalog.specs.Clauses.{AreClausesOf, HaveClauses, parts_of}
use Rattle.sb_catalog.specs.declared.clauses.RuleClauses.{RuleClauses}
use Rattle.sb_catalog.specs.declared.rule.Rule.{Rule}

pub as_many : (rules : List Rule) (all : List RuleClauses) → HaveClauses rules all → length all ≡ length rules
as_many [] [] h = refl
as_many [] (x ∷ all) h = absurd h
as_many (r ∷ rules) [] h = absurd h
as_many (r ∷ rules) (x ∷ all) h = ap suc (as_many rules all h.1)

pub clauses_at : (rules : List Rule) (all : List RuleClauses) (i : ℕ) (r : Rule) (x : RuleClauses) → HaveClauses rules all → slice_get rules i ≡ Some r → slice_get all i ≡ Some x
    → AreClausesOf x (parts_of r)
clauses_at [] all i r x h e f = absurd (none-some r e)
clauses_at (s ∷ rules) [] i r x h e f = absurd h
clauses_at (s ∷ rules) (y ∷ all) zero r x h e f =
    subst (λ (q : Rule). AreClausesOf x (parts_of q)) (same_Some s r e) (subst (λ (c : RuleClauses). AreClausesOf c (parts_of s)) (same_Some y x f) h.0)
clauses_at (s ∷ rules) (y ∷ all) (suc i) r x h e f = clauses_at rules all i r x h.1 e f
