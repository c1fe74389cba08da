use Rattle.std.proofs.Common.{◌≡◌, ◌<◌, ℕ, List, take, length, get_or, subst, false}
use Rattle.sb_priority.proofs.ListLaws.{has, different}
use Rattle.sb_priority.proofs.list.RuleList.as_slice.Goals as goal

pub returns-clause-different : goal.returns-clause-different
returns-clause-different c =
    subst (λ (xs : List ℕ). (k : ℕ) → k < length xs → has (take k xs) (get_or xs k 0) ≡ false) c.self.view_is
    (λ k low. different c.self.inside.rules c.self.inside.places c.self.inside.count k c.self.invariant.placed low)
