use Rattle.std.proofs.Common.{◌≡◌, ◌++◌, ◌+◌, ◌-◌}
use Rattle.sb_postgres.specs.Drafts.{places}
use Rattle.sb_postgres.proofs.query.draft.push_places.Given as goal

abbrev pub invariant-loop-place : goal.invariant-loop-place
invariant-loop-place l = l.out.items ++ places l.place (l.at + l.count - l.place) ≡ l.fn.out.items ++ places l.at l.count
