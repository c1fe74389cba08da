use Rattle.std.proofs.Common.{◌≡◌, ◌++◌, map, take}
use Rattle.sb_postgres.specs.Lines.{shown}
use Rattle.sb_postgres.proofs.query.draft.push_shown.Given as goal

abbrev pub invariant-loop-b : goal.invariant-loop-b
invariant-loop-b l = l.out.items ≡ l.fn.out.items ++ map (shown l.kind) (take l.b-index l.bytes)
