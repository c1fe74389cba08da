use Rattle.std.proofs.Common.{◌≡◌, ◌≤◌, ◌-◌, length, drop}
use Rattle.sb_postgres.specs.Actions.{scoped}
use Rattle.sb_postgres.specs.Depths.{depth_of}
use Rattle.sb_postgres.specs.Drafting.{drafted}
use Rattle.sb_postgres.specs.Drafts.{drafted_lines}
use Rattle.sb_postgres.specs.Cutting.{lines_from}
use Rattle.sb_postgres.specs.Scan.{pieces}
use Rattle.sb_postgres.proofs.Fine.{Fine}
use Rattle.sb_postgres.proofs.Places.{Stands}
use Rattle.sb_postgres.proofs.query.reading.statement_from.Given as goal

abbrev pub invariant-loop-at : goal.invariant-loop-at
invariant-loop-at l = record {
  so_far : drafted_lines (drafted l.draft) (scoped l.scope (pieces 0 l.at (drop l.at l.text))) ≡ lines_from l.from l.text;
  stands : Stands l.text (drafted l.draft);
  fine : Fine (drafted l.draft);
  behind : l.from ≤ l.at;
  begun : l.at ≡ l.from → length l.draft.bytes.items ≡ 0;
  deep : depth_of l.scope ≤ l.at;
  within : l.at ≤ length l.text;
}

abbrev pub decreases-loop-at : goal.decreases-loop-at
decreases-loop-at l = length l.text - l.at
