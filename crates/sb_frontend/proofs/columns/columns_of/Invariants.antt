use Rattle.std.proofs.Common.{◌≡◌, map, take}
use Rattle.sb_postgres.specs.Answers.{column_seen}
use Rattle.sb_frontend.specs.Columns.{column_of}
use Rattle.sb_frontend.proofs.columns.columns_of.Given as goal

abbrev pub invariant-loop-heading : goal.invariant-loop-heading
invariant-loop-heading l = map column_seen l.columns.items ≡ map column_of (take l.heading-index l.headings)
