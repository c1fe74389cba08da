use Rattle.std.proofs.Common.{◌≡◌, ◌++◌, drop}
use Rattle.sb_value.specs.Table.{table_at}
use Rattle.sb_eval.specs.Statement as spec
use Rattle.sb_eval.proofs.statement.inserts.Given as goal

-- the inserts so far stand before those of the rows that are left
abbrev pub invariant-loop-row : goal.invariant-loop-row
invariant-loop-row g l =
    let seen = g.S.Sources.seen l.sources in
    spec.insert_changes seen l.table (table_at seen.tables l.table).next l.row-items ≡ l.changes.items ++ spec.insert_changes seen l.table l.number (drop l.row-index l.row-items)
