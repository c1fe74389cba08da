use Rattle.std.proofs.Common.{◌≡◌, ◌++◌, length}
use Rattle.sb_value.specs.Table.{table_at}
use Rattle.sb_eval.specs.Statement as spec
use Rattle.sb_eval.proofs.statement.tuple_inserts.Given as goal

-- the inserts so far stand before those of the rows that are left
abbrev pub invariant-more : goal.invariant-more
invariant-more g l =
    let seen = g.S.Sources.seen l.sources in
    spec.insert_changes seen l.table (table_at seen.tables l.table).next l.rows ≡ l.changes.items ++ spec.insert_changes seen l.table l.number l.left

abbrev pub decreases-more : goal.decreases-more
decreases-more g l = length l.left
