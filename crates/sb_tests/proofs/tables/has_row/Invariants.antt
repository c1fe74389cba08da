use Rattle.std.proofs.Common.{◌≡◌, ◌==◌, find, option_map}
use Rattle.sb_value.specs.Table.{row_at}
use Rattle.sb_tests.proofs.tables.has_row.Given as goal

-- a row of that number is among those that are left if there is one
abbrev pub invariant-loop-number : goal.invariant-loop-number
invariant-loop-number l =
    (goal.iterator-loop-number).can_next l.number-iterator × (goal.iterator-loop-number).is_finite l.number-iterator
    × (row_at l.table.table l.tuple ≡ option_map (λ r. r.1) (find (λ r. r.0 == l.tuple) l.number-iterator))
