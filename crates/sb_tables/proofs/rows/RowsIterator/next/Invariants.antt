use Rattle.std.proofs.Common.{◌≡◌, length}
use Rattle.sb_tables.specs.Slots.{live_rows}
use Rattle.sb_tables.proofs.rows.RowsIterator.next.Given as goal

-- the slots that were passed hold deleted rows
abbrev pub invariant-loop-slot : goal.invariant-loop-slot
invariant-loop-slot l = live_rows l.initial.self-inside.slots.now ≡ live_rows l.self-inside.slots.now

abbrev pub decreases-loop-slot : goal.decreases-loop-slot
decreases-loop-slot l = length l.self-inside.slots.now
