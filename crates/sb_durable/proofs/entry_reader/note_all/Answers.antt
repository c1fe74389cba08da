use Rattle.std.proofs.Common.{arith}
use Rattle.sb_durable.proofs.Parts.{front_at}
use Rattle.sb_durable.proofs.entry_reader.note_all.Goals as goal

pub returns-then-needs-left : goal.returns-then-needs-left
returns-then-needs-left c = front_at _ _ c.loop-entry.entry-index (omega arith) c.loop-entry.invariant
