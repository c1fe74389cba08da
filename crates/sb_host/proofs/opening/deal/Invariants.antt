use Rattle.std.proofs.Common.{◌≡◌, []}
use Rattle.sb_desk.specs.Kept.{AreDealt}
use Rattle.sb_host.specs.Opening.{left_in}
use Rattle.sb_host.proofs.opening.deal.Given as goal

abbrev pub invariant-loop-at : goal.invariant-loop-at
invariant-loop-at l = (l.block.table_id ≡ l.table.table_id) × (l.block.me ≡ (left_in l.cell l._at, [])) × AreDealt l.table.table_id l.cell l._at l.seats.items
