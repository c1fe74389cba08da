use Rattle.std.proofs.Common.{◌≡◌, true, drop, All}
use Rattle.sb_cell.specs.Tenants.{Cell, hosts}
use Rattle.sb_dump.specs.Dumps.{IsSendable}
use Rattle.sb_dump.specs.Playing.{AreSent}
use Rattle.sb_dump.proofs.play.send_all.Given as goal

-- once the lines that are left are sent, all are
abbrev pub invariant-loop-line : goal.invariant-loop-line
invariant-loop-line l = record {
  hosted : hosts l.cell l.id ≡ true;
  sent : (new : Cell) → AreSent l.id (drop l.line-index l.lines) l.cell new → AreSent l.id l.lines l.fn.cell new;
  sendable : All IsSendable (drop l.line-index l.lines) → All IsSendable l.lines;
}
