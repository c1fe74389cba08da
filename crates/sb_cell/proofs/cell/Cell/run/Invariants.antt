use Rattle.std.proofs.Common.{◌≡◌, ◌≤◌, length, take, vec_len, vec_capacity}
use Rattle.sb_cell.specs.Events.{AreEvents}
use Rattle.sb_cell.specs.Tenants.{IsSame, hosts, trails}
use Rattle.sb_cell.proofs.cell.Cell.run.Given as goal

-- the events so far have their answers, and there is room for those of the others
abbrev pub invariant-loop-event : goal.invariant-loop-event
invariant-loop-event l =
    AreEvents l.fn.self.bound (hosts l.fn.self) (trails l.fn.self) (take l.event-index l.events) l.list.items (trails l.self)
    × IsSame l.fn.self l.self
    × (vec_len l.list ≡ l.event-index)
    × (length l.events ≤ vec_capacity l.list)
