-- A host may be shared by threads, and a session may go to another one: what the locks hold may.
use denote.RattleType.{RattleType}
use denote.Ref.{NamedLft}
use denote.Param.Send.{IsSend, IsSync, sendable, view_send, view_sync}
use Rattle.std.proofs.Crossing.{crosses, frees, send, sync}
use Rattle.std.specs.declared.sync.ledger.Ledger as ledger
use Rattle.std.proofs.option.Option.TheSendSync as option
use Rattle.std.proofs.sync.Mutex.TheSendSync as mutex
use Rattle.std.specs.contracts.sync.Mutex as Mutex
use Rattle.std.specs.contracts.option.Option as Option
use Rattle.std.proofs.sync.ledger.Share.TheSendSync as share
use Rattle.crossbeam_utils.proofs.cache_padded.CachePadded.TheSendSync as padded
use Rattle.crossbeam_utils.specs.contracts.cache_padded.CachePadded as CachePadded
use Rattle.atomic_table.proofs.shared.Seat.TheSendSync as seat
use Rattle.atomic_table.proofs.owned.Table.TheSendSync as seats
use Rattle.sb_tenant.below.sb_process.proofs.step_watch.StepWatch.TheSendSync as watch
use Rattle.sb_desk.specs.declared.naming.Naming as naming
use Rattle.sb_desk.specs.contracts.desk.Desk as Desk
use Rattle.sb_desk.specs.contracts.desk.Desk.TheInside as desk
use Rattle.sb_desk.proofs.receipts.Receipts.TheSendSync as receipts
use Rattle.sb_host.specs.contracts.lock_group.LockGroup as LockGroup
use Rattle.sb_host.specs.contracts.lock_group.LockGroup.TheInside as lock_group
use Rattle.sb_host.proofs.closed_parts.ClosedParts.TheSendSync as closed_parts
use Rattle.sb_host.specs.contracts.host.Host as Host
use Rattle.sb_host.specs.contracts.host.Host.TheInside as host
use Rattle.sb_host.specs.contracts.session.Session as Session
use Rattle.sb_host.specs.contracts.session.Session.TheInside as session
use Rattle.sb_cell.proofs.Sending.{cell_send}

-- ---- a host's locks

module _ (N : RattleType) (n : naming.Ghosts N.Denot) (l : ledger.Ghosts N.Denot) where
  desk_send : (F : RattleType) → IsSend (Desk.the_row N F n l)
  desk_send F = view_send (desk.the_row N F n l) _ _ _ _ (search (sendable, crosses, cell_send, share.the_send, seat.the_send, option.the_send) depth 40)

  lock_sync : (F : RattleType) → IsSync (Mutex.the_row (Desk.the_row N F n l))
  lock_sync F = search (sendable, crosses, desk_send, mutex.the_sync) depth 40

  padded_sync : (F : RattleType) → IsSync (CachePadded.the_row (Mutex.the_row (Desk.the_row N F n l)))
  padded_sync F = search (sendable, crosses, lock_sync, padded.the_sync) depth 40

  held_sync : (F : RattleType) → IsSync (Option.the_field (CachePadded.the_row (Mutex.the_row (Desk.the_row N F n l)))).row
  held_sync F = search (sendable, crosses, padded_sync, option.the_field_sync) depth 40

  lock_group_sync : (A B C D : RattleType) → IsSync (LockGroup.the_row N A B C D n l)
  lock_group_sync A B C D = view_sync (lock_group.the_row N A B C D n l) _ _ _ _ (search (sendable, crosses, frees, held_sync) depth 40)

  pub host_sync : IsSync (Host.the_row N n l)
  host_sync = view_sync (host.the_row N n l) _ _ _ _ (search (sendable, crosses, frees, send, sync, lock_group_sync, seats.the_field_sync, closed_parts.the_field_sync, watch.the_field_sync) depth 40)

  pub session_send : (κ : NamedLft) → IsSend (Session.the_row κ N n l)
  session_send κ = view_send (session.the_row κ N n l) _ _ _ _ (search (sendable, crosses, host_sync, receipts.the_send) depth 40)
