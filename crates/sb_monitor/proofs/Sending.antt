-- What a status port shows, and what renews tenants, may be shared by threads.
use denote.RattleType.{RattleType}
use denote.Ref.{NamedLft}
use denote.Param.Send.{IsSync, sendable}
use Rattle.std.proofs.Crossing.{crosses}
use Rattle.sb_server.proofs.server_metrics.ServerMetrics.TheSendSync as server_metrics
use Rattle.sb_monitor.proofs.event_log.EventLog.TheSendSync as log
use Rattle.sb_monitor.proofs.journal_board.JournalBoard.TheSendSync as journal
use Rattle.sb_monitor.proofs.renewal_board.RenewalBoard.TheSendSync as board
use Rattle.sb_monitor.proofs.session_board.SessionBoard.TheSendSync as sessions
use Rattle.sb_monitor.proofs.renewal_notes.RenewalNotes.TheSendSync as notes
use Rattle.sb_monitor.specs.contracts.pages.Pages as Pages
use Rattle.sb_monitor.specs.contracts.tenant_renewals.TenantRenewals as TenantRenewals

-- what a status port shows may be shared where its host, whom it admits, the system and what ends sessions may
module _ (H A T E : RattleType) where
  pub pages_sync : (κ : NamedLft) → IsSync H → IsSync A → IsSync T → IsSync E → IsSync (Pages.the_row κ H A T E)
  pages_sync κ host admission system ender = search (sendable, crosses, server_metrics.the_sync, board.the_sync, sessions.the_sync, journal.the_sync, journal.the_field_sync) depth 60

-- what renews tenants may be shared where its host, what keeps their answers and the system may
module _ (H K T : RattleType) where
  pub renewals_sync : (κ : NamedLft) → IsSync H → IsSync K → IsSync T → IsSync (TenantRenewals.the_row κ H K T)
  renewals_sync κ host hook system = search (sendable, crosses, log.the_sync, board.the_sync, notes.the_sync, notes.the_field_sync) depth 60
