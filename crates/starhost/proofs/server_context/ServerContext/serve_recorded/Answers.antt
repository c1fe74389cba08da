use denote.Param.Send.{arg_send, arg_sync, param_send, param_sync, sendable}
use Rattle.std.proofs.Crossing.{crosses}
use Rattle.starhost.proofs.Sending.{recorder_sync}
use Rattle.sb_durable.proofs.flusher.Flusher.TheSendSync as flusher
use Rattle.sb_monitor.proofs.event_log.EventLog.TheSendSync as log
use Rattle.sb_monitor.proofs.journal_hook.JournalHook.TheSendSync as recording
use Rattle.starhost.proofs.server_context.ServerContext.serve_recorded.Goals as goal

-- the threads share the recorder, the log and what syncs
pub serve_with-requires-sync-K : goal.serve_with-requires-sync-K
serve_with-requires-sync-K g c = λ κs bounds. search (param_send, arg_send, param_sync, arg_sync, sendable, crosses, recording.the_sync, recorder_sync, log.the_sync, flusher.the_sync) depth 60
