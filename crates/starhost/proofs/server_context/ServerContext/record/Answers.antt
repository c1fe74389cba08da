use denote.Param.Send.{arg_send, arg_sync, param_send, param_sync, sendable}
use Rattle.std.proofs.Crossing.{crosses, frees}
use Rattle.sb_durable.proofs.Sending.{opened_send, segments_send}
use Rattle.sb_durable.proofs.flusher.Flusher.TheSendSync as flusher
use Rattle.sb_durable.proofs.folder.Folder.TheSendSync as folder
use Rattle.sb_durable.proofs.folder_maker.FolderMaker.TheSendSync as maker
use Rattle.sb_monitor.proofs.event_log.EventLog.TheSendSync as log
use Rattle.starhost.proofs.server_context.ServerContext.record.Goals as goal

-- the journal may go from one thread to another
pub serve_synced-requires-send-B : goal.serve_synced-requires-send-B
serve_synced-requires-send-B g c = λ κs bounds. search (param_send, arg_send, param_sync, arg_sync, sendable, crosses, frees, segments_send, maker.the_send, folder.the_sync, flusher.the_sync, log.the_sync, opened_send) depth 60
