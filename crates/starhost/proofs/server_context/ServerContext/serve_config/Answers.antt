use denote.Param.Send.{arg_sync, param_sync, sendable}
use Rattle.std.proofs.Crossing.{crosses}
use Rattle.sb_server.proofs.server_metrics.ServerMetrics.TheSendSync as server_metrics
use Rattle.sb_monitor.proofs.Sending.{pages_sync}
use Rattle.sb_monitor.proofs.server_control.ServerControls.TheSendSync as controls
use Rattle.sb_monitor.proofs.status_port.StatusPort.TheSendSync as port
use Rattle.starhost.proofs.server_context.ServerContext.serve_config.Goals as goal

-- the threads share what is shown, and the port
pub serve_beside-requires-sync-W : goal.serve_beside-requires-sync-W
serve_beside-requires-sync-W g c = λ κs bounds. search (param_sync, arg_sync, sendable, crosses, port.the_sync, pages_sync, controls.the_sync, server_metrics.the_sync) depth 60
