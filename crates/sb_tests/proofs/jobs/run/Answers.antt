use denote.Param.Send.{arg_send, param_send}
use Rattle.sb_host.proofs.Sending.{session_send}
use Rattle.sb_tests.proofs.jobs.run.Goals as goal

-- sessions may go to other threads
pub run-requires-send-S : goal.run-requires-send-S
run-requires-send-S g c = λ κs bounds. search (param_send, arg_send, session_send)
