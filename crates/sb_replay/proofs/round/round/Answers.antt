use denote.Param.Send.{arg_send, param_send}
use Rattle.std.proofs.Common.{Vec, ◌∙◌}
use Rattle.std.specs.Global.{Global}
use Rattle.std.specs.List.{AllZip}
use Rattle.std.proofs.lemmas.Result.{IfOk-weaker}
use Rattle.sb_replay.specs.Lists.{AllCut}
use Rattle.sb_replay.specs.Parts.{Gathers, Moves}
use Rattle.sb_replay.specs.declared.part.SessionPart.{SessionPart}
use Rattle.sb_host.proofs.Sending.{session_send}
use Rattle.sb_replay.proofs.Playing.{all_move, calls_are, done_long}
use Rattle.sb_replay.proofs.round.round.Goals as goal

pub gather-requires : goal.gather-requires
gather-requires g c =
    let dealt = c.in_ok-jobs.field-0 in
    calls_are c.args.parts.items dealt.waiting.items dealt.jobs.items c.in_ok-jobs.ensures ∙ done_long dealt.jobs.items c.in-Ok.done.items c.in-Ok.ensures.done

pub returns-in-Ok : goal.returns-in-Ok
returns-in-Ok g c =
    let dealt = c.in_ok-jobs.field-0 in
    let parts = c.args.parts.items in
    let done = c.in-Ok.done.items in
    IfOk-weaker c.gather.result (λ (after : Vec (SessionPart g.row.N.Denot) Global). AllCut Gathers dealt.waiting.items after.items done) (λ (after : Vec (SessionPart g.row.N.Denot) Global). AllZip Moves parts after.items)
    (λ after gathers. all_move parts dealt.waiting.items after.items dealt.jobs.items done c.in_ok-jobs.ensures gathers c.in-Ok.ensures.done) c.gather.ensures

-- sessions may go to other threads
pub run-requires-send-S : goal.run-requires-send-S
run-requires-send-S g c = λ κs bounds. search (param_send, arg_send, session_send)
