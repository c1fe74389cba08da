use Rattle.std.proofs.Common.{rules, sym}
use Rattle.std.proofs.lemmas.Bool.{true≢false}
use Rattle.std.proofs.lemmas.Result.{on_ok_weaker}
use Rattle.sb_desk.specs.Calls.{Called}
use Rattle.sb_host.proofs.Numbers.{answered_once}
use Rattle.sb_host.proofs.session.Session.step_with.Goals as goal
use Rattle.sb_host.proofs.session.Session.step_with.Goals.{else-not-ended-via-then-not-ended+else-is_err, else-not-ended-via-else-not-ended}

pub returns-clause-ok : goal.returns-clause-ok
returns-clause-ok g c =
    let r = c.else-not-ended.self-inside.receipts in
    on_ok_weaker c.enter.result (λ (h : Called r c.enter.new.r).
    answered_once c.args.self.now c.self.inside.receipts r c.enter.new.r c.args.line.now (sym c.self.view_is)
    (elim c.else-not-ended.branch [
      | else-not-ended-via-then-not-ended+else-is_err w ↦ search rules
      | else-not-ended-via-else-not-ended w ↦ absurd (true≢false (search rules))
    ])
    h) c.enter.ensures.ok
