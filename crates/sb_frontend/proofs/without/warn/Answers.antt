use Rattle.std.proofs.Common.{Bool, subst, sym}
use Rattle.sb_frontend.specs.Outputs.{Says}
use Rattle.sb_frontend.specs.Stepless.{warning}
use Rattle.sb_frontend.proofs.Saying.{says-nothing}
use Rattle.sb_frontend.proofs.without.warn.Goals as goal

pub returns-then-is_due : goal.returns-then-is_due
returns-then-is_due c = subst (λ (b : Bool). Says (warning b c.args.state c.args.message.now) c.args.out.now c.say_notice.new.self) (sym c.if-is_due.true) c.say_notice.ensures

pub returns-else-is_due : goal.returns-else-is_due
returns-else-is_due c = subst (λ (b : Bool). Says (warning b c.args.state c.args.message.now) c.args.out.now c.args.out.now) (sym c.if-is_due.false) (says-nothing c.args.out.now)
