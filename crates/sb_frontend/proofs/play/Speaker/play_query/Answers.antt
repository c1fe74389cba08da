use Rattle.std.proofs.Common.{Ok, ap, ◌∙◌}
use Rattle.sb_frontend.proofs.Playing.{text-empty, text-played, text-unread}
use Rattle.sb_frontend.proofs.play.Speaker.play_query.Goals as goal

pub returns-in-Ok-true : goal.returns-in-Ok-true
returns-in-Ok-true g c =
    text-played c.args.text.now c.has_statement.result c.new.result c.args.self.now c.play_all.new.self c.args.out.now c.forget.new.self c.play_all.new.out c.forget.ensures c.has_statement.ensures
    (c.in-Ok-true.is ∙ ap (λ b. Ok b) c.in-Ok-true.field-0-test) c.new.ensures.place c.new.ensures.text c.play_all.ensures

pub returns-in-Ok-false : goal.returns-in-Ok-false
returns-in-Ok-false g c =
    text-empty c.args.text.now c.has_statement.result c.args.self.now c.args.out.now c.forget.new.self c.say.new.self c.forget.ensures c.has_statement.ensures
    (c.in-Ok-false.is ∙ ap (λ b. Ok b) c.in-Ok-false.field-0-test) c.say.ensures

pub returns-in-Err : goal.returns-in-Err
returns-in-Err g c =
    text-unread c.args.text.now c.has_statement.result c.in-Err.error c.args.self.now c.args.out.now c.forget.new.self c.tell_unread.new.out c.forget.ensures c.has_statement.ensures c.in-Err.is c.tell_unread.ensures
