use Rattle.std.proofs.Common.{Bool, ap, sym, ◌∙◌}
use Rattle.std.specs.Prelude.{option_copied}
use Rattle.sb_postgres.specs.Kinds.{kind_of}
use Rattle.sb_frontend.specs.Plays.{line_for}
use Rattle.sb_frontend.proofs.Playing.{sends-line, sends-none-as}
use Rattle.sb_frontend.proofs.play.Speaker.send.Goals as goal

pub returns-in-Some : goal.returns-in-Some
returns-in-Some g c =
    let kind = kind_of c.args.statement.now.line.items in
    let s = c.send_line.ensures in
    sends-line c.args.teller.now.form kind c.args.statement.now.line.items c.in-Some.sent.now _ s.0 c.args.self.now c.send_line.new.self c.args.out.now c.send_line.new.out c.send_line.result
    (ap (λ (h : Bool). line_for kind h c.args.statement.now.line.items) (sym c.has_transaction-has.ensures) ∙ sym c.line_of.ensures ∙ ap option_copied c.in-Some.is) s.1 s.2 s.3

pub returns-in-None : goal.returns-in-None
returns-in-None g c =
    let kind = kind_of c.args.statement.now.line.items in
    sends-none-as c.args.teller.now.form kind c.args.statement.now.line.items _ c.args.self.now c.args.out.now c.tell_stepless.new.out c.tell_stepless.result c.has_transaction-has.result c.is_own.result c.has_transaction-has.ensures c.is_own.ensures
    (ap (λ (h : Bool). line_for kind h c.args.statement.now.line.items) (sym c.has_transaction-has.ensures) ∙ sym c.line_of.ensures ∙ ap option_copied c.in-None.is) c.tell_stepless.ensures.told c.tell_stepless.ensures.well
