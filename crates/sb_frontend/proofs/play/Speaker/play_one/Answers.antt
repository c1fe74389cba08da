use Rattle.std.proofs.Common.{Bool, ◌&&◌, not, ap, ◌∙◌}
use Rattle.sb_postgres.specs.Kinds.{kind_of}
use Rattle.sb_frontend.specs.Plays.{needs_transaction}
use Rattle.sb_frontend.proofs.Playing.{plays-begun, plays-not}
use Rattle.sb_frontend.proofs.play.Speaker.play_one.Goals as goal

pub returns-then-begin_for : goal.returns-then-begin_for
returns-then-begin_for g c =
    plays-begun c.args.teller.now.form c.args.statement.now.line.items c.needs_begin-needed.result c.args.self.now c.begin_for.new.self c.run.new.self c.args.out.now c.begin_for.new.out c.run.new.out c.begin_for.result c.run.result
    (c.needs_begin-needed.ensures ∙ ap (λ (h : Bool). needs_transaction (kind_of c.args.statement.now.line.items) && not h) c.has_transaction.ensures) c.if-begin_for.true c.begin_for.ensures c.run.ensures

pub returns : goal.returns
returns g c =
    plays-not c.args.teller.now.form c.args.statement.now.line.items c.needs_begin-needed.result c.args.self.now c.begin_for.new.self c.give_up.new.self c.args.out.now c.begin_for.new.out c.begin_for.result
    (c.needs_begin-needed.ensures ∙ ap (λ (h : Bool). needs_transaction (kind_of c.args.statement.now.line.items) && not h) c.has_transaction.ensures) c.if-begin_for.false c.requires c.begin_for.ensures c.give_up.ensures
