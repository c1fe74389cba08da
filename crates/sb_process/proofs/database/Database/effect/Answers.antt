use Rattle.std.proofs.Common.{◌≡◌, Ok, inl}
use Rattle.sb_eval.specs.Seen.{Seen}
use Rattle.sb_eval.specs.Statement.{statement_changes}
use Rattle.sb_process.specs.Represents.{who_in}
use Rattle.sb_process.specs.View.{seen_by}
use Rattle.sb_process.proofs.Effects.{effect-left, effect-refused, same-ok, same-err}
use Rattle.sb_process.proofs.database.Database.effect.Goals as goal

pub returns-in-Ok-clause-ok : goal.returns-in-Ok-clause-ok
returns-in-Ok-clause-ok c =
    let seen : Seen = seen_by c.args.self.now.tables c.args.viewer.now.tables.now (who_in c.args.self.now c.args.viewer.now.session) in
    same-ok c.priced_changes.result (λ e. statement_changes seen c.args.statement.now ≡ Ok e.0.items) (λ e. (e.0.items, e.1))
    (effect-left seen c.args.rules.now.catalog.now c.args.statement.now c.args.self.now.left c.in-Ok.rest c.in-Ok.ensures) c.priced_changes.ensures.ok

pub returns-in-Ok-clause-err : goal.returns-in-Ok-clause-err
returns-in-Ok-clause-err c =
    let seen : Seen = seen_by c.args.self.now.tables c.args.viewer.now.tables.now (who_in c.args.self.now c.args.viewer.now.session) in
    same-err c.priced_changes.result (effect-left seen c.args.rules.now.catalog.now c.args.statement.now c.args.self.now.left c.in-Ok.rest c.in-Ok.ensures) c.priced_changes.ensures.err

pub returns-in-Err-clause-err : goal.returns-in-Err-clause-err
returns-in-Err-clause-err c =
    let seen : Seen = seen_by c.args.self.now.tables c.args.viewer.now.tables.now (who_in c.args.self.now c.args.viewer.now.session) in
    inl (effect-refused seen c.args.rules.now.catalog.now c.args.statement.now c.args.self.now.left c.in-Err.refusal c.in-Err.ensures)
