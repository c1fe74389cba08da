use Rattle.std.proofs.Common.{◌≡◌, ◌⊎◌, arith, refl}
use Rattle.std.specs.Prelude.{Ok, Err}
use Rattle.sb_value.specs.declared.refusal.Refusal.TheVariants as refusal
use Rattle.sb_syntax.specs.Tree as text
use Rattle.sb_syntax.specs.Views as view
use Rattle.sb_check.specs.Walk.{walk_statement}
use Rattle.sb_tables.specs.Held.{entries}
use Rattle.sb_tenant.specs.Represents.{StandFor}
use Rattle.sb_tenant.specs.Resolved.{change}
use Rattle.sb_tenant.specs.Walk.{walk}
use Rattle.sb_tenant.proofs.Leaving.{leaves_more}
use Rattle.sb_tenant.proofs.Runnable.{statement_there}
use Rattle.sb_tenant.proofs.TableCommands.{outside}
use Rattle.sb_tenant.proofs.Working.{change_walked, performs_as, refusal_meant, part_refused}
use Rattle.sb_tenant.proofs.store.Store.write.Goals as goal

pub change-replies-requires-clause-there : goal.change-replies-requires-clause-there
change-replies-requires-clause-there g c =
    statement_there c.args.self.now.database.tables c.in-Ok.statement
    (c.resolved_tables_are_there.ensures.statements (outside (entries c.args.self.now.database.tables)) (view.statement c.args.change.now) c.in-Ok.statement c.in-Ok.ensures)

pub returns-in-Ok-clause-performed : goal.returns-in-Ok-clause-performed
returns-in-Ok-clause-performed g c = λ state h bound left.
    let old = c.args.self.now in
    let q = view.statement c.args.change.now in
    performs_as c.change-replies.new.self (g.L.ChangeLog.records c.change-replies.new.log) (g.L.ChangeLog.clock c.change-replies.new.log) c.args.index.now state old.database.id bound c.args.session (walk state.catalog (text.change q))
    (Ok (change c.in-Ok.statement)) c.change-replies.result.0
    (change_walked old (g.L.ChangeLog.records c.args.log.now) (g.L.ChangeLog.clock c.args.log.now) c.args.index.now state h c.walks_see_columns.ensures.statements q (Ok c.in-Ok.statement) c.in-Ok.ensures)
    (c.change-replies.ensures.performed state h bound left)

pub returns-in-Err-clause-performed : goal.returns-in-Err-clause-performed
returns-in-Err-clause-performed g c = λ state h bound left.
    let old = c.args.self.now in
    let q = view.statement c.args.change.now in
    let why : (walk_statement (outside (entries old.database.tables)) q ≡ Err c.in-Err.refusal) ⊎ (c.in-Err.refusal ≡ refusal.NoMemory) = c.in-Err.ensures in
    c.refuse.ensures.refused c.args.index.now state _ (state, h, refl)
    (refusal_meant (StandFor old (g.L.ChangeLog.records c.args.log.now) (g.L.ChangeLog.clock c.args.log.now) c.args.index.now) old.database.id bound c.args.session state h (walk state.catalog (text.change q)) c.in-Err.refusal
    (part_refused (walk_statement (outside (entries old.database.tables)) q) (walk state.catalog (text.change q)) c.in-Err.refusal
    (change_walked old (g.L.ChangeLog.records c.args.log.now) (g.L.ChangeLog.clock c.args.log.now) c.args.index.now state h c.walks_see_columns.ensures.statements q (Err c.in-Err.refusal)) why))

pub returns-in-Err-clause-leaves : goal.returns-in-Err-clause-leaves
returns-in-Err-clause-leaves g c = leaves_more c.refuse.ensures.leaves (omega arith)
