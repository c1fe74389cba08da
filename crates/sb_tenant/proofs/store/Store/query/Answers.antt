use Rattle.std.proofs.Common.{◌≡◌, ◌⊎◌, [], refl}
use Rattle.std.specs.Prelude.{Result, Ok, Err}
use Rattle.sb_value.specs.declared.refusal.Refusal.{Refusal}
use Rattle.sb_value.specs.declared.refusal.Refusal.TheVariants as refusal
use Rattle.sb_syntax.specs.Tree as text
use Rattle.sb_syntax.specs.Views as view
use Rattle.sb_check.specs.Condition.{Query}
use Rattle.sb_check.specs.Names.{and_then}
use Rattle.sb_check.specs.Walk.{walk_query}
use Rattle.sb_tables.specs.Held.{entries}
use Rattle.sb_tenant.specs.Represents.{StandFor}
use Rattle.sb_tenant.specs.Resolved.{query}
use Rattle.sb_tenant.specs.Walk.{walk}
use Rattle.sb_tenant.proofs.TableCommands.{outside}
use Rattle.sb_tenant.proofs.Working.{query_names_tables, query_walked, query_refused, performs_as, refusal_meant, part_refused}
use Rattle.sb_tenant.proofs.store.Store.query.Goals as goal

pub select-replies-requires-clause-there : goal.select-replies-requires-clause-there
select-replies-requires-clause-there g c = query_names_tables c.resolved_tables_are_there.ensures.queries c.args.self.now.database.tables (view.query c.args.query.now) c.in-Ok.resolved c.in-Ok.ensures

pub returns-in-Ok-clause-performed : goal.returns-in-Ok-clause-performed
returns-in-Ok-clause-performed g c = λ index state h bound left.
    let old = c.args.self.now in
    let q = view.query c.args.query.now in
    performs_as c.select-replies.new.self (g.L.ChangeLog.records c.select-replies.new.log) (g.L.ChangeLog.clock c.select-replies.new.log) index state old.database.id bound c.args.session (walk state.catalog (text.query q)) (Ok (query c.in-Ok.resolved))
    c.select-replies.result.0
    (query_walked old (g.L.ChangeLog.records c.args.log.now) (g.L.ChangeLog.clock c.args.log.now) index state h c.walks_see_columns.ensures.queries q c.in-Ok.resolved c.in-Ok.ensures)
    (c.select-replies.ensures.performed index state h bound left)

pub returns-in-Err-clause-performed : goal.returns-in-Err-clause-performed
returns-in-Err-clause-performed g c = λ index state h bound left.
    let old = c.args.self.now in
    let q = view.query c.args.query.now in
    let part : Result Query Refusal = and_then (walk_query (outside (entries old.database.tables)) q []) (λ w. Ok w.0) in
    let why : (part ≡ Err c.in-Err.refusal) ⊎ (c.in-Err.refusal ≡ refusal.NoMemory) = c.in-Err.ensures in
    c.refuse.ensures.refused index state _ (state, h, refl)
    (refusal_meant (StandFor old (g.L.ChangeLog.records c.args.log.now) (g.L.ChangeLog.clock c.args.log.now) index) old.database.id bound c.args.session state h (walk state.catalog (text.query q)) c.in-Err.refusal
    (part_refused part (walk state.catalog (text.query q)) c.in-Err.refusal
    (query_refused old (g.L.ChangeLog.records c.args.log.now) (g.L.ChangeLog.clock c.args.log.now) index state h c.walks_see_columns.ensures.queries q c.in-Err.refusal) why))
