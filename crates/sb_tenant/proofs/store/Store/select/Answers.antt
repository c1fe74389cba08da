use Rattle.std.proofs.Common.{◌∙◌, inl, sym, ap}
use Rattle.sb_process.specs.declared.database.Database.{Database}
use Rattle.sb_tenant.specs.Perform.{perform}
use Rattle.sb_tenant.specs.Resolved.{query}
use Rattle.sb_tenant.proofs.Calls.{rows-come, rows-aside}
use Rattle.sb_tenant.proofs.Leaving.{leaves_on, leaves_same}
use Rattle.sb_tenant.proofs.store.Store.select.Goals as goal

pub run_out-requires : goal.run_out-requires
run_out-requires g c =
    let w = rows-aside c.tables_are_shared.ensures.laws c.tables_are_shared.ensures.in_range c.requires.stand.2 c.select.ensures.only_locks c.requires.active (c.in-Ok.ensures.selected (g.L.ChangeLog.records c.args.log.now) (g.L.ChangeLog.clock c.args.log.now)) in (c.requires.stand.0, w.0, w.1)

pub run_out-requires-in-Err-shared : goal.run_out-requires-in-Err-shared
run_out-requires-in-Err-shared g c =
    let w = rows-aside c.tables_are_shared.ensures.laws c.tables_are_shared.ensures.in_range c.requires.stand.2 c.select.ensures.only_locks c.requires.active (c.in-Ok.ensures.selected (g.L.ChangeLog.records c.args.log.now) (g.L.ChangeLog.clock c.args.log.now)) in (c.requires.stand.0, w.0, w.1)

pub refuse-requires : goal.refuse-requires
refuse-requires g c =
    let w = rows-aside c.tables_are_shared.ensures.laws c.tables_are_shared.ensures.in_range c.requires.stand.2 c.select.ensures.only_locks c.requires.active (c.in-Err.ensures.selected (g.L.ChangeLog.records c.args.log.now) (g.L.ChangeLog.clock c.args.log.now)) in (c.requires.stand.0, w.0, w.1)

pub returns-in-Ok-shared-clause-performed : goal.returns-in-Ok-shared-clause-performed
returns-in-Ok-shared-clause-performed g c = λ index state st bound left.
    let comes = rows-come c.tables_are_shared.ensures.laws c.tables_are_shared.ensures.in_range st c.select.ensures.only_locks c.requires.active (c.in-Ok.ensures.selected (g.L.ChangeLog.records c.args.log.now) (g.L.ChangeLog.clock c.args.log.now)) bound left in
    inl (c.in-Ok-shared.ensures.rows ∙ sym comes.0, comes.1)

pub returns-in-Err-shared-clause-performed : goal.returns-in-Err-shared-clause-performed
returns-in-Err-shared-clause-performed g c = λ index state st bound left.
    c.run_out-in-Err-shared.ensures.performed index state _ (rows-aside c.tables_are_shared.ensures.laws c.tables_are_shared.ensures.in_range st c.select.ensures.only_locks c.requires.active (c.in-Ok.ensures.selected (g.L.ChangeLog.records c.args.log.now) (g.L.ChangeLog.clock c.args.log.now)))

pub returns-then-not-has_room_for-clause-performed : goal.returns-then-not-has_room_for-clause-performed
returns-then-not-has_room_for-clause-performed g c = λ index state st bound left.
    c.run_out.ensures.performed index state _ (rows-aside c.tables_are_shared.ensures.laws c.tables_are_shared.ensures.in_range st c.select.ensures.only_locks c.requires.active (c.in-Ok.ensures.selected (g.L.ChangeLog.records c.args.log.now) (g.L.ChangeLog.clock c.args.log.now)))

pub returns-in-Err-clause-performed : goal.returns-in-Err-clause-performed
returns-in-Err-clause-performed g c = λ index state st bound left.
    let laws = c.tables_are_shared.ensures.laws in let is = c.tables_are_shared.ensures.in_range in let found = c.in-Err.ensures.selected (g.L.ChangeLog.records c.args.log.now) (g.L.ChangeLog.clock c.args.log.now) in
    c.refuse.ensures.refused index state (perform c.args.self.now.database.id bound state c.args.session (query c.args.query.now)) (rows-aside laws is st c.select.ensures.only_locks c.requires.active found)
    (rows-come laws is st c.select.ensures.only_locks c.requires.active found bound left)

pub returns-in-Ok-shared-clause-leaves : goal.returns-in-Ok-shared-clause-leaves
returns-in-Ok-shared-clause-leaves g c = leaves_same 0 (ap (λ (d : Database). d.id) c.select.ensures.only_locks) (ap (λ (d : Database). d.tables) c.select.ensures.only_locks)

pub returns-in-Err-shared-clause-leaves : goal.returns-in-Err-shared-clause-leaves
returns-in-Err-shared-clause-leaves g c = leaves_on (leaves_same 0 (ap (λ (d : Database). d.id) c.select.ensures.only_locks) (ap (λ (d : Database). d.tables) c.select.ensures.only_locks)) c.run_out-in-Err-shared.ensures.leaves

pub returns-then-not-has_room_for-clause-leaves : goal.returns-then-not-has_room_for-clause-leaves
returns-then-not-has_room_for-clause-leaves g c = leaves_on (leaves_same 0 (ap (λ (d : Database). d.id) c.select.ensures.only_locks) (ap (λ (d : Database). d.tables) c.select.ensures.only_locks)) c.run_out.ensures.leaves

pub returns-in-Err-clause-leaves : goal.returns-in-Err-clause-leaves
returns-in-Err-clause-leaves g c = leaves_on (leaves_same 0 (ap (λ (d : Database). d.id) c.select.ensures.only_locks) (ap (λ (d : Database). d.tables) c.select.ensures.only_locks)) c.refuse.ensures.leaves
