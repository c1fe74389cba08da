use Rattle.sb_tenant.specs.State.{setting_of, progress_of}
use Rattle.sb_tenant.specs.declared.phase.Phase.TheVariants.{Idle}
use Rattle.sb_tenant.proofs.Calls.{set-own, session-of, transaction-of, concludes, concluded-id}
use Rattle.sb_tenant.proofs.Leaving.{leaves_still}
use Rattle.sb_tenant.proofs.Standing.{base_of}
use Rattle.sb_tenant.proofs.store.Store.conclude.Goals as goal

pub end_in-requires : goal.end_in-requires
end_in-requires g c = transaction-of c.tables_are_shared.ensures.laws c.tables_are_shared.ensures.in_range c.requires.stand.2

pub returns-clause-concluded : goal.returns-clause-concluded
returns-clause-concluded g c = λ index state st.
    let laws = c.tables_are_shared.ensures.laws in let is = c.tables_are_shared.ensures.in_range in
    concludes c.end_in.new.database c.set.new.self (g.L.ChangeLog.records c.end_in.new.log) laws is st c.end_in.ensures.others c.end_in.ensures.clock c.set.ensures c.end_in.ensures.transactions c.args.ending
    (c.end_in.ensures.concluded (base_of st.0.0 state c.args.session) (setting_of c.args.self.now.database.id state c.args.session) (progress_of c.args.self.now.database.left state c.args.session) (session-of laws is st))

pub returns-clause-leaves : goal.returns-clause-leaves
returns-clause-leaves g c =
    let state = c.requires.stand.1 in let st = c.requires.stand.2 in
    let done = c.end_in.ensures.concluded (base_of st.0.0 state c.args.session) (setting_of c.args.self.now.database.id state c.args.session) (progress_of c.args.self.now.database.left state c.args.session) (session-of c.tables_are_shared.ensures.laws c.tables_are_shared.ensures.in_range st) in
    leaves_still (concluded-id c.args.ending _ _ _ _ _ _ _ done) c.end_in.ensures.others c.end_in.ensures.clock c.end_in.ensures.numbers

pub returns-clause-idle : goal.returns-clause-idle
returns-clause-idle g c = set-own c.args.self.now.phases c.set.new.self c.args.session Idle c.set.ensures
