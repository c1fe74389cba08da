use Rattle.std.proofs.Common.{◌∙◌, ℕ, Option, inl, sym, ap, subst, arith}
use Rattle.sb_catalog.specs.declared.definitions.Definitions.{Definitions}
use Rattle.sb_process.specs.Process.{process}
use Rattle.sb_process.specs.Running.{is_done}
use Rattle.sb_tenant.specs.Perform.{named, reply_of}
use Rattle.sb_tenant.specs.Represents.{Finds}
use Rattle.sb_tenant.specs.State.{setting_of, progress_of}
use Rattle.sb_tenant.proofs.Leaving.{leaves_on, leaves_more}
use Rattle.sb_tenant.proofs.store.Store.process.Goals as goal

pub finish-requires-clause-stand : goal.finish-requires-clause-stand
finish-requires-clause-stand g c = let w = c.run.ensures.aside c.requires.stand.0 c.requires.stand.1 in (c.args.index.now, w.0, w.1)

pub finish-requires-clause-active : goal.finish-requires-clause-active
finish-requires-clause-active g c = λ e. c.in-Ok.ensures.under_way (sym c.is_done.ensures ∙ e)

pub returns-in-Ok-told-clause-performed : goal.returns-in-Ok-told-clause-performed
returns-in-Ok-told-clause-performed g c = λ state st chosen flags.
    let s = c.args.asker.now.session in
    let found = subst (λ (l : Option ℕ). Finds c.args.self.now.database.id c.run.new.self (g.L.ChangeLog.records c.run.new.log) (g.L.ChangeLog.clock c.run.new.log) c.args.index.now state s (record { considerations = c.args.asker.now.bound.considerations; work = l }) chosen c.in-Ok.processed)
    c.requires.budget (c.in-Ok.ensures.found state st chosen flags) in
    let tells = c.in-Ok-told.ensures.told state.catalog (sym st.0.1.rules ∙ sym (ap (λ (d : Definitions). d.rules) c.run.ensures.definitions)) in
    let meant = process c.args.asker.now.bound.considerations (setting_of c.args.self.now.database.id state s) chosen (progress_of c.args.asker.now.bound.work state s) in
    inl (
      tells ∙ (λ i. reply_of state.catalog (found.outcome i) (named state.catalog (found.trace i))),
      c.finish.ensures.finished c.args.index.now state meant.outcome meant.progress (sym (ap is_done found.outcome) ∙ sym c.is_done.ensures) found.stands,
    )

pub returns-in-Ok-told-clause-leaves : goal.returns-in-Ok-told-clause-leaves
returns-in-Ok-told-clause-leaves g c = leaves_more (leaves_on c.run.ensures.leaves c.finish.ensures.leaves) (omega (arith, c.requires.bound))

pub returns-in-Ok-clause-performed : goal.returns-in-Ok-clause-performed
returns-in-Ok-clause-performed g c = λ state st chosen flags. c.run_out.ensures.performed c.args.index.now state _ (c.run.ensures.aside state st)

pub returns-clause-performed : goal.returns-clause-performed
returns-clause-performed g c = λ state st chosen flags. c.run_out-in-Err.ensures.performed c.args.index.now state _ (c.run.ensures.aside state st)

pub run_out-requires : goal.run_out-requires
run_out-requires g c = let w = c.run.ensures.aside c.requires.stand.0 c.requires.stand.1 in (c.args.index.now, w.0, w.1)

pub run_out-requires-in-Err : goal.run_out-requires-in-Err
run_out-requires-in-Err g c = let w = c.run.ensures.aside c.requires.stand.0 c.requires.stand.1 in (c.args.index.now, w.0, w.1)

pub returns-in-Ok-clause-leaves : goal.returns-in-Ok-clause-leaves
returns-in-Ok-clause-leaves g c = leaves_more (leaves_on c.run.ensures.leaves c.run_out.ensures.leaves) (omega (arith, c.requires.bound))

pub returns-clause-leaves : goal.returns-clause-leaves
returns-clause-leaves g c = leaves_more (leaves_on c.run.ensures.leaves c.run_out-in-Err.ensures.leaves) (omega (arith, c.requires.bound))
