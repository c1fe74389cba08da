use Rattle.std.proofs.Common.{◌≡◌, ◌∙◌, List, ◌++◌, Ok, length, inl, inr, refl, sym, ap, subst, arith}
use Rattle.sb_value.specs.declared.change.Change.{Change}
use Rattle.sb_process.specs.declared.database.Database.{Database}
use Rattle.sb_process.specs.Leaves.{Leaves}
use Rattle.sb_process.specs.PreparedChanges.{CanApply}
use Rattle.sb_process.specs.Represents.{Represents, who_in}
use Rattle.sb_process.proofs.Leaving.{leaves-on, leaves-more, room-below}
use Rattle.sb_process.proofs.Works.{work-with}
use Rattle.sb_process.proofs.Preparing.{can_apply, with_room, leaves-prepared}
use Rattle.sb_process.proofs.database.Database.make_all.Goals as goal

pub apply-requires-clause-can : goal.apply-requires-clause-can
apply-requires-clause-can g c =
    subst (λ (cs : List Change). CanApply c.prepare.new.tables (who_in c.args.self.now c.args.session) c.args.effect.target cs) (sym c.in-Ok.ensures.changes)
    (can_apply c.args.self.now.tables c.prepare.new.tables (who_in c.args.self.now c.args.session) c.args.effect.target c.args.effect.changes.items c.requires.makeable c.requires.numbered c.requires.stored c.requires.there
    (room-below 18446744073709547519 c.requires.room (omega arith))
    c.prepare.ensures.same c.in-Ok.ensures.few c.in-Ok.ensures.table)

-- nothing has changed where the tenant's share has no room
pub returns-then-not-allows-clause-leaves : goal.returns-then-not-allows-clause-leaves
returns-then-not-allows-clause-leaves g c = leaves-more 4096 (leaves-prepared c.args.self.now {tables = c.args.self.now.tables} refl refl refl) (omega arith)

-- the changes are made of the tables with room for them
pub returns-in-Ok-clause-made : goal.returns-in-Ok-clause-made
returns-in-Ok-clause-made g c = λ origin setting progress w.
    let d : Database = record c.args.self.now { tables = c.prepare.new.tables } in
    let prepared_changes = with_room c.args.self.now c.prepare.new.tables c.args.session (g.L.ChangeLog.records c.args.log.now) (g.L.ChangeLog.records c.prepare.new.log) (g.L.ChangeLog.clock c.args.log.now)
    (g.L.ChangeLog.clock c.prepare.new.log) setting progress origin w.transaction c.prepare.ensures.same c.prepare.ensures.records c.prepare.ensures.clock in
    let all = c.apply.ensures.all origin setting progress (work-with w prepared_changes refl) in
    inl (
      ap Ok (c.len-count.ensures ∙ c.args.effect.changes.ok.0),
      subst
          (λ (cs : List Change). Represents origin c.apply.new.self c.args.session (g.L.ChangeLog.records c.apply.new.log) (g.L.ChangeLog.clock c.apply.new.log) setting (record progress { changes = progress.changes ++ cs }))
          c.in-Ok.ensures.changes all,
    )

pub returns-in-Ok-clause-leaves : goal.returns-in-Ok-clause-leaves
returns-in-Ok-clause-leaves g c =
    let all : length c.args.effect.changes.items ≡ length c.in-Ok.prepared_changes.changes.items = sym (ap (λ (l : List Change). length l) c.in-Ok.ensures.changes) in
    let ran : Leaves (length c.in-Ok.prepared_changes.changes.items) (record c.args.self.now { tables = c.prepare.new.tables }) c.apply.new.self c.args.session (g.L.ChangeLog.records c.prepare.new.log)
    (g.L.ChangeLog.records c.apply.new.log) (g.L.ChangeLog.clock c.prepare.new.log) (g.L.ChangeLog.clock c.apply.new.log) = c.apply.ensures.leaves in
    leaves-more 4096 (leaves-on (leaves-prepared c.args.self.now c.prepare.ensures.same c.prepare.ensures.records c.prepare.ensures.clock) ran) (omega (arith, all, c.in-Ok.ensures.few))

pub returns-in-Err-clause-made : goal.returns-in-Err-clause-made
returns-in-Err-clause-made g c = λ origin setting progress w.
    inr (
      refl,
      with_room c.args.self.now c.prepare.new.tables c.args.session (g.L.ChangeLog.records c.args.log.now) (g.L.ChangeLog.records c.prepare.new.log) (g.L.ChangeLog.clock c.args.log.now)
          (g.L.ChangeLog.clock c.prepare.new.log) setting progress origin w.transaction c.prepare.ensures.same c.prepare.ensures.records c.prepare.ensures.clock,
    )

pub returns-in-Err-clause-leaves : goal.returns-in-Err-clause-leaves
returns-in-Err-clause-leaves g c = leaves-more 4096 (leaves-prepared c.args.self.now c.prepare.ensures.same c.prepare.ensures.records c.prepare.ensures.clock) (omega arith)
