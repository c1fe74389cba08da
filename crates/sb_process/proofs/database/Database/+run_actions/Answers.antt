use Rattle.std.proofs.Common.{◌≡◌, ◌∙◌, inl, suc, ◌*◌, ◌-◌, List, [], ◌∷◌, length, take, drop, true, false, Result, Ok, sym, ap, subst, refl, arith, rules}
use Rattle.sb_value.specs.declared.refusal.Refusal.{Refusal}
use Rattle.sb_check.specs.declared.tree.Action.{Action}
use Rattle.sb_process.specs.declared.consider.Consideration.{Consideration}
use Rattle.sb_process.specs.declared.consider.Consideration.TheVariants.{RolledBack}
use Rattle.sb_process.specs.Consider.{Ending, run_actions}
use Rattle.sb_process.specs.Running.{ComesTo, Ends}
use Rattle.sb_process.specs.Setting.{Progress}
use Rattle.sb_process.specs.Work.{AreActionsThere}
use Rattle.sb_process.proofs.LockLists.{whole}
use Rattle.sb_process.proofs.Leaving.{leaves-on, leaves-more, room-less, room-behind}
use Rattle.sb_process.proofs.Works.{work-with}
use Rattle.sb_process.proofs.Running.{actions-there, same-numbers, rest-there, comes-on, first-ran, first-rolled_back, first-refused, acted, ends-after, ends-refused}
use Rattle.sb_process.proofs.database.Database.+run_actions.Goals as goal

-- one action runs, and there is room for it
pub run_action-requires-clause-room : goal.run_action-requires-clause-room
run_action-requires-clause-room g t c = room-less c.requires.room (omega (arith, c.in-len1-up.len_at_least))

pub run_actions-requires : goal.run_actions-requires
run_actions-requires g t c = λ κs le.
    let w = c.requires.running in
    let come = c.run_action.ensures.under_way w.0 w.1 w.2 w.3 in
    let e = whole c.args.actions.now c.first-item.result c.in-len1-up.len_at_least c.first-item.is in
    let l : length c.args.actions.now ≡ suc (length (take (length c.args.actions.now - 1) (drop 1 c.args.actions.now))) = ap length e in
    let room = room-behind {n = 4096} {m = 4096 * length (take (length c.args.actions.now - 1) (drop 1 c.args.actions.now))} (room-less c.requires.room (omega (arith, l))) c.run_action.ensures.leaves in (
      search rules,
      (
        le,
        (
          (
            w.0,
            w.1,
            come.0,
            work-with w.3 come.1.stands (sym c.run_action.ensures.leaves.id),
          ),
          (
            actions-there c.args.self.now.tables c.run_action.new.self.tables
                (same-numbers w.0 c.args.viewer.now.session w.1 w.2 c.args.self.now (g.L.ChangeLog.records c.args.log.now) (g.L.ChangeLog.clock c.args.log.now) w.3.transaction c.run_action.new.self
                (g.L.ChangeLog.records c.run_action.new.log) (g.L.ChangeLog.clock c.run_action.new.log) come.0 come.1)
                (take (length c.args.actions.now - 1) (drop 1 c.args.actions.now))
                (rest-there c.args.self.now.tables c.first-item.result (take (length c.args.actions.now - 1) (drop 1 c.args.actions.now)) (subst (AreActionsThere c.args.self.now.tables) e c.requires.actions)),
            room,
          ),
        ),
      ),
    )

-- the others begin with what the first one came to
pub returns-in-Ok-true-clause-ran : goal.returns-in-Ok-true-clause-ran
returns-in-Ok-true-clause-ran g t c = λ origin setting progress w.
    let session = c.args.viewer.now.session in
    let mid = c.run_action.new in let new = c.run_actions.new in
    let first = c.first-item.result in
    let rest = take (length c.args.actions.now - 1) (drop 1 c.args.actions.now) in
    let e = whole c.args.actions.now first c.in-len1-up.len_at_least c.first-item.is in
    let M = λ (q : Progress). ComesTo origin mid.self session (g.L.ChangeLog.records mid.log) (g.L.ChangeLog.clock mid.log) setting progress q in
    let S = λ (q : Progress). ComesTo origin new.self session (g.L.ChangeLog.records new.log) (g.L.ChangeLog.clock new.log) setting progress q in
    let one = first-ran M setting c.args.viewer.now.tables.now first rest progress
    (acted M (run_actions setting c.args.viewer.now.tables.now (first ∷ []) progress) c.run_action.result true (c.in-Ok-true.is ∙ ap Ok c.in-Ok-true.field-0-test) (c.run_action.ensures.ran origin setting progress w)) in
    let R = λ (q : Progress). ComesTo origin new.self session (g.L.ChangeLog.records new.log) (g.L.ChangeLog.clock new.log) setting one.0 q in
    ends-after S R (run_actions setting c.args.viewer.now.tables.now c.args.actions.now progress) (run_actions setting c.args.viewer.now.tables.now rest one.0) c.run_actions.result
    (ap (λ (l : List Action). run_actions setting c.args.viewer.now.tables.now l progress) e ∙ one.2)
    (λ q h. comes-on origin session setting progress one.0 q mid.self new.self (g.L.ChangeLog.records mid.log) (g.L.ChangeLog.records new.log) (g.L.ChangeLog.clock mid.log) (g.L.ChangeLog.clock new.log) one.1 h)
    (c.run_actions.ensures.ran origin setting one.0
    (work-with w (one.1).stands (sym c.run_action.ensures.leaves.id)))

pub returns-in-Ok-true-clause-under_way : goal.returns-in-Ok-true-clause-under_way
returns-in-Ok-true-clause-under_way g t c = λ origin setting progress w.
    let session = c.args.viewer.now.session in
    let mid = c.run_action.new in let new = c.run_actions.new in
    let one = c.run_action.ensures.under_way origin setting progress w in
    let all = c.run_actions.ensures.under_way origin setting one.0
    (work-with w (one.1).stands (sym c.run_action.ensures.leaves.id)) in (
      all.0,
      comes-on origin session setting progress one.0 all.0 mid.self new.self (g.L.ChangeLog.records mid.log) (g.L.ChangeLog.records new.log) (g.L.ChangeLog.clock mid.log) (g.L.ChangeLog.clock new.log)
          one.1 all.1,
    )

pub returns-in-Ok-true-clause-leaves : goal.returns-in-Ok-true-clause-leaves
returns-in-Ok-true-clause-leaves g t c =
    let rest = take (length c.args.actions.now - 1) (drop 1 c.args.actions.now) in
    let l : length c.args.actions.now ≡ suc (length rest) = ap length (whole c.args.actions.now c.first-item.result c.in-len1-up.len_at_least c.first-item.is) in
    leaves-more (4096 * length c.args.actions.now) (leaves-on c.run_action.ensures.leaves c.run_actions.ensures.leaves) (omega (arith, l))

pub returns-in-Ok-false-clause-ran : goal.returns-in-Ok-false-clause-ran
returns-in-Ok-false-clause-ran g t c = λ origin setting progress w.
    let mid = c.run_action.new in
    let first = c.first-item.result in
    let rest = take (length c.args.actions.now - 1) (drop 1 c.args.actions.now) in
    let M = λ (q : Progress). ComesTo origin mid.self c.args.viewer.now.session (g.L.ChangeLog.records mid.log) (g.L.ChangeLog.clock mid.log) setting progress q in
    let result : Result Consideration Refusal = Ok RolledBack in
    inl (subst (λ (x : Ending). Ends M x result)
    (sym (ap (λ (l : List Action). run_actions setting c.args.viewer.now.tables.now l progress) (whole c.args.actions.now first c.in-len1-up.len_at_least c.first-item.is)
    ∙ first-rolled_back M setting c.args.viewer.now.tables.now first rest progress
    (acted M (run_actions setting c.args.viewer.now.tables.now (first ∷ []) progress) c.run_action.result false (c.in-Ok-false.is ∙ ap Ok c.in-Ok-false.field-0-test) (c.run_action.ensures.ran origin setting progress w))))
    refl)

pub returns-in-Ok-false-clause-leaves : goal.returns-in-Ok-false-clause-leaves
returns-in-Ok-false-clause-leaves g t c = leaves-more (4096 * length c.args.actions.now) c.run_action.ensures.leaves (omega (arith, c.in-len1-up.len_at_least))

pub returns-in-Err-clause-ran : goal.returns-in-Err-clause-ran
returns-in-Err-clause-ran g t c = λ origin setting progress w.
    let mid = c.run_action.new in
    let first = c.first-item.result in
    let rest = take (length c.args.actions.now - 1) (drop 1 c.args.actions.now) in
    let M = λ (q : Progress). ComesTo origin mid.self c.args.viewer.now.session (g.L.ChangeLog.records mid.log) (g.L.ChangeLog.clock mid.log) setting progress q in
    ends-refused M (run_actions setting c.args.viewer.now.tables.now (first ∷ []) progress) (run_actions setting c.args.viewer.now.tables.now c.args.actions.now progress) c.run_action.result c.in-Err.refusal c.in-Err.is
    (λ h. ap (λ (l : List Action). run_actions setting c.args.viewer.now.tables.now l progress) (whole c.args.actions.now first c.in-len1-up.len_at_least c.first-item.is)
    ∙ first-refused M setting c.args.viewer.now.tables.now first rest progress c.in-Err.refusal h)
    (c.run_action.ensures.ran origin setting progress w)

pub returns-in-Err-clause-leaves : goal.returns-in-Err-clause-leaves
returns-in-Err-clause-leaves g t c = leaves-more (4096 * length c.args.actions.now) c.run_action.ensures.leaves (omega (arith, c.in-len1-up.len_at_least))
