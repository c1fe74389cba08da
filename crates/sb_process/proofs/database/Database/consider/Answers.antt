use Rattle.std.proofs.Common.{◌≡◌, ◌∙◌, ◌⊎◌, ◌*◌, ◌≤◌, true, List, length, Ok, Err, refl, sym, ap, subst, arith}
use Rattle.sb_value.specs.declared.net.Transition.{Transition}
use Rattle.sb_value.specs.declared.refusal.Refusal.TheVariants.{NoMemory}
use Rattle.sb_check.specs.declared.tree.Action.{Action}
use Rattle.sb_process.specs.Consider.{Considered, test_condition, run_actions}
use Rattle.sb_process.specs.Running.{ComesTo, Goes}
use Rattle.sb_process.specs.Setting.{Progress, marked}
use Rattle.sb_process.proofs.Leaving.{leaves-all, leaves-marked, leaves-on, leaves-more, room-less, room-behind}
use Rattle.sb_process.proofs.Works.{work-with}
use Rattle.sb_process.proofs.Running.{same-id, ends-after, comes-on, comes-marked, considered, went, considered-false, considered-refused, goes-true}
use Rattle.sb_process.proofs.database.Database.consider.Goals as goal

pub run_actions-requires-clause-running : goal.run_actions-requires-clause-running
run_actions-requires-clause-running g c =
    let w = c.requires.running in
    let records = g.L.ChangeLog.records c.args.log.now in
    let clock = g.L.ChangeLog.clock c.args.log.now in
    let m = c.in-Ok-mark_now.ensures.marked w.0 w.1 w.2 w.3.transaction in
    let come = c.test.ensures.under_way records clock w.0 w.1 (marked c.args.chosen.now.rule.now w.2) m in (
      w.0,
      w.1,
      come.0,
      work-with w.3 (come.1).stands (same-id c.args.self.now c.mark_now.new.self c.test.new.self c.in-Ok-mark_now.ensures.only_marks c.test.ensures.only_locks),
    )

pub returns-in-Ok-true-clause-considered : goal.returns-in-Ok-true-clause-considered
returns-in-Ok-true-clause-considered g c = λ origin setting progress w.
    let session = c.args.chosen.now.session in let rule = c.args.chosen.now.rule.now in let tables = c.in-Ok.tables in
    let records = g.L.ChangeLog.records c.args.log.now in let clock = g.L.ChangeLog.clock c.args.log.now in
    let mid = c.test.new.self in let new = c.run_actions.new in
    let later = g.L.ChangeLog.records new.log in let time = g.L.ChangeLog.clock new.log in
    let start = marked rule progress in
    let tested = test_condition setting tables rule.condition start in
    let S = λ (q : Progress). ComesTo origin mid session records clock setting start q in
    let R = λ (q : Progress). ComesTo origin new.self session later time setting progress q in
    let answer = c.test.ensures.tested records clock origin setting start (c.in-Ok-mark_now.ensures.marked origin setting progress w.transaction) in
    let one = went setting tables rule S tested c.test.result answer true (c.in-Ok-true.is ∙ ap Ok c.in-Ok-true.field-0-test) in
    let Q = λ (q : Progress). ComesTo origin new.self session later time setting one.0 q in
    let last = ends-after R Q (run_actions setting tables rule.actions one.0) (run_actions setting tables c.as_slice.result.now one.0) c.run_actions.result
    (ap (λ (l : List Action). run_actions setting tables l one.0) (sym c.as_slice.ensures))
    (λ q h. comes-on origin session setting progress one.0 q mid new.self records later clock time (comes-marked origin session setting rule progress one.0 mid records clock one.1) h)
    (c.run_actions.ensures.ran origin setting one.0 (work-with w (one.1).stands (same-id c.args.self.now c.mark_now.new.self mid c.in-Ok-mark_now.ensures.only_marks c.test.ensures.only_locks))) in
    subst (λ (x : Considered). Goes R x c.run_actions.result ⊎ (c.run_actions.result ≡ Err NoMemory))
    (ap (λ (t : Transition). considered setting t rule (test_condition setting t rule.condition start)) (c.in-Ok.ensures origin setting progress w.transaction))
    (goes-true setting tables rule S tested c.test.result answer R one.0 c.run_actions.result one.2 last)

pub returns-in-Ok-true-clause-under_way : goal.returns-in-Ok-true-clause-under_way
returns-in-Ok-true-clause-under_way g c = λ origin setting progress w.
    let session = c.args.chosen.now.session in let rule = c.args.chosen.now.rule.now in
    let records = g.L.ChangeLog.records c.args.log.now in let clock = g.L.ChangeLog.clock c.args.log.now in
    let mid = c.test.new.self in let new = c.run_actions.new in
    let one = c.test.ensures.under_way records clock origin setting (marked rule progress) (c.in-Ok-mark_now.ensures.marked origin setting progress w.transaction) in
    let all = c.run_actions.ensures.under_way origin setting one.0 (work-with w (one.1).stands (same-id c.args.self.now c.mark_now.new.self mid c.in-Ok-mark_now.ensures.only_marks c.test.ensures.only_locks)) in (
      all.0,
      comes-on origin session setting progress one.0 all.0 mid new.self records (g.L.ChangeLog.records new.log) clock (g.L.ChangeLog.clock new.log)
          (comes-marked origin session setting rule progress one.0 mid records clock one.1) all.1,
    )

pub returns-in-Ok-false-clause-considered : goal.returns-in-Ok-false-clause-considered
returns-in-Ok-false-clause-considered g c = λ origin setting progress w.
    let records = g.L.ChangeLog.records c.args.log.now in let clock = g.L.ChangeLog.clock c.args.log.now in
    considered-false origin c.args.chosen.now.session setting c.args.chosen.now.rule.now progress c.in-Ok.tables c.test.new.self records clock (c.in-Ok.ensures origin setting progress w.transaction) c.test.result
    (c.test.ensures.tested records clock origin setting (marked c.args.chosen.now.rule.now progress) (c.in-Ok-mark_now.ensures.marked origin setting progress w.transaction)) (c.in-Ok-false.is ∙ ap Ok c.in-Ok-false.field-0-test)

pub returns-in-Ok-false-clause-under_way : goal.returns-in-Ok-false-clause-under_way
returns-in-Ok-false-clause-under_way g c = λ origin setting progress w.
    let records = g.L.ChangeLog.records c.args.log.now in let clock = g.L.ChangeLog.clock c.args.log.now in
    let one = c.test.ensures.under_way records clock origin setting (marked c.args.chosen.now.rule.now progress) (c.in-Ok-mark_now.ensures.marked origin setting progress w.transaction) in
    (one.0, comes-marked origin c.args.chosen.now.session setting c.args.chosen.now.rule.now progress one.0 c.test.new.self records clock one.1)

pub returns-clause-considered : goal.returns-clause-considered
returns-clause-considered g c = λ origin setting progress w.
    let records = g.L.ChangeLog.records c.args.log.now in let clock = g.L.ChangeLog.clock c.args.log.now in
    considered-refused origin c.args.chosen.now.session setting c.args.chosen.now.rule.now progress c.in-Ok.tables c.test.new.self records clock (c.in-Ok.ensures origin setting progress w.transaction) c.test.result
    (c.test.ensures.tested records clock origin setting (marked c.args.chosen.now.rule.now progress) (c.in-Ok-mark_now.ensures.marked origin setting progress w.transaction)) c.in-Err.refusal c.in-Err.is

pub returns-clause-under_way : goal.returns-clause-under_way
returns-clause-under_way g c = λ origin setting progress w.
    let records = g.L.ChangeLog.records c.args.log.now in let clock = g.L.ChangeLog.clock c.args.log.now in
    let one = c.test.ensures.under_way records clock origin setting (marked c.args.chosen.now.rule.now progress) (c.in-Ok-mark_now.ensures.marked origin setting progress w.transaction) in
    (one.0, comes-marked origin c.args.chosen.now.session setting c.args.chosen.now.rule.now progress one.0 c.test.new.self records clock one.1)

-- ---- what the consideration leaves

pub run_actions-requires-clause-room : goal.run_actions-requires-clause-room
run_actions-requires-clause-room g c =
    let few : length c.as_slice.result.now ≤ 8 = omega (arith, ap length c.as_slice.ensures, c.requires.rule.2) in
    room-behind {n = 0} {m = 4096 * length c.as_slice.result.now} {a = g.L.ChangeLog.records c.args.log.now} (room-less c.requires.room (omega (arith, few))) (leaves-marked 0 c.in-Ok-mark_now.ensures.only_marks c.test.ensures.only_locks c.in-Ok-mark_now.ensures.sessions)

pub returns-in_default-clause-leaves : goal.returns-in_default-clause-leaves
returns-in_default-clause-leaves g c = leaves-all 32768 refl

pub returns-in_default-mark_now-clause-leaves : goal.returns-in_default-mark_now-clause-leaves
returns-in_default-mark_now-clause-leaves g c = leaves-all 32768 c.in_default-mark_now.ensures.unchanged

pub returns-in-Ok-true-clause-leaves : goal.returns-in-Ok-true-clause-leaves
returns-in-Ok-true-clause-leaves g c =
    let few : length c.as_slice.result.now ≤ 8 = omega (arith, ap length c.as_slice.ensures, c.requires.rule.2) in
    leaves-more 32768 (leaves-on (leaves-marked 0 c.in-Ok-mark_now.ensures.only_marks c.test.ensures.only_locks c.in-Ok-mark_now.ensures.sessions) c.run_actions.ensures.leaves) (omega (arith, few))

pub returns-in-Ok-false-clause-leaves : goal.returns-in-Ok-false-clause-leaves
returns-in-Ok-false-clause-leaves g c = leaves-marked 32768 c.in-Ok-mark_now.ensures.only_marks c.test.ensures.only_locks c.in-Ok-mark_now.ensures.sessions

pub returns-clause-leaves : goal.returns-clause-leaves
returns-clause-leaves g c = leaves-marked 32768 c.in-Ok-mark_now.ensures.only_marks c.test.ensures.only_locks c.in-Ok-mark_now.ensures.sessions
