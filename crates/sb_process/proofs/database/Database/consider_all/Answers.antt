use Rattle.std.proofs.Common.{◌∙◌, ◌+◌, ◌*◌, ◌-◌, ◌<◌, Ok, ap, arith, rules}
use Rattle.std.specs.Option.{option_copied}
use Rattle.sb_process.proofs.Leaving.{leaves-on, leaves-more, leaves-tables, room-less, room-behind}
use Rattle.sb_process.proofs.Processing.{at-work, looked-on, runs-on, considered-on, looked-done, looked-limit, looked-can-run, turn-ends, turn-goes-on}
use Rattle.sb_process.proofs.database.Database.consider_all.Goals as goal

-- ---- the work of each turn

pub next_rule-requires-clause-work : goal.next_rule-requires-clause-work
next_rule-requires-clause-work g c =
    let some = c.requires.work in let r = c.loop-turn.invariant.reached some.0 some.1 some.2 some.3 in (some.0, some.1, r.after, at-work some.3 r c.loop-turn.invariant.leaves.id)

pub next_rule-requires-2-clause-work : goal.next_rule-requires-2-clause-work
next_rule-requires-2-clause-work g c =
    let some = c.requires.work in let r = c.loop-turn.invariant.reached some.0 some.1 some.2 some.3 in (some.0, some.1, r.after, at-work some.3 r c.loop-turn.invariant.leaves.id)

-- ---- no rule is left, or no consideration

pub returns-in_default-clause-processed : goal.returns-in_default-clause-processed
returns-in_default-clause-processed g c = λ origin setting progress w.
    let r = c.loop-turn.invariant.reached origin setting progress w in
    looked-done w r c.loop-turn.invariant.leaves.id (c.next_rule.ensures.work origin setting r.after) (c.next_rule.ensures.next origin setting r.after) (ap option_copied c.in_default.is)

pub returns-in-None-clause-processed : goal.returns-in-None-clause-processed
returns-in-None-clause-processed g c = λ origin setting progress w.
    let r = c.loop-turn.invariant.reached origin setting progress w in
    looked-done w r c.loop-turn.invariant.leaves.id (c.next_rule-2.ensures.work origin setting r.after) (c.next_rule-2.ensures.next origin setting r.after) (ap option_copied c.in-None.is)

pub returns-in-Some-next_rule-clause-processed : goal.returns-in-Some-next_rule-clause-processed
returns-in-Some-next_rule-clause-processed g c = λ origin setting progress w.
    let r = c.loop-turn.invariant.reached origin setting progress w in
    looked-limit w r c.loop-turn.invariant.leaves.id (c.next_rule-2.ensures.work origin setting r.after) (c.next_rule-2.ensures.next origin setting r.after) c.in-Some-next_rule.field-0.now (ap option_copied c.in-Some-next_rule.is) (omega (arith, c.loop-turn-test.false))

pub returns-in_default-clause-under_way : goal.returns-in_default-clause-under_way
returns-in_default-clause-under_way g c = λ origin setting progress w.
    let r = c.loop-turn.invariant.reached origin setting progress w in (r.after, looked-on w r c.loop-turn.invariant.leaves.id (c.next_rule.ensures.work origin setting r.after))

pub returns-in_default-clause-leaves : goal.returns-in_default-clause-leaves
returns-in_default-clause-leaves g c = leaves-more (32768 * c.args.point.now.bound) (leaves-on c.loop-turn.invariant.leaves (leaves-tables 0 c.next_rule.ensures.only_candidates c.next_rule.ensures.sessions)) (omega (arith, c.loop-turn-test.true))

pub returns-in-None-clause-under_way : goal.returns-in-None-clause-under_way
returns-in-None-clause-under_way g c = λ origin setting progress w.
    let r = c.loop-turn.invariant.reached origin setting progress w in (r.after, looked-on w r c.loop-turn.invariant.leaves.id (c.next_rule-2.ensures.work origin setting r.after))

pub returns-in-None-clause-leaves : goal.returns-in-None-clause-leaves
returns-in-None-clause-leaves g c = leaves-more (32768 * c.args.point.now.bound) (leaves-on c.loop-turn.invariant.leaves (leaves-tables 0 c.next_rule-2.ensures.only_candidates c.next_rule-2.ensures.sessions)) (omega (arith, c.loop-turn.auto._turn-end))

pub returns-in-Some-next_rule-clause-under_way : goal.returns-in-Some-next_rule-clause-under_way
returns-in-Some-next_rule-clause-under_way g c = λ origin setting progress w.
    let r = c.loop-turn.invariant.reached origin setting progress w in (r.after, looked-on w r c.loop-turn.invariant.leaves.id (c.next_rule-2.ensures.work origin setting r.after))

pub returns-in-Some-next_rule-clause-leaves : goal.returns-in-Some-next_rule-clause-leaves
returns-in-Some-next_rule-clause-leaves g c = leaves-more (32768 * c.args.point.now.bound) (leaves-on c.loop-turn.invariant.leaves (leaves-tables 0 c.next_rule-2.ensures.only_candidates c.next_rule-2.ensures.sessions)) (omega (arith, c.loop-turn.auto._turn-end))

-- ---- the step is to end

pub returns-in_err-note-clause-under_way : goal.returns-in_err-note-clause-under_way
returns-in_err-note-clause-under_way g c = λ origin setting progress w.
    let r = c.loop-turn.invariant.reached origin setting progress w in (r.after, looked-on w r c.loop-turn.invariant.leaves.id (c.next_rule.ensures.work origin setting r.after))

pub returns-in_err-note-clause-leaves : goal.returns-in_err-note-clause-leaves
returns-in_err-note-clause-leaves g c = leaves-more (32768 * c.args.point.now.bound) (leaves-on c.loop-turn.invariant.leaves (leaves-tables 0 c.next_rule.ensures.only_candidates c.next_rule.ensures.sessions)) (omega (arith, c.loop-turn-test.true))

-- ---- a rule is considered

pub consider_noted-requires-clause-running : goal.consider_noted-requires-clause-running
consider_noted-requires-clause-running g c =
    let some = c.requires.work in let r = c.loop-turn.invariant.reached some.0 some.1 some.2 some.3 in (some.0, some.1, r.after, runs-on some.3 r c.loop-turn.invariant.leaves.id (c.next_rule.ensures.work some.0 some.1 r.after))

pub consider_noted-requires-clause-rule : goal.consider_noted-requires-clause-rule
consider_noted-requires-clause-rule g c =
    let some = c.requires.work in let r = c.loop-turn.invariant.reached some.0 some.1 some.2 some.3 in
    looked-can-run some.3 r c.loop-turn.invariant.leaves.id (c.next_rule.ensures.work some.0 some.1 r.after) (c.next_rule.ensures.next some.0 some.1 r.after) c.in-Some.rule.now (ap option_copied c.in-Some.is) c.requires.rules

pub consider_noted-requires-clause-room : goal.consider_noted-requires-clause-room
consider_noted-requires-clause-room g c =
    let fits : c.args.point.now.bound < 4294967296 = search rules in
    room-behind (room-less {m = 32768 * c.loop-turn._turn + 0 + 32768} c.requires.room (omega (arith, c.loop-turn-test.true, fits))) (leaves-on c.loop-turn.invariant.leaves (leaves-tables 0 c.next_rule.ensures.only_candidates c.next_rule.ensures.sessions))

pub returns-in-Ok-Some-clause-processed : goal.returns-in-Ok-Some-clause-processed
returns-in-Ok-Some-clause-processed g c = λ origin setting progress w.
    let r = c.loop-turn.invariant.reached origin setting progress w in
    turn-ends w r c.loop-turn.invariant.leaves.id (c.next_rule.ensures.work origin setting r.after) (c.next_rule.ensures.next origin setting r.after) c.in-Some.rule.now (ap option_copied c.in-Some.is)
    (c.consider_noted.ensures.noted origin setting r.after) (c.args.point.now.bound - (c.loop-turn._turn + 1)) (omega (arith, c.loop-turn-test.true)) c.in-Ok-Some.outcome (c.in-Ok-Some.is ∙ ap Ok c.in-Ok-Some.field-0-is)

pub returns-in-Ok-Some-clause-under_way : goal.returns-in-Ok-Some-clause-under_way
returns-in-Ok-Some-clause-under_way g c = λ origin setting progress w.
    let r = c.loop-turn.invariant.reached origin setting progress w in considered-on w r c.loop-turn.invariant.leaves.id (c.next_rule.ensures.work origin setting r.after) (c.consider_noted.ensures.under_way origin setting r.after)

pub returns-in-Ok-Some-clause-leaves : goal.returns-in-Ok-Some-clause-leaves
returns-in-Ok-Some-clause-leaves g c =
    leaves-more (32768 * c.args.point.now.bound) (leaves-on (leaves-on c.loop-turn.invariant.leaves (leaves-tables 0 c.next_rule.ensures.only_candidates c.next_rule.ensures.sessions)) c.consider_noted.ensures.leaves) (omega (arith, c.loop-turn-test.true))

pub returns-in-Err-clause-under_way : goal.returns-in-Err-clause-under_way
returns-in-Err-clause-under_way g c = λ origin setting progress w.
    let r = c.loop-turn.invariant.reached origin setting progress w in considered-on w r c.loop-turn.invariant.leaves.id (c.next_rule.ensures.work origin setting r.after) (c.consider_noted.ensures.under_way origin setting r.after)

pub returns-in-Err-clause-leaves : goal.returns-in-Err-clause-leaves
returns-in-Err-clause-leaves g c =
    leaves-more (32768 * c.args.point.now.bound) (leaves-on (leaves-on c.loop-turn.invariant.leaves (leaves-tables 0 c.next_rule.ensures.only_candidates c.next_rule.ensures.sessions)) c.consider_noted.ensures.leaves) (omega (arith, c.loop-turn-test.true))

pub loop-turn-preserved : goal.loop-turn-preserved
loop-turn-preserved g c = record {
  reached = λ origin setting progress w.
      let r = c.loop-turn.invariant.reached origin setting progress w in
      turn-goes-on w r c.loop-turn.invariant.leaves.id (c.next_rule.ensures.work origin setting r.after) (c.next_rule.ensures.next origin setting r.after) c.in-Some.rule.now (ap option_copied c.in-Some.is)
      (c.consider_noted.ensures.noted origin setting r.after) (c.args.point.now.bound - (c.loop-turn._turn + 1)) (omega (arith, c.loop-turn-test.true)) (c.in-Ok-None.is ∙ ap Ok c.in-Ok-None.field-0-is);
  leaves = leaves-more (32768 * (c.loop-turn._turn + 1)) (leaves-on (leaves-on c.loop-turn.invariant.leaves (leaves-tables 0 c.next_rule.ensures.only_candidates c.next_rule.ensures.sessions)) c.consider_noted.ensures.leaves) (omega arith);
}
