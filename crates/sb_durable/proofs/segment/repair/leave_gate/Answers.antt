use Rattle.std.proofs.Common.{◌+◌, ◌-◌, arith, sym, subst}
use Rattle.std.proofs.lemmas.Result.{on_ok_weaker}
use Rattle.sqlite_disk.specs.Disk.{Torn, Cut}
use Rattle.sb_durable.specs.Head.{IsLeft}
use Rattle.sb_durable.proofs.SegmentContents.{gate_left, end_within}
use Rattle.sb_durable.proofs.Mending.{cut_left, cut_rests, write_keeps, write_rests}
use Rattle.sb_durable.proofs.segment.repair.leave_gate.Goals as goal

pub returns-then-len-end-clause-at_rest : goal.returns-then-len-end-clause-at_rest
returns-then-len-end-clause-at_rest g c =
    on_ok_weaker c.write_at.result (λ holds clean head contents ends. write_rests head contents _ _ _ ends (omega (arith, c.if-len-end.true)) _ c.write_at.ensures.others (holds (omega arith))) c.write_at.ensures.written

pub returns-then-len-end-clause-any_moment : goal.returns-then-len-end-clause-any_moment
returns-then-len-end-clause-any_moment g c clean only head contents ends file left =
    let from = c.write_at.ensures.crash file left in
    write_keeps head contents _ _ _ ends (omega (arith, c.if-len-end.true)) file (subst (λ f. Torn c.args.end 1 f file) (only from.0 from.1) from.2)

-- a shut gate is there already
pub returns-then-len-end-clause-left : goal.returns-then-len-end-clause-left
returns-then-len-end-clause-left g c clean only head contents ends was file left =
    absurd (omega (arith, c.if-len-end.true, ends.at_end, ends.size, end_within head contents (g.D.Disk.seen c.args.disk.now) was))

pub returns-in_err-shut_gate-clause-any_moment : goal.returns-in_err-shut_gate-clause-any_moment
returns-in_err-shut_gate-clause-any_moment g c clean only head contents ends file left = c.shut_gate.ensures.any_moment clean only head contents _ ends file left

-- and isn't written
pub returns-in_err-shut_gate-clause-left : goal.returns-in_err-shut_gate-clause-left
returns-in_err-shut_gate-clause-left g c clean only head contents ends was file left =
    let shut = gate_left head contents (g.D.Disk.seen c.args.disk.now) c.args.end was ends.at_end in
    subst (λ f. IsLeft head contents f) (sym (only file (c.shut_gate.ensures.left clean shut file left))) was

pub returns-clause-at_rest : goal.returns-clause-at_rest
returns-clause-at_rest g c =
    on_ok_weaker c.set_len.result (λ size clean head contents ends.
    let was = c.set_len.ensures.clean clean in
    cut_rests head contents _ _ _ (c.in_ok-shut_gate.ensures.stays was head contents c.args.len ends) (c.in_ok-shut_gate.ensures.shut was) (omega (arith, c.if-len-end.false, c.requires.within)) _ c.set_len.ensures.others size) c.set_len.ensures.len

pub returns-clause-any_moment : goal.returns-clause-any_moment
returns-clause-any_moment g c clean only head contents ends file left =
    let was = c.set_len.ensures.clean clean in
    let from = c.set_len.ensures.crash file left in
    (cut_left head contents _ _ _ (c.in_ok-shut_gate.ensures.stays was head contents c.args.len ends) (c.in_ok-shut_gate.ensures.shut was) (omega (arith, c.if-len-end.false, c.requires.within)) file
    (subst (λ f. Cut (c.args.end + 1) f file) (c.in_ok-shut_gate.ensures.durable only from.0 from.1) from.2)).stands

pub returns-clause-left : goal.returns-clause-left
returns-clause-left g c clean only head contents ends was file left =
    let shut = gate_left head contents (g.D.Disk.seen c.args.disk.now) c.args.end was ends.at_end in
    let from = c.set_len.ensures.crash file left in
    let same = only from.0 (c.shut_gate.ensures.left (c.set_len.ensures.clean clean) shut from.0 from.1) in
    cut_left head contents _ _ _ ends shut (omega (arith, c.if-len-end.false, c.requires.within)) file (subst (λ f. Cut (c.args.end + 1) f file) same from.2)
