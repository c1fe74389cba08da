use Rattle.std.proofs.Common.{◌+◌, ◌-◌, ◌<◌, arith, subst}
use Rattle.std.proofs.lemmas.Result.{on_ok_weaker}
use Rattle.sqlite_disk.specs.Disk.{Torn, Cut}
use Rattle.sb_durable.proofs.Repair.{cut_keeps, cut_rests, shut_at, write_keeps, write_rests}
use Rattle.sb_durable.proofs.recovery.leave_gate.Goals as goal

pub returns-then-len-end-le1-clause-at_rest : goal.returns-then-len-end-le1-clause-at_rest
returns-then-len-end-le1-clause-at_rest g c =
    on_ok_weaker c.write_at.result (λ holds clean contents ends. write_rests contents _ _ _ ends (omega (arith, c.if-len-end-le1.true)) _ c.write_at.ensures.others (holds (omega arith))) c.write_at.ensures.written

pub returns-then-len-end-le1-clause-any_moment : goal.returns-then-len-end-le1-clause-any_moment
returns-then-len-end-le1-clause-any_moment g c clean only contents ends file left =
    let from = c.write_at.ensures.crash file left in
    write_keeps contents _ _ _ ends (omega (arith, c.if-len-end-le1.true)) file (subst (λ f. Torn c.args.end 1 f file) (only from.0 from.1) from.2)

pub returns-clause-at_rest : goal.returns-clause-at_rest
returns-clause-at_rest g c =
    on_ok_weaker c.set_len.result (λ size clean contents ends.
    let remnant = c.requires.remnant (c.set_len.ensures.clean clean) in
    let long : 1 < c.args.len - c.args.end = omega (arith, c.if-len-end-le1.false) in
    cut_rests contents _ _ _ ends (shut_at _ c.args.end remnant (omega (arith, ends.size, long))) long _ c.set_len.ensures.others size) c.set_len.ensures.len

pub returns-clause-any_moment : goal.returns-clause-any_moment
returns-clause-any_moment g c clean only contents ends file left =
    let remnant = c.requires.remnant (c.set_len.ensures.clean clean) in
    let long : 1 < c.args.len - c.args.end = omega (arith, c.if-len-end-le1.false) in
    let from = c.set_len.ensures.crash file left in
    cut_keeps contents _ _ _ ends (shut_at _ c.args.end remnant (omega (arith, ends.size, long))) long file
    (subst (λ f. Cut (c.args.end + 1) f file) (only from.0 from.1) from.2) remnant
