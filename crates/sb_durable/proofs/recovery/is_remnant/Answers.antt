use Rattle.std.proofs.Common.{drop, arith, length-drop}
use Rattle.sb_durable.proofs.Repair.{is_short, is_long, is_gated, gate_at}
use Rattle.sb_durable.proofs.recovery.is_remnant.Goals as goal

pub returns-then-len-end-le1-clause-told : goal.returns-then-len-end-le1-clause-told
returns-then-len-end-le1-clause-told g c clean =
    let file = g.D.Disk.seen c.args.disk.now in
    is_short (drop c.args.end file) (omega (arith, c.if-len-end-le1.true, c.requires.len clean, length-drop c.args.end file))

pub returns-then-len-end-gt-MOST_LEFT-clause-told : goal.returns-then-len-end-gt-MOST_LEFT-clause-told
returns-then-len-end-gt-MOST_LEFT-clause-told g c clean =
    let file = g.D.Disk.seen c.args.disk.now in
    is_long (drop c.args.end file) (omega (arith, c.if-len-end-gt-MOST_LEFT.true, c.requires.len clean, length-drop c.args.end file))

pub returns-clause-told : goal.returns-clause-told
returns-clause-told g c clean =
    let file = g.D.Disk.seen c.args.disk.now in
    let whole = c.requires.len (c.read_at.ensures.clean clean) in
    is_gated (drop c.args.end file) _ _
    (gate_at file c.read_at.new.buf c.args.end (c.in_ok-read_at.ensures.read clean (omega arith)) (omega arith))
    (omega (arith, c.if-len-end-le1.false, whole, length-drop c.args.end file))
    (omega (arith, c.if-len-end-gt-MOST_LEFT.false, whole, length-drop c.args.end file))
