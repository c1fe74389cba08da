use Rattle.std.proofs.Common.{arith, subst, refl}
use Rattle.sqlite_disk.specs.Disk.{Holds}
use Rattle.sb_durable.proofs.Heads.{unbegun}
use Rattle.sb_durable.proofs.segment.beginning.check_mark.Goals as goal

pub returns-then-gate-eq0-clause-not_begun : goal.returns-then-gate-eq0-clause-not_begun
returns-then-gate-eq0-clause-not_begun g c is clean =
    unbegun _ c.read_at.new.buf c.read_at-2.new.buf (c.in_ok-read_at.ensures.read (c.read_at-2.ensures.clean clean) (omega arith)) (omega arith)
    (subst (λ f. Holds f 1 c.read_at-2.new.buf) c.read_at.ensures.seen (c.in_ok-read_at-2.ensures.read clean (omega arith))) (c.if-not-is_mark.ensures.0 refl) c.if-gate-eq0.true
