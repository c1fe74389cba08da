use Rattle.std.proofs.Common.{inr, subst, ℕ, List}
use Rattle.std.specs.Io.KnownBytes.{Appends}
use Rattle.std.proofs.KnownBytes.{Keeps-refl}
use Rattle.starhost.proofs.host_end.finish.Goals as goal

-- nothing is written of a host that isn't finished
pub returns-in-Err-clause-err : goal.returns-in-Err-clause-err
returns-in-Err-clause-err g c = inr (Keeps-refl (g.W.Write.contents c.args.writer.now), inr (c.in-Err.error, c.in-Err.ensures, c.fault_of.ensures))

-- the line is that of the host's report
pub returns-in-Ok-write_and_flush-clause-ok : goal.returns-in-Ok-write_and_flush-clause-ok
returns-in-Ok-write_and_flush-clause-ok g c = (
  c.in-Ok-totals.line.items,
  subst (λ (bytes : List ℕ). Appends (g.W.Write.contents c.args.writer.now) (g.W.Write.contents c.write_and_flush.new.writer) bytes) c.as_slice.ensures.value c.in-Ok-write_and_flush.ensures.all,
  (c.in-Ok.report, c.in-Ok.ensures.0, c.in-Ok.ensures.2, c.in-Ok-totals.ensures),
)
