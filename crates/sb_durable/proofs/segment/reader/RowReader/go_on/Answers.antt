use Rattle.std.proofs.Common.{◌≡◌, IsTrue, ap, sym, subst, ◌∙◌}
use Rattle.sb_durable.specs.Head.{Head}
use Rattle.sb_durable.specs.Row.{IsNext}
use Rattle.sb_durable.specs.RowFaults.{IsRefused, Tells}
use Rattle.sb_durable.specs.RowReaders.{filed}
use Rattle.sb_durable.specs.Segment.{IsBound, Knows, device_of, head_of}
use Rattle.sb_durable.proofs.RowReaders.{refused_of, read_next, binds_next}
use Rattle.sb_durable.proofs.segment.reader.RowReader.go_on.Goals as goal

pub returns-in-Err-clause-refused : goal.returns-in-Err-clause-refused
returns-in-Err-clause-refused g c error same clean =
    let is : c.in-Err.error ≡ error = cc in
    subst (λ e. IsRefused e (g.D.Disk.seen c.args.device)) is
    (refused_of c.in-Err.error (g.D.Disk.seen c.args.device) (λ e. c.in-Err.ensures.foreign e clean) (λ e. c.in-Err.ensures.unbegun e clean) (λ e. c.in-Err.ensures.cut_short e clean) (λ e. c.in-Err.ensures.damaged e clean))

pub returns-in-Ok-check_next-clause-ok : goal.returns-in-Ok-check_next-clause-ok
returns-in-Ok-check_next-clause-ok g c clean head others stands settings older contents has =
    let disk = g.D.Disk in
    let after = c.replace-full.ensures.after in
    let found = c.in-Ok.ensures.ok (subst (λ s. IsTrue (disk.is_clean (device_of s))) after clean) head others stands in
    let next = c.in-Ok-check_next.ensures.ok contents has.knows.end in (
      ap (λ s. head_of s) after ∙ found.0,
      read_next disk.seen _ c.args.self.now settings older contents others has (subst (λ s. Knows disk.seen s others) (sym after) found.1)
          (subst (λ s. IsNext (filed c.args.self.now.last contents) (head_of s)) (sym after) next),
    )

pub returns-in-Ok-check_next-clause-knows : goal.returns-in-Ok-check_next-clause-knows
returns-in-Ok-check_next-clause-knows g c clean head others stands =
    let disk = g.D.Disk in
    let after = c.replace-full.ensures.after in
    let found = c.in-Ok.ensures.ok (subst (λ s. IsTrue (disk.is_clean (device_of s))) after clean) head others stands in
    (ap (λ s. head_of s) after ∙ found.0, subst (λ s. Knows disk.seen s others) (sym after) found.1)

pub returns-in-Ok-check_next-clause-binds : goal.returns-in-Ok-check_next-clause-binds
returns-in-Ok-check_next-clause-binds g c older bound =
    let after = c.replace-full.ensures.after in
    binds_next _ (subst (λ s. IsBound s.beginning s.end) (sym after) c.in-Ok.ensures.bears) c.args.self.now older bound
    (subst (λ s. IsNext (filed c.args.self.now.last bound.contents) (head_of s)) (sym after) (c.in-Ok-check_next.ensures.ok bound.contents bound.end))

pub returns-in-Err-check_next-clause-fault : goal.returns-in-Err-check_next-clause-fault
returns-in-Err-check_next-clause-fault g c fault same clean head contents stands =
    let own = c.args.self.now.last in
    let is : c.in-Err-check_next.fault ≡ fault = cc in
    let found = c.in-Ok.ensures.ok (subst (λ d. IsTrue (g.D.Disk.is_clean d)) c.close-in-Err-check_next.ensures clean) head contents stands in
    subst (λ f. Tells f (head_of own) own.end.chain head) is
    (subst (λ (h : Head). Tells c.in-Err-check_next.fault (head_of own) own.end.chain h) found.0 c.in-Err-check_next.ensures.err)

pub returns-in-Ok-check_next-clause-begun : goal.returns-in-Ok-check_next-clause-begun
returns-in-Ok-check_next-clause-begun g c clean = c.in-Ok.ensures.begun (subst (λ s. IsTrue (g.D.Disk.is_clean (device_of s))) c.replace-full.ensures.after clean)
