use Rattle.std.proofs.Common.{◌≡◌, IsTrue, subst}
use Rattle.sb_durable.specs.Head.{Head}
use Rattle.sb_durable.specs.RowFaults.{IsRefused, TellsFirst}
use Rattle.sb_durable.proofs.RowReaders.{refused_of, read_first}
use Rattle.sb_durable.proofs.segment.reader.RowReader.first.Goals as goal

pub returns-in-Err-clause-refused : goal.returns-in-Err-clause-refused
returns-in-Err-clause-refused g c error same clean =
    let is : c.in-Err.error ≡ error = cc in
    subst (λ e. IsRefused e (g.D.Disk.seen c.args.device)) is
    (refused_of c.in-Err.error (g.D.Disk.seen c.args.device) (λ e. c.in-Err.ensures.foreign e clean) (λ e. c.in-Err.ensures.unbegun e clean) (λ e. c.in-Err.ensures.cut_short e clean) (λ e. c.in-Err.ensures.damaged e clean))

pub returns-in-Ok-check_first-clause-ok : goal.returns-in-Ok-check_first-clause-ok
returns-in-Ok-check_first-clause-ok g c clean head contents stands =
    let found = c.in-Ok.ensures.ok clean head contents stands in
    (found.0, read_first _ _ _ contents found.1 c.in-Ok-check_first.ensures.ok.1)

pub returns-in-Err-check_first-clause-fault : goal.returns-in-Err-check_first-clause-fault
returns-in-Err-check_first-clause-fault g c fault same clean head contents stands =
    let is : c.in-Err-check_first.fault ≡ fault = cc in
    let found = c.in-Ok.ensures.ok (subst (λ d. IsTrue (g.D.Disk.is_clean d)) c.close.ensures clean) head contents stands in
    subst (λ f. TellsFirst f c.args.number c.args.settings.now head) is
    (subst (λ (h : Head). TellsFirst c.in-Err-check_first.fault c.args.number c.args.settings.now h) found.0 c.in-Err-check_first.ensures.err)
