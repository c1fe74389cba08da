use Rattle.std.proofs.Common.{refl}
use Rattle.starhost.proofs.Runs.{err_backup, ok_backup, went_well}
use Rattle.starhost.proofs.program.dump.Goals as goal

pub returns-in-None-clause-succeeds : goal.returns-in-None-clause-succeeds
returns-in-None-clause-succeeds g c = rw c.in-None.is (λ ok. went_well g.E.Sink.refuses g.E.Write.contents c.args.errors.now.sink c.tell_end.new.errors c.of_backup.result c.tell_end.result c.tell_end.ensures ok (ok_backup _ c.dump_tenant-ended.result c.of_backup.result c.of_backup.ensures c.dump_tenant-ended.ensures.ok))

pub returns-in-None-clause-goes : goal.returns-in-None-clause-goes
returns-in-None-clause-goes g c = rw c.in-None.is (c.of_backup.result, c.tell_end.ensures, err_backup _ c.dump_tenant-ended.result c.of_backup.result c.of_backup.ensures c.dump_tenant-ended.ensures.err)

pub returns-in-Some-clause-succeeds : goal.returns-in-Some-clause-succeeds
returns-in-Some-clause-succeeds g c = rw c.in-Some.is (λ ok. (refl, went_well g.E.Sink.refuses g.E.Write.contents c.args.errors.now.sink c.tell_end-in-Some.new.errors c.of_backup-in-Some.result c.tell_end-in-Some.result c.tell_end-in-Some.ensures ok (ok_backup _ c.dump_all-ended.result c.of_backup-in-Some.result c.of_backup-in-Some.ensures c.dump_all-ended.ensures.ok)))

pub returns-in-Some-clause-goes : goal.returns-in-Some-clause-goes
returns-in-Some-clause-goes g c = rw c.in-Some.is (c.of_backup-in-Some.result, c.tell_end-in-Some.ensures, refl, err_backup _ c.dump_all-ended.result c.of_backup-in-Some.result c.of_backup-in-Some.ensures c.dump_all-ended.ensures.err)
