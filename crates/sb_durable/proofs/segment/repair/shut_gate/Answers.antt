use Rattle.std.proofs.Common.{arith, sym, subst}
use Rattle.std.proofs.lemmas.Result.{on_ok_weaker}
use Rattle.sqlite_disk.specs.Disk.{Torn}
use Rattle.sb_durable.specs.SegmentEnds.{EndsAt}
use Rattle.sb_durable.proofs.Mending.{gate_there, shut_keeps, shut_ends}
use Rattle.sb_durable.proofs.segment.repair.shut_gate.Goals as goal

pub returns-in_err-write_at-clause-any_moment : goal.returns-in_err-write_at-clause-any_moment
returns-in_err-write_at-clause-any_moment g c clean only head contents len ends file left =
    let found = gate_there (g.D.Disk.seen c.args.disk.now) c.read_at.new.buf c.args.end (c.in_ok-read_at.ensures.read (c.write_at.ensures.clean clean) (omega arith)) (omega arith) in
    let from = c.write_at.ensures.crash file left in
    shut_keeps head contents _ len _ ends _ c.if-gate-eq0.false found file (subst (λ f. Torn c.args.end 1 f file) (only from.0 (c.read_at.ensures.crash from.0 from.1)) from.2)

pub returns-clause-stays : goal.returns-clause-stays
returns-clause-stays g c =
    on_ok_weaker c.sync.result (λ durable clean head contents len ends.
    let found = gate_there (g.D.Disk.seen c.args.disk.now) c.read_at.new.buf c.args.end (c.in_ok-read_at.ensures.read (c.write_at.ensures.clean (c.sync.ensures.clean clean)) (omega arith)) (omega arith) in
    let torn = subst (λ f. Torn c.args.end 1 f (g.D.Disk.seen c.write_at.new.self)) c.read_at.ensures.seen c.write_at.ensures.others in
    subst (λ f. EndsAt head contents c.args.end len f) (sym c.sync.ensures.seen) (shut_ends head contents _ len _ ends _ c.if-gate-eq0.false found _ torn)) c.sync.ensures.durable

pub returns-clause-any_moment : goal.returns-clause-any_moment
returns-clause-any_moment g c clean only head contents len ends file left =
    let found = gate_there (g.D.Disk.seen c.args.disk.now) c.read_at.new.buf c.args.end (c.in_ok-read_at.ensures.read (c.write_at.ensures.clean (c.sync.ensures.clean clean)) (omega arith)) (omega arith) in
    let from = c.write_at.ensures.crash file (c.sync.ensures.crash file left) in
    shut_keeps head contents _ len _ ends _ c.if-gate-eq0.false found file (subst (λ f. Torn c.args.end 1 f file) (only from.0 (c.read_at.ensures.crash from.0 from.1)) from.2)
