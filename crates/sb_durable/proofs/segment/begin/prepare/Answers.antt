use Rattle.std.proofs.Common.{[], ◌++◌, append-nil, ◌≤◌, ◌<◌, arith, sym, ◌∙◌, ap, subst, length}
use Rattle.sqlite_disk.specs.Disk.{Cut}
use Rattle.sb_durable.specs.Head.{IsReady, IsOpened, head_bytes}
use Rattle.sb_durable.proofs.Begun.{short_ready, left_cut, cut_ready, shut_there}
use Rattle.sb_durable.proofs.segment.begin.prepare.Goals as goal

pub returns-then-len-le8-clause-ready : goal.returns-then-len-le8-clause-ready
returns-then-len-le8-clause-ready g c clean =
    let written = c.sync.ensures.clean clean in
    let short : length (g.D.Disk.seen c.len.new.self) ≤ 8 = omega (arith, c.if-len-le8.true, c.in_ok-len.ensures.len (c.write_at.ensures.clean written), ap length c.len.ensures.seen) in
    subst IsReady (sym c.sync.ensures.seen) (short_ready (g.D.Disk.seen c.len.new.self) _ short c.write_at.ensures.others (c.in_ok-write_at.ensures.written (omega arith)))

pub returns-in_err-set_len-clause-any_moment : goal.returns-in_err-set_len-clause-any_moment
returns-in_err-set_len-clause-any_moment g c clean only unbegun file left =
    let old = g.D.Disk.seen c.args.disk.now in
    let size : 8 < length old = omega (arith, c.if-len-le8.false, c.in_ok-len.ensures.len (c.read_beginning.ensures.clean (c.set_len.ensures.clean clean))) in
    let from = c.set_len.ensures.crash file left in
    left_cut old file (shut_there old size unbegun) (subst (λ f. Cut 8 f file) (only from.0 (c.len.ensures.crash from.0 (c.read_beginning.ensures.crash from.0 from.1))) from.2)

pub returns-in_err-sync-2-clause-any_moment : goal.returns-in_err-sync-2-clause-any_moment
returns-in_err-sync-2-clause-any_moment g c clean only unbegun file left =
    let old = g.D.Disk.seen c.args.disk.now in
    let size : 8 < length old = omega (arith, c.if-len-le8.false, c.in_ok-len.ensures.len (c.read_beginning.ensures.clean (c.set_len.ensures.clean (c.sync-2.ensures.clean clean)))) in
    let from = c.set_len.ensures.crash file (c.sync-2.ensures.crash file left) in
    left_cut old file (shut_there old size unbegun) (subst (λ f. Cut 8 f file) (only from.0 (c.len.ensures.crash from.0 (c.read_beginning.ensures.crash from.0 from.1))) from.2)

pub returns-clause-any_moment : goal.returns-clause-any_moment
returns-clause-any_moment g c clean only unbegun file left =
    let old = g.D.Disk.seen c.args.disk.now in
    let size : 8 < length old = omega (arith, c.if-len-le8.false, c.in_ok-len.ensures.len (c.read_beginning.ensures.clean (c.set_len.ensures.clean (c.sync-2.ensures.clean clean)))) in
    let from = c.set_len.ensures.crash file (c.sync-2.ensures.crash file left) in
    left_cut old file (shut_there old size unbegun) (subst (λ f. Cut 8 f file) (only from.0 (c.len.ensures.crash from.0 (c.read_beginning.ensures.crash from.0 from.1))) from.2)

pub returns-clause-ready : goal.returns-clause-ready
returns-clause-ready g c clean =
    let read = c.set_len.ensures.clean (c.sync-2.ensures.clean clean) in
    let old = g.D.Disk.seen c.len.new.self in
    let size : 8 < length old = omega (arith, c.if-len-le8.false, c.in_ok-len.ensures.len (c.read_beginning.ensures.clean read), ap length c.len.ensures.seen) in
    let unbegun = c.in-Err-NotBegun.ensures.unbegun c.in-Err-NotBegun.field-0-is read in
    subst IsReady (sym c.sync-2.ensures.seen) (cut_ready old (g.D.Disk.seen c.set_len.new.self) (shut_there old size unbegun) (subst (λ f. Cut 8 f (g.D.Disk.seen c.set_len.new.self)) c.read_beginning.ensures.seen c.set_len.ensures.others) c.in_ok-set_len.ensures.len)

pub returns-in-Err-clause-damaged : goal.returns-in-Err-clause-damaged
returns-in-Err-clause-damaged g c is clean other contents stands =
    c.in-Err.ensures.damaged is clean other stands.rest [] stands.fits (subst (λ f. IsOpened (head_bytes other ++ stands.rest) f) (sym (append-nil (g.D.Disk.seen c.len.new.self) ∙ c.len.ensures.seen)) stands.begins)
