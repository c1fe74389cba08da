use Rattle.std.proofs.Common.{length, subst, ◌∙◌}
use Rattle.sqlite_disk.specs.Disk.{Torn}
use Rattle.sb_durable.proofs.Extending.{extends_torn, extends_cut, cut_back}
use Rattle.sb_durable.proofs.segment.repair.write_end.Goals as goal

-- the bytes are written
pub returns-in-Ok-clause-any_moment : goal.returns-in-Ok-clause-any_moment
returns-in-Ok-clause-any_moment g c here only file left =
    let from = c.write_at.ensures.crash file left in
    extends_torn _ file _ _ here (subst (λ f. Torn c.args.end (length c.args.bytes.now) f file) (only from.0 from.1) from.2)

-- or not, for another reason
pub returns-then-not-lacks_room-clause-any_moment : goal.returns-then-not-lacks_room-clause-any_moment
returns-then-not-lacks_room-clause-any_moment g c here only file left =
    let from = c.write_at.ensures.crash file left in
    extends_torn _ file _ _ here (subst (λ f. Torn c.args.end (length c.args.bytes.now) f file) (only from.0 from.1) from.2)

-- they are taken back
pub returns-in_err-set_len-clause-any_moment : goal.returns-in_err-set_len-clause-any_moment
returns-in_err-set_len-clause-any_moment g c here only file left =
    let cut = c.set_len.ensures.crash file left in
    let from = c.write_at.ensures.crash cut.0 cut.1 in
    extends_cut _ cut.0 file _ _ here (extends_torn _ cut.0 _ _ here (subst (λ f. Torn c.args.end (length c.args.bytes.now) f cut.0) (only from.0 from.1) from.2)) cut.2

pub returns-in_err-sync-clause-any_moment : goal.returns-in_err-sync-clause-any_moment
returns-in_err-sync-clause-any_moment g c here only file left =
    let cut = c.set_len.ensures.crash file (c.sync.ensures.crash file left) in
    let from = c.write_at.ensures.crash cut.0 cut.1 in
    extends_cut _ cut.0 file _ _ here (extends_torn _ cut.0 _ _ here (subst (λ f. Torn c.args.end (length c.args.bytes.now) f cut.0) (only from.0 from.1) from.2)) cut.2

pub returns-clause-any_moment : goal.returns-clause-any_moment
returns-clause-any_moment g c here only file left =
    let cut = c.set_len.ensures.crash file (c.sync.ensures.crash file left) in
    let from = c.write_at.ensures.crash cut.0 cut.1 in
    extends_cut _ cut.0 file _ _ here (extends_torn _ cut.0 _ _ here (subst (λ f. Torn c.args.end (length c.args.bytes.now) f cut.0) (only from.0 from.1) from.2)) cut.2

pub returns-clause-same : goal.returns-clause-same
returns-clause-same g c room here only =
    let back = cut_back _ _ _ _ _ here (extends_torn _ _ _ _ here c.write_at.ensures.others) c.set_len.ensures.others c.in_ok-set_len.ensures.len in
    (c.sync.ensures.seen ∙ back, λ file left. c.in_ok-sync.ensures.durable file left ∙ back)
