use Rattle.std.proofs.Common.{arith, refl, ◌∙◌, subst, inl, take, drop, ◌-◌, length}
use Rattle.std.proofs.lemmas.Result.{on_ok_weaker}
use Rattle.sqlite_disk.specs.Disk.{Torn}
use Rattle.sb_durable.proofs.Begun.{left_head, tail_some, staged_head, left_head_gate, head_opened}
use Rattle.sb_durable.proofs.segment.begin.write_head.Goals as goal

pub returns-in_err-write_at-clause-any_moment : goal.returns-in_err-write_at-clause-any_moment
returns-in_err-write_at-clause-any_moment g c rest are ready only file left =
    let from = c.write_at.ensures.crash file left in
    inl (left_head _ c.args.bytes.now rest ready are _ file (subst (λ f. Torn 8 (length (take (length c.args.bytes.now - 8) (drop 8 c.args.bytes.now))) f file) (only from.0 from.1) from.2))

pub returns-in_err-sync-clause-any_moment : goal.returns-in_err-sync-clause-any_moment
returns-in_err-sync-clause-any_moment g c rest are ready only file left =
    let from = c.write_at.ensures.crash file (c.sync.ensures.crash file left) in
    inl (left_head _ c.args.bytes.now rest ready are _ file (subst (λ f. Torn 8 (length (take (length c.args.bytes.now - 8) (drop 8 c.args.bytes.now))) f file) (only from.0 from.1) from.2))

pub returns-in_err-write_at-2-clause-any_moment : goal.returns-in_err-write_at-2-clause-any_moment
returns-in_err-write_at-2-clause-any_moment g c rest are ready only file left =
    let from = c.write_at-2.ensures.crash file left in
    let some = tail_some _ c.args.bytes.now rest ready are c.requires.marked in
    let staged = staged_head _ c.args.bytes.now rest ready are _ (g.D.Disk.seen c.write_at.new.self) refl c.write_at.ensures.others (c.in_ok-write_at.ensures.written some) in
    left_head_gate _ c.args.bytes.now rest ready are from.0 file (c.in_ok-sync.ensures.durable from.0 from.1 ∙ staged) from.2

pub returns-clause-any_moment : goal.returns-clause-any_moment
returns-clause-any_moment g c rest are ready only file left =
    let from = c.write_at-2.ensures.crash file (c.sync-2.ensures.crash file left) in
    let some = tail_some _ c.args.bytes.now rest ready are c.requires.marked in
    let staged = staged_head _ c.args.bytes.now rest ready are _ (g.D.Disk.seen c.write_at.new.self) refl c.write_at.ensures.others (c.in_ok-write_at.ensures.written some) in
    left_head_gate _ c.args.bytes.now rest ready are from.0 file (c.in_ok-sync.ensures.durable from.0 from.1 ∙ staged) from.2

pub returns-clause-ok : goal.returns-clause-ok
returns-clause-ok g c =
    on_ok_weaker c.sync-2.result (λ durable rest are ready.
    let some = tail_some _ c.args.bytes.now rest ready are c.requires.marked in
    let staged = staged_head _ c.args.bytes.now rest ready are _ (g.D.Disk.seen c.write_at.new.self) refl c.write_at.ensures.others (c.in_ok-write_at.ensures.written some) in
    c.sync-2.ensures.seen ∙ head_opened _ c.args.bytes.now rest ready are (g.D.Disk.seen c.sync.new.self) _ (c.sync.ensures.seen ∙ staged) c.write_at-2.ensures.others (c.in_ok-write_at-2.ensures.written (omega arith))) c.sync-2.ensures.durable
