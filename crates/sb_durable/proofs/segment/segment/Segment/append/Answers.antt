use Rattle.std.proofs.Common.{◌≡◌, List, ℕ, inl, ap, arith, refl, subst, ◌∙◌, get_or}
use Rattle.sb_durable.proofs.SegmentCrash.{end_is, has_more, has_still, kept_or_spent, left_behind, left_gate, left_now, long, not_spent}
use Rattle.sb_durable.proofs.segment.segment.Segment.append.Goals as goal

-- before anything is written
pub returns-then-self-clause-any_moment : goal.returns-then-self-clause-any_moment
returns-then-self-clause-any_moment g c contents has file left = inl (left_now _ _ _ contents has file left)

pub returns-then-self-ge-MAX_LEN-clause-any_moment : goal.returns-then-self-ge-MAX_LEN-clause-any_moment
returns-then-self-ge-MAX_LEN-clause-any_moment g c contents has file left = inl (left_now _ _ _ contents has file left)

pub returns-in_err-behind-clause-any_moment : goal.returns-in_err-behind-clause-any_moment
returns-in_err-behind-clause-any_moment g c contents has file left = inl (left_now _ _ _ contents has file left)

-- the body is written behind the shut gate, or what was written of it is taken back
pub returns-in-Err-clause-any_moment : goal.returns-in-Err-clause-any_moment
returns-in-Err-clause-any_moment g c contents has file left =
    let size = long _ _ _ contents has _ _ _ c.requires c.digest_of-own.ensures.value (c.deref.ensures.value ∙ c.in_ok-behind.ensures) in
    inl (left_behind _ _ _ contents has _ file (omega (arith, size, c.requires)) (c.write_end.ensures.any_moment (end_is _ _ _ contents has) has.durable file left))

pub returns-in-Err-clause-err : goal.returns-in-Err-clause-err
returns-in-Err-clause-err g c = kept_or_spent c.is_no_room.result (λ is contents has.
    let back = c.in-Err.ensures.same (c.is_no_room.ensures.0 is) (end_is _ _ _ contents has) has.durable in
    has_still _ _ _ contents has _ _ back.0 back.1)

pub returns-in-Err-clause-room : goal.returns-in-Err-clause-room
returns-in-Err-clause-room g c room spent = not_spent c.is_no_room.result (c.is_no_room.ensures.1 room) spent

pub returns-in_err-sync-clause-any_moment : goal.returns-in_err-sync-clause-any_moment
returns-in_err-sync-clause-any_moment g c contents has file left =
    let size = long _ _ _ contents has _ _ _ c.requires c.digest_of-own.ensures.value (c.deref.ensures.value ∙ c.in_ok-behind.ensures) in
    inl (left_behind _ _ _ contents has _ file (omega (arith, size, c.requires)) (c.write_end.ensures.any_moment (end_is _ _ _ contents has) has.durable file (c.sync.ensures.crash file left)))

-- and then the gate is opened
pub returns-in_err-write_at-clause-any_moment : goal.returns-in_err-write_at-clause-any_moment
returns-in_err-write_at-clause-any_moment g c contents has file left =
    left_gate _ _ _ contents has _ _ _ c.requires c.digest_of-own.ensures.value (c.deref.ensures.value ∙ c.in_ok-behind.ensures) _ _ _ c.in-Ok.ensures.others c.in-Ok.ensures.written c.in_ok-sync.ensures.durable c.write_at.ensures.crash file left

pub returns-in_err-sync-2-clause-any_moment : goal.returns-in_err-sync-2-clause-any_moment
returns-in_err-sync-2-clause-any_moment g c contents has file left =
    left_gate _ _ _ contents has _ _ _ c.requires c.digest_of-own.ensures.value (c.deref.ensures.value ∙ c.in_ok-behind.ensures) _ _ _ c.in-Ok.ensures.others c.in-Ok.ensures.written c.in_ok-sync.ensures.durable c.write_at.ensures.crash file (c.sync-2.ensures.crash file left)

pub returns-clause-any_moment : goal.returns-clause-any_moment
returns-clause-any_moment g c contents has file left =
    left_gate _ _ _ contents has _ _ _ c.requires c.digest_of-own.ensures.value (c.deref.ensures.value ∙ c.in_ok-behind.ensures) _ _ _ c.in-Ok.ensures.others c.in-Ok.ensures.written c.in_ok-sync.ensures.durable c.write_at.ensures.crash file (c.sync-2.ensures.crash file left)

pub returns-clause-ok : goal.returns-clause-ok
returns-clause-ok g c contents has =
    has_more _ _ _ contents has _ _ _ c.requires c.digest_of-own.ensures.value (c.deref.ensures.value ∙ c.in_ok-behind.ensures) _ _ _ _ _ (omega arith) refl c.in-Ok.ensures.others c.in-Ok.ensures.written c.sync.ensures.seen c.write_at.ensures.others (c.in_ok-write_at.ensures.written (omega arith)) c.sync-2.ensures.seen c.in_ok-sync-2.ensures.durable

pub returns-clause-gate : goal.returns-clause-gate
returns-clause-gate g c contents has =
    ap (λ (l : List ℕ). get_or l c.args.self.now.end.at 0) c.sync-2.ensures.seen
    ∙ subst (λ n. get_or (g.D.Disk.seen c.write_at.new.self) n 0 ≡ 255) (omega arith) ((c.in_ok-write_at.ensures.written (omega arith)).each 0 (omega arith))
