use Rattle.std.proofs.Common.{inl, arith, ◌∙◌}
use Rattle.sb_durable.proofs.Crash.{few_written, left_now, left_behind, left_gate, has_more}
use Rattle.sb_durable.proofs.record_log.RecordLog.append.Goals as goal

-- before anything is written
pub returns-then-self-clause-any_moment : goal.returns-then-self-clause-any_moment
returns-then-self-clause-any_moment g c contents has file left = inl (left_now _ _ _ contents has file left)

pub returns-then-self-ge-MAX_LEN-clause-any_moment : goal.returns-then-self-ge-MAX_LEN-clause-any_moment
returns-then-self-ge-MAX_LEN-clause-any_moment g c contents has file left = inl (left_now _ _ _ contents has file left)

pub returns-in_err-behind-clause-any_moment : goal.returns-in_err-behind-clause-any_moment
returns-in_err-behind-clause-any_moment g c contents has file left = inl (left_now _ _ _ contents has file left)

-- the body is written behind the shut gate
pub returns-in_err-write_at-clause-any_moment : goal.returns-in_err-write_at-clause-any_moment
returns-in_err-write_at-clause-any_moment g c contents has file left = inl (left_behind _ _ _ contents has _ _ (few_written _ _ _ contents has _ _ c.requires (c.deref.ensures.value ∙ c.in_ok-behind.ensures)) c.write_at.ensures.crash file left)

pub returns-in_err-sync-clause-any_moment : goal.returns-in_err-sync-clause-any_moment
returns-in_err-sync-clause-any_moment g c contents has file left = inl (left_behind _ _ _ contents has _ _ (few_written _ _ _ contents has _ _ c.requires (c.deref.ensures.value ∙ c.in_ok-behind.ensures)) c.write_at.ensures.crash file (c.sync.ensures.crash file left))

-- and then the gate is opened
pub returns-in_err-write_at-2-clause-any_moment : goal.returns-in_err-write_at-2-clause-any_moment
returns-in_err-write_at-2-clause-any_moment g c contents has file left =
    left_gate _ _ _ contents has _ _ c.requires (c.deref.ensures.value ∙ c.in_ok-behind.ensures) _ _ _ c.write_at.ensures.others c.in_ok-write_at.ensures.written c.in_ok-sync.ensures.durable c.write_at-2.ensures.crash file left

pub returns-in_err-sync-2-clause-any_moment : goal.returns-in_err-sync-2-clause-any_moment
returns-in_err-sync-2-clause-any_moment g c contents has file left =
    left_gate _ _ _ contents has _ _ c.requires (c.deref.ensures.value ∙ c.in_ok-behind.ensures) _ _ _ c.write_at.ensures.others c.in_ok-write_at.ensures.written c.in_ok-sync.ensures.durable c.write_at-2.ensures.crash file (c.sync-2.ensures.crash file left)

pub returns-clause-any_moment : goal.returns-clause-any_moment
returns-clause-any_moment g c contents has file left =
    left_gate _ _ _ contents has _ _ c.requires (c.deref.ensures.value ∙ c.in_ok-behind.ensures) _ _ _ c.write_at.ensures.others c.in_ok-write_at.ensures.written c.in_ok-sync.ensures.durable c.write_at-2.ensures.crash file (c.sync-2.ensures.crash file left)

pub returns-clause-ok : goal.returns-clause-ok
returns-clause-ok g c contents has =
    has_more _ _ _ contents has _ _ c.requires (c.deref.ensures.value ∙ c.in_ok-behind.ensures) _ _ _ _ _ (omega arith) c.write_at.ensures.others c.in_ok-write_at.ensures.written c.sync.ensures.seen c.write_at-2.ensures.others (c.in_ok-write_at-2.ensures.written (omega arith)) c.sync-2.ensures.seen c.in_ok-sync-2.ensures.durable
