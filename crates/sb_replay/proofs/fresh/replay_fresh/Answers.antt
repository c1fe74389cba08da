use Rattle.sb_replay.proofs.fresh.replay_fresh.Goals as goal

-- the host has the numbers that it was opened with
pub returns-in-Ok-clause-err : goal.returns-in-Ok-clause-err
returns-in-Ok-clause-err g c = rw (c.in-Ok.ensures.0, c.in-Ok.ensures.2) at c.replay_host.ensures.err
