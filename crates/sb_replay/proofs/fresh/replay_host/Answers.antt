use Rattle.sb_replay.proofs.fresh.replay_host.Goals as goal

-- its host has the numbers that it was opened with
pub returns-in-Ok-clause-err : goal.returns-in-Ok-clause-err
returns-in-Ok-clause-err g c = rw (c.in-Ok.ensures, c.requires.named.3) at c.replay.ensures.err
