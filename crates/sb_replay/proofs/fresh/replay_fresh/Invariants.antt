use Rattle.sb_replay.proofs.fresh.replay_fresh.Given as goal

-- the names of the host that was just opened
abbrev pub ghosts-replay_host-N-Ledger : goal.ghosts-replay_host-N-Ledger
ghosts-replay_host-N-Ledger g a = record { name = a.opened.name; parts = a.opened.parts }

abbrev pub ghosts-replay_host-N-Naming : goal.ghosts-replay_host-N-Naming
ghosts-replay_host-N-Naming g a = record { table = a.opened.table; tenants = a.opened.tenants; cells = a.opened.cells; bound = a.opened.bound }
