use Rattle.sb_tests.proofs.pressed.jobs_lack_memory.Given as goal

-- the names of the host that was just opened
abbrev pub ghosts-run_new-N-Ledger : goal.ghosts-run_new-N-Ledger
ghosts-run_new-N-Ledger g a = record { name = a.opened.name; parts = a.opened.parts }

abbrev pub ghosts-run_new-N-Naming : goal.ghosts-run_new-N-Naming
ghosts-run_new-N-Naming g a = record { table = a.opened.table; tenants = a.opened.tenants; cells = a.opened.cells; bound = a.opened.bound }
