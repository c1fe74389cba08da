use Rattle.sb_tests.proofs.jobs.calls_in_two_cells_overlap.Given as goal

-- the names of the host that was just opened
abbrev pub ghosts-overlap-N-Ledger : goal.ghosts-overlap-N-Ledger
ghosts-overlap-N-Ledger g a = record { name = a.opened.name; parts = a.opened.parts }

abbrev pub ghosts-overlap-N-Naming : goal.ghosts-overlap-N-Naming
ghosts-overlap-N-Naming g a = record { table = a.opened.table; tenants = a.opened.tenants; cells = a.opened.cells; bound = a.opened.bound }
