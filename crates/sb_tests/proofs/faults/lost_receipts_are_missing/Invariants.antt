use Rattle.sb_tests.proofs.faults.lost_receipts_are_missing.Given as goal

-- the names of the host that was just opened
abbrev pub ghosts-fail_behind-N-Ledger : goal.ghosts-fail_behind-N-Ledger
ghosts-fail_behind-N-Ledger g a = record { name = a.opened.name; parts = a.opened.parts }

abbrev pub ghosts-fail_behind-N-Naming : goal.ghosts-fail_behind-N-Naming
ghosts-fail_behind-N-Naming g a = record { table = a.opened.table; tenants = a.opened.tenants; cells = a.opened.cells; bound = a.opened.bound }
