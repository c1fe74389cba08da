use Rattle.sb_tests.proofs.connections.a_session_is_closed.Given as goal

-- the names of the host that was just opened
abbrev pub ghosts-serve_alone-N-Ledger : goal.ghosts-serve_alone-N-Ledger
ghosts-serve_alone-N-Ledger g a = record { name = a.opened.name; parts = a.opened.parts }

abbrev pub ghosts-serve_alone-N-Naming : goal.ghosts-serve_alone-N-Naming
ghosts-serve_alone-N-Naming g a = record { table = a.opened.table; tenants = a.opened.tenants; cells = a.opened.cells; bound = a.opened.bound }
