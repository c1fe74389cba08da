use Rattle.starhost.proofs.server.serve.Given as goal

-- the names of the host that was just opened
abbrev pub ghosts-serve_host-N-Ledger : goal.ghosts-serve_host-N-Ledger
ghosts-serve_host-N-Ledger g a = record { name = a.opened.name; parts = a.opened.parts }

abbrev pub ghosts-serve_host-N-Naming : goal.ghosts-serve_host-N-Naming
ghosts-serve_host-N-Naming g a = record { table = a.opened.table; tenants = a.opened.tenants; cells = a.opened.cells; bound = a.opened.bound }
