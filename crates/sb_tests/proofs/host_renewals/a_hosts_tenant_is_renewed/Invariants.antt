use Rattle.sb_tests.proofs.host_renewals.a_hosts_tenant_is_renewed.Given as goal

-- the names of the host that was just opened
abbrev pub ghosts-serve-N-Ledger : goal.ghosts-serve-N-Ledger
ghosts-serve-N-Ledger g a = record { name = a.opened.name; parts = a.opened.parts }

abbrev pub ghosts-serve-N-Naming : goal.ghosts-serve-N-Naming
ghosts-serve-N-Naming g a = record { table = a.opened.table; tenants = a.opened.tenants; cells = a.opened.cells; bound = a.opened.bound }
