use Rattle.sb_durable.proofs.compaction.compact.Given as goal

-- the names of the host that was just opened
abbrev pub ghosts-compact_host-N-Ledger : goal.ghosts-compact_host-N-Ledger
ghosts-compact_host-N-Ledger g a = record { name = a.opened.name; parts = a.opened.parts }

abbrev pub ghosts-compact_host-N-Naming : goal.ghosts-compact_host-N-Naming
ghosts-compact_host-N-Naming g a = record { table = a.opened.table; tenants = a.opened.tenants; cells = a.opened.cells; bound = a.opened.bound }
