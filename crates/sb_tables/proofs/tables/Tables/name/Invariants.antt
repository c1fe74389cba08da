use Rattle.std.proofs.Common.{◌≡◌, drop}
use Rattle.sb_tables.proofs.TablesHeld.{name_of}
use Rattle.sb_tables.proofs.tables.Tables.name.Given as goal

-- the names that were passed have other numbers
abbrev pub invariant-loop-place : goal.invariant-loop-place
invariant-loop-place l =
    name_of l.self-inside.slots l.self-inside.numbers.entries l.id ≡ name_of l.self-inside.slots (drop l.place l.self-inside.numbers.entries) l.id
