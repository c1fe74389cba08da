use Rattle.sb_tenant.specs.Compared.{AreSettledFrom}
use Rattle.sb_tenant.proofs.alike.same_tables.are_settled.Given as goal

-- where the tables from here on are settled, all are
abbrev pub invariant-loop-place : goal.invariant-loop-place
invariant-loop-place l = AreSettledFrom l.tables l.place → AreSettledFrom l.tables 0
