use Rattle.sb_tenant.specs.Compared.{ShowAlikeFrom}
use Rattle.sb_tenant.proofs.alike.same_tables.same_tables.Given as goal

-- where the tables from here on are shown alike, all are
abbrev pub invariant-loop-place : goal.invariant-loop-place
invariant-loop-place l = ShowAlikeFrom l.one l.other l.place → ShowAlikeFrom l.one l.other 0
