use Rattle.std.proofs.Common.{◌≡◌, drop}
use Rattle.sb_check.specs.Names.{source_named}
use Rattle.sb_check.proofs.scope.source_named.Given as goal

-- the search goes on with the sources that are left
abbrev pub invariant-loop-source : goal.invariant-loop-source
invariant-loop-source l = source_named 0 l.sources l.table ≡ source_named l.source (drop l.source l.sources) l.table
