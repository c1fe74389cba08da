use Rattle.std.proofs.Common.{◌≡◌, drop, map}
use Rattle.std.specs.List.{list_any}
use Rattle.sb_check.specs.Names.{same_table}
use Rattle.sb_check.proofs.source.is_taken.Given as goal

-- the sources that are left decide
abbrev pub invariant-loop-source : goal.invariant-loop-source
invariant-loop-source l =
    list_any (same_table l.name) (map (λ v. v.name) l.visible) ≡ list_any (same_table l.name) (map (λ v. v.name) (drop l.source-index l.visible))
