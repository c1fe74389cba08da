use Rattle.std.proofs.Common.{◌≡◌, take, map}
use Rattle.std.specs.Prelude.{flat_map}
use Rattle.sb_check.proofs.items.all_types.Given as goal

abbrev pub invariant-loop-source : goal.invariant-loop-source
invariant-loop-source l = l.types ≡ flat_map (λ v. map (λ c. c.of) v.columns) (take l.source-index l.sources)
