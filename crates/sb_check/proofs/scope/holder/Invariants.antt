use Rattle.std.proofs.Common.{◌≡◌, ◌++◌, drop}
use Rattle.std.specs.Option.{option_to_list}
use Rattle.std.specs.Prelude.{option_map}
use Rattle.sb_check.specs.Names.{holders}
use Rattle.sb_check.specs.Scopes.{found}
use Rattle.sb_check.proofs.scope.holder.Given as goal

-- what was found stands before what the sources that are left have
abbrev pub invariant-loop-source : goal.invariant-loop-source
invariant-loop-source l =
    holders l.depth 0 l.sources l.name ≡ option_to_list (option_map found l.one) ++ holders l.depth l.source (drop l.source l.sources) l.name
