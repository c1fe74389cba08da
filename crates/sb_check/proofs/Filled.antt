-- A set has a member where it isn't empty.
use Rattle.std.proofs.Common.{◌≡◌, not, Bool, List}
use Rattle.std.proofs.Math.Bool.{not-not}
use Rattle.std.specs.List.{list_any}
use Rattle.sb_value.specs.Flags.{has_none}

pub has_some : (flags : List Bool) → not (has_none flags) ≡ list_any (λ b. b) flags
has_some flags = not-not (list_any (λ b. b) flags)
