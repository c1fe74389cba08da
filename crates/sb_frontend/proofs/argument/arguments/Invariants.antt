use Rattle.std.proofs.Common.{◌≡◌, ◌+◌, length, map}
use Rattle.std.specs.Prelude.{option_copied}
use Rattle.sb_frontend.specs.Arguments.{arguments_from}
use Rattle.sb_frontend.proofs.Arguing.{after}
use Rattle.sb_frontend.proofs.argument.arguments.Given as goal

abbrev pub invariant-loop-left : goal.invariant-loop-left
invariant-loop-left l = record {
  so_far : after l.values.items (arguments_from l.k l.types l.formats (map option_copied l.left)) ≡ arguments_from 0 l.types l.formats (map option_copied l.sent);
  within : l.k + length l.left ≡ length l.sent;
}

abbrev pub decreases-loop-left : goal.decreases-loop-left
decreases-loop-left l = length l.left
