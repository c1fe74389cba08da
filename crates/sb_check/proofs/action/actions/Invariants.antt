use Rattle.std.proofs.Common.{◌≡◌, ◌++◌, drop, map}
use Rattle.std.specs.Prelude.{Ok}
use Rattle.sb_syntax.specs.Views.{action}
use Rattle.sb_check.specs.Names.{and_then, in_order}
use Rattle.sb_check.specs.Walk.{walk_action}
use Rattle.sb_check.proofs.action.actions.Given as goal

-- what was walked stands before the actions that are left
abbrev pub invariant-loop-one : goal.invariant-loop-one
invariant-loop-one g l =
    in_order (walk_action (g.S.Schema.names l.schema)) (map action l.list)
    ≡ and_then (in_order (walk_action (g.S.Schema.names l.schema)) (map action (drop l.one-index l.list))) (λ rest. Ok (l.done ++ rest))
