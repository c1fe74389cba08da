use Rattle.std.proofs.Common.{◌≡◌, ◌++◌, drop, map}
use Rattle.std.specs.Prelude.{Ok}
use Rattle.sb_syntax.specs.Views.{expression}
use Rattle.sb_check.specs.InOrder.{unzipped}
use Rattle.sb_check.specs.Names.{and_then, in_order}
use Rattle.sb_check.specs.Scopes.{scope_of}
use Rattle.sb_check.specs.Walk.{walk_expression}
use Rattle.sb_check.proofs.items.each.Given as goal

-- what was walked stands before the expressions that are left
abbrev pub invariant-loop-e : goal.invariant-loop-e
invariant-loop-e l =
    unzipped (in_order (walk_expression (scope_of l.scope)) (map expression l.expressions))
    ≡ and_then (unzipped (in_order (walk_expression (scope_of l.scope)) (map expression (drop l.e-index l.expressions)))) (λ p. Ok (l.trees ++ p.0, l.types ++ p.1))
