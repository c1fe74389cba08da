-- Machine: parts in order, whose answers are pairs.
use Rattle.std.specs.Prelude.{List, map, Result, Ok}
use Rattle.sb_value.specs.declared.refusal.Refusal.{Refusal}
use Rattle.sb_value.specs.declared.value.ColumnType.{ColumnType}
use Rattle.sb_syntax.specs.Tree as text
use Rattle.sb_check.specs.Expression.{Expression}
use Rattle.sb_check.specs.Names.{and_then, in_order, Scope}
use Rattle.sb_check.specs.Walk.{walk_expression}

-- the first parts of all answers, and the second parts
abbrev pub unzipped : {A B : Type 0} → Result (List (A × B)) Refusal → Result (List A × List B) Refusal
unzipped walk = and_then walk (λ xs. Ok (map (λ x. x.0) xs, map (λ x. x.1) xs))

-- expressions in order, with their types
abbrev pub walk_each : Scope → List text.Expression → Result (List Expression × List ColumnType) Refusal
walk_each scope expressions = unzipped (in_order (walk_expression scope) expressions)
