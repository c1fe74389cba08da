-- Machine: walked conditions, operands and queries of the program as the walk's.
use Rattle.std.specs.Prelude.{Box, List, ◌∷◌, Result, Ok}
use Rattle.std.specs.Global.{Global}
use Rattle.sb_value.specs.declared.refusal.Refusal.{Refusal}
use Rattle.sb_value.specs.declared.value.ColumnType.{ColumnType}
use Rattle.sb_syntax.specs.Tree as text
use Rattle.sb_syntax.specs.declared.tree.Comparison.{Comparison}
use Rattle.sb_check.specs.declared.fault.CheckFault.{CheckFault}
use Rattle.sb_check.specs.declared.items.Listed.{Listed}
use Rattle.sb_check.specs.declared.query.TypedOperand.{TypedOperand}
use Rattle.sb_check.specs.declared.query.Walked as stored
use Rattle.sb_check.specs.declared.scope.Scope as chain
use Rattle.sb_check.specs.declared.tree.Items.{Items}
use Rattle.sb_check.specs.Answer.{Gives}
use Rattle.sb_check.specs.Condition.{Condition, Operand}
use Rattle.sb_check.specs.Names.{and_then, Scope, Visible}
use Rattle.sb_check.specs.Parts.{condition_walk, operand_walk, filter_walk}
use Rattle.sb_check.specs.Scopes.{listed, scope_of}
use Rattle.sb_check.specs.Walk.{Schema, Walked, walk_items}

-- an operand with its type
abbrev pub operand_typed : TypedOperand → Operand × ColumnType
operand_typed o = (o.tree, o.of)

-- a query with the types of its columns
abbrev pub walked : stored.Walked → Walked
walked w = (w.tree.value, w.types)

-- two expressions that are compared
abbrev pub compared : text.Expression → Comparison → text.Expression → text.Condition
compared a op b = text.compare a op (text.expression b)

-- ---- what a part gives in a scope of the program is what the walk has

abbrev pub GivesCondition : Schema → text.Condition → chain.Scope → Result (Box Condition Global) CheckFault → Type 0
GivesCondition schema c scope result = Gives (λ b. b.value) (condition_walk schema c (scope_of scope)) result

abbrev pub GivesOperand : Schema → text.Operand → chain.Scope → Result TypedOperand CheckFault → Type 0
GivesOperand schema o scope result = Gives operand_typed (operand_walk schema o (scope_of scope)) result

-- the items of a query and its condition, over its own sources
abbrev pub over_sources :
    Schema → text.Query → List Visible → Scope → Result ((Items × List ColumnType) × Condition) Refusal
over_sources schema (text.select items sources filter) seen scope =
    and_then (walk_items (seen ∷ scope) seen items) (λ i.
    and_then (filter_walk schema filter (seen ∷ scope)) (λ c.
    Ok (i, c)))

abbrev pub GivesOverSources :
    Schema → text.Query → List Visible → chain.Scope → Result (Listed × Condition) CheckFault → Type 0
GivesOverSources schema q seen scope result =
    Gives {A = (Items × List ColumnType) × Condition} (λ p. (listed p.0, p.1))
    (over_sources schema q seen (scope_of scope)) result
