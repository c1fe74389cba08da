-- Machine: the scopes of the program as the walk's.
use Rattle.std.specs.Prelude.{List, [], ◌∷◌, Option, Some, None, Result, Ok, Err}
use Rattle.sb_value.specs.declared.value.ColumnType.{ColumnType}
use Rattle.sb_value.specs.declared.value.ColumnType.TheVariants.{Int}
use Rattle.sb_value.specs.declared.refusal.Refusal.{Refusal}
use Rattle.sb_value.specs.declared.refusal.Refusal.TheVariants as refusal
use Rattle.sb_check.specs.declared.tree.Column.{Column}
use Rattle.sb_check.specs.declared.scope.Scope.{Outermost, Within'}
use Rattle.sb_check.specs.declared.scope.Scope as chain
use Rattle.sb_check.specs.declared.scope.FoundColumn.{FoundColumn}
use Rattle.sb_check.specs.declared.expression.Typed.{Typed}
use Rattle.sb_check.specs.declared.expression.TypedPart.{TypedPart}
use Rattle.sb_check.specs.Expression.{Expression}
use Rattle.sb_check.specs.declared.items.TypedList.{TypedList}
use Rattle.sb_check.specs.declared.items.Listed.{Listed}
use Rattle.sb_check.specs.declared.tree.Items.{Items}
use Rattle.sb_check.specs.Names as names

-- a scope
abbrev pub scope_of : chain.Scope → names.Scope
scope_of Outermost = []
scope_of (Within' sources p outer) = sources.now ∷ scope_of outer

-- a column with its type
abbrev pub found : FoundColumn → Column × ColumnType
found f = (record { depth = f.depth; source = f.source; place = f.place }, f.of)

-- one place has no column of a name, or one; two are ambiguous
abbrev pub at_place : List (Column × ColumnType) → Result (Option (Column × ColumnType)) Refusal
at_place [] = Ok None
at_place (c ∷ []) = Ok (Some c)
at_place (c ∷ d ∷ cs) = Err refusal.Ambiguous

-- an expression with its type
abbrev pub typed : Typed → Expression × ColumnType
typed t = (t.tree, t.of)

-- the same of an expression that stands in another
abbrev pub typed_part : TypedPart → Expression × ColumnType
typed_part t = (t.tree.value, t.of)

-- expressions with their types
abbrev pub typed_list : TypedList → List Expression × List ColumnType
typed_list t = (t.trees, t.types)

-- items whose only column is of integers
abbrev pub of_integer : Items → Items × List ColumnType
of_integer i = (i, Int ∷ [])

-- items with the types of their columns
abbrev pub listed : Listed → Items × List ColumnType
listed i = (i.items, i.types)
