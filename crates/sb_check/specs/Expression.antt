-- Promise: expressions with their names resolved.
use Rattle.std.specs.Prelude.{◌≡◌, ℕ, ◌+◌, max, zero, suc, refl, ◌⊎◌}
use Rattle.std.proofs.Common.{inl, inr}
use Rattle.std.specs.Coded.{Coded, code_by, coded⊎}
use Rattle.sb_value.specs.declared.value.Value.{Value}
use Rattle.sb_value.specs.Tree.{Tree, leaf, node, coded_tree}
use Rattle.sb_value.specs.contracts.value.Value as value
use Rattle.sb_syntax.specs.declared.tree.Arithmetic.{Arithmetic}
use Rattle.sb_syntax.specs.declared.tree.Arithmetic.TheVariants.{Add, Subtract, Multiply}
use Rattle.sb_check.specs.contracts.tree.Column as column_place
use Rattle.sb_check.specs.declared.tree.Column.{Column}

-- a value, a column, or two expressions and an operator
pub data Expression : Type 0 where
  literal : Value → Expression
  column : Column → Expression
  binary : Expression → Arithmetic → Expression → Expression

-- the depth of an expression
abbrev pub depth : Expression → ℕ
depth (literal v) = 0
depth (column c) = 0
depth (binary a op b) = 1 + max (depth a) (depth b)

-- ---- an expression is stored as a tree

-- an operator as a number
abbrev pub number_of : Arithmetic → ℕ
number_of Add = 0
number_of Subtract = 1
number_of Multiply = 2

-- the operator of a number
abbrev pub arithmetic_at : ℕ → Arithmetic
arithmetic_at zero = Add
arithmetic_at (suc zero) = Subtract
arithmetic_at (suc (suc n)) = Multiply

pub arithmetic_at-number_of : (op : Arithmetic) → arithmetic_at (number_of op) ≡ op
arithmetic_at-number_of Add = refl
arithmetic_at-number_of Subtract = refl
arithmetic_at-number_of Multiply = refl

-- the tree of an expression
abbrev pub tree_of : Expression → Tree (Value ⊎ Column)
tree_of (literal v) = leaf (inl v)
tree_of (column c) = leaf (inr c)
tree_of (binary a op b) = node (number_of op) (tree_of a) (tree_of b)

-- the expression of a tree
abbrev pub expression_from : Tree (Value ⊎ Column) → Expression
expression_from (leaf (inl v)) = literal v
expression_from (leaf (inr c)) = column c
expression_from (node n a b) = binary (expression_from a) (arithmetic_at n) (expression_from b)

pub expression_from-tree_of : (e : Expression) → expression_from (tree_of e) ≡ e
expression_from-tree_of (literal v) = refl
expression_from-tree_of (column c) = refl
expression_from-tree_of (binary a op b) =
    λ i. binary (expression_from-tree_of a i) (arithmetic_at-number_of op i) (expression_from-tree_of b i)

abbrev pub coded_expression : Coded Expression
coded_expression =
    code_by (Tree (Value ⊎ Column)) (coded_tree (coded⊎ value.the_row.coded column_place.the_row.coded))
    tree_of expression_from expression_from-tree_of
