-- Promise: what an expression of the program stands for: its parts are seen as trees already.
use Rattle.sb_check.specs.Expression.{Expression, literal, column, binary}
use Rattle.sb_check.specs.declared.tree.ExpressionNode.{ExpressionNode}
use Rattle.sb_check.specs.declared.tree.ExpressionNode.TheVariants.{Literal, Column, Binary}

-- an expression, from its node
abbrev pub expression_of : ExpressionNode → Expression
expression_of (Literal v) = literal v
expression_of (Column c) = column c
expression_of (Binary a op b) = binary a.value op b.value
