-- Promise: the type of a value, how values compare, and whether values and rows are equal.
use Rattle.std.specs.Prelude.{Bool, true, false, ◌&&◌, List, [], ◌∷◌}
use Rattle.std.specs.declared.cmp.Ordering.{Ordering}
use Rattle.std.specs.declared.cmp.Ordering.TheVariants as order
use Rattle.std.specs.Ordering.{nat_cmp, int_cmp, is_eq}
use Rattle.std.specs.Cmp.Lexicographic.{slice_cmp}
use Rattle.sb_value.specs.declared.value.Value.{Value}
use Rattle.sb_value.specs.declared.value.Value.TheVariants as value
use Rattle.sb_value.specs.declared.value.ColumnType.{ColumnType}
use Rattle.sb_value.specs.declared.value.ColumnType.TheVariants as column_type

abbrev pub type_of : Value → ColumnType
type_of (value.Int z) = column_type.Int
type_of (value.Text t) = column_type.Text

-- integers compare by value, texts by their bytes; every integer stands before every text
abbrev pub value_cmp : Value → Value → Ordering
value_cmp (value.Int a) (value.Int b) = int_cmp a b
value_cmp (value.Text a) (value.Text b) = slice_cmp nat_cmp a b
value_cmp (value.Int a) (value.Text b) = order.Less
value_cmp (value.Text a) (value.Int b) = order.Greater

abbrev pub same_value : Value → Value → Bool
same_value a b = is_eq (value_cmp a b)

abbrev pub same_row : List Value → List Value → Bool
same_row [] [] = true
same_row [] (b ∷ ys) = false
same_row (a ∷ xs) [] = false
same_row (a ∷ xs) (b ∷ ys) = same_value a b && same_row xs ys
