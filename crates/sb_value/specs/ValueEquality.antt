-- Machine: values and rows that pass the test of equality are equal.
use Rattle.std.proofs.Common.{◌≡◌, true, List, [], ◌∷◌, refl, ap}
use Rattle.std.proofs.lemmas.Bool.{false≢true, and_parts}
use Rattle.std.specs.Cmp.{signed_Decides}
use Rattle.sb_value.specs.NameEquality.{same_name_is}
use Rattle.sb_value.specs.Values.{same_value, same_row}
use Rattle.sb_value.specs.declared.value.Value.{Value}
use Rattle.sb_value.specs.declared.value.Value.TheVariants.{Int, Text}

pub same_value_is : (a b : Value) → same_value a b ≡ true → a ≡ b
same_value_is (Int a) (Int b) h = ap Int ((signed_Decides a b).0 h)
same_value_is (Int a) (Text b) h = absurd (false≢true h)
same_value_is (Text a) (Int b) h = absurd (false≢true h)
same_value_is (Text a) (Text b) h = ap Text (same_name_is a b h)

pub same_row_is : (a b : List Value) → same_row a b ≡ true → a ≡ b
same_row_is [] [] h = refl
same_row_is [] (y ∷ ys) h = absurd (false≢true h)
same_row_is (x ∷ xs) [] h = absurd (false≢true h)
same_row_is (x ∷ xs) (y ∷ ys) h =
    let parts = and_parts (same_value x y) (same_row xs ys) h in
    λ i. same_value_is x y parts.0 i ∷ same_row_is xs ys parts.1 i
