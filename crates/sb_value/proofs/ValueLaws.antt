-- Places that pass the test of equality are equal.
use Rattle.std.proofs.Common.{◌≡◌, true, Option, Some, None, refl, ap}
use Rattle.std.proofs.lemmas.Bool.{false≢true}
use Rattle.sb_value.specs.Columns.{same_place}
use Rattle.sb_value.specs.ValueEquality.{same_value_is}
use Rattle.sb_value.specs.declared.value.Value.{Value}

pub same_place_is : (a b : Option Value) → same_place a b ≡ true → a ≡ b
same_place_is None None h = refl
same_place_is None (Some y) h = absurd (false≢true h)
same_place_is (Some x) None h = absurd (false≢true h)
same_place_is (Some x) (Some y) h = ap Some (same_value_is x y h)
