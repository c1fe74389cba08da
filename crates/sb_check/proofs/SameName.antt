-- Names are compared by their bytes, their lengths first.
use Rattle.std.proofs.Common.{◌≡◌, List, ℕ, sym}
use Rattle.std.specs.Cmp.{unsigned_ties}
use Rattle.std.specs.Cmp.Lexicographic.{pointwise, lists_ties}
use Rattle.std.specs.Ordering.{nat_cmp}
use Rattle.std.specs.Prelude.{◌==◌}
use Rattle.sb_value.specs.Name.{same_name}

pub names_tie : (a b : List ℕ) → same_name a b ≡ pointwise (λ x y. x == y) a b
names_tie a b = sym (lists_ties nat_cmp unsigned_ties a b)
