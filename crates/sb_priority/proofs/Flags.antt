-- Rows of no flags.
use Rattle.std.proofs.Common.{◌≡◌, ℕ, zero, suc, Bool, false, List, [], get_or, replicate, refl}
use Rattle.sb_value.specs.Flags.{flag_at}

pub none_related : (n : ℕ) (row : List Bool) (a b : ℕ) → flag_at row a ≡ false → flag_at (get_or (replicate n row) b []) a ≡ false
none_related zero row a b h = refl
none_related (suc n) row a zero h = h
none_related (suc n) row a (suc b) h = none_related n row a b h
