-- Machine: what is made of each place of a table's columns stands at that place.
use Rattle.std.proofs.Common.{◌≡◌, ◌<◌, ℕ, zero, suc, Bool, map, refl, arith}
use Rattle.sb_value.specs.Flags.{flag_at}
use Rattle.sb_index.specs.Operation.{places}

pub at_place : (f : ℕ → Bool) (i : ℕ) → i < 8 → flag_at (map f places) i ≡ f i
at_place f zero h = refl
at_place f (suc zero) h = refl
at_place f (suc (suc zero)) h = refl
at_place f (suc (suc (suc zero))) h = refl
at_place f (suc (suc (suc (suc zero)))) h = refl
at_place f (suc (suc (suc (suc (suc zero))))) h = refl
at_place f (suc (suc (suc (suc (suc (suc zero)))))) h = refl
at_place f (suc (suc (suc (suc (suc (suc (suc zero))))))) h = refl
at_place f (suc (suc (suc (suc (suc (suc (suc (suc i)))))))) h = absurd (omega arith)
