-- The bytes of a name, copied in front of zeros, are stored as a name is.
use Rattle.std.proofs.Common.{◌≡◌, ℕ, ◌-◌, ◌<◌, ◌≤◌, List, ◌++◌, length, drop, replicate, sym, ap, ◌∙◌, arith, length-append}
use Rattle.std.proofs.lemmas.List.{drop-replicate, length-replicate}
use Rattle.std.proofs.Math.Seq.{take-append_seam}
use Rattle.sb_value.specs.Name.{IsPadded, padded}

zeros_behind : (n : ℕ) → drop {A = ℕ} n (replicate 32 0) ≡ replicate (32 - n) 0
zeros_behind n = drop-replicate n 32 0

length-zeros : (n : ℕ) → length (drop {A = ℕ} n (replicate 32 0)) ≡ 32 - n
length-zeros n = ap length (zeros_behind n) ∙ length-replicate {A = ℕ} (32 - n) 0

pub IsPadded-copy : (bytes : List ℕ) → 0 < length bytes → length bytes ≤ 32 → IsPadded (bytes ++ drop (length bytes) (replicate 32 0)) (length bytes)
IsPadded-copy bytes some few = record {
  not_empty = some;
  short = few;
  whole = omega (arith, length-append bytes (drop (length bytes) (replicate 32 0)), length-zeros (length bytes));
  zeros = ap (λ zs. bytes ++ zs) (zeros_behind (length bytes)) ∙ sym (ap padded (take-append_seam bytes (drop (length bytes) (replicate 32 0))));
}
