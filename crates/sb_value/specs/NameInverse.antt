-- Machine: a name gives its memory back.
use Rattle.std.proofs.Common.{◌≡◌, ℕ, List, length, take, arith, length-take}
use Rattle.sb_value.specs.Name.{IsPadded}

pub length-take-padded : (bytes : List ℕ) (len : ℕ) → IsPadded bytes len → length (take len bytes) ≡ len
length-take-padded bytes len h = omega (arith, length-take len bytes)
