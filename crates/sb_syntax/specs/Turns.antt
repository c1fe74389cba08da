-- Machine: what a loop that reads one item a turn keeps.
use Rattle.std.specs.Prelude.{◌≡◌, ◌≤◌, ℕ, length, Option}
use Rattle.sb_syntax.specs.Input.{Input}
use Rattle.sb_syntax.specs.Reading.{Reader, Joins, chain}

-- All that the loop reads, whole, is what it reads from here on.
pub record GoesOn {A B : Type 0} (joins : Joins B A) (item : Reader A) (whole : Option (B × Input)) (limit : ℕ) (acc : B) (ts : Input) : Type 0 where
  pub turns : ℕ
  pub enough : length ts ≤ turns
  pub same : whole ≡ chain joins item turns acc ts
  pub shorter : length ts ≤ limit

-- A list of items, where at most so many more are read.
pub record GoesUpTo {A B : Type 0} (joins : Joins B A) (item : Reader A) (whole : Option (B × Input)) (limit turns : ℕ) (acc : B) (ts : Input) : Type 0 where
  pub same : whole ≡ chain joins item turns acc ts
  pub shorter : length ts ≤ limit
