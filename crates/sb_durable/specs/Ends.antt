-- Machine: where a file's blocks end.
use Rattle.std.specs.Prelude.{◌≡◌, ℕ, List, ◌++◌, length, drop, Option, Some, None}
use Rattle.std.specs.List.{AllByRecursion}
use Rattle.sb_durable.specs.Blocks.{block, blocks, IsContent, IsEnd, Stands}

-- the bytes begin with a block whose content has this length
pub record BeginsWith (bytes : List ℕ) (size : ℕ) : Type 0 where
  pub content : List ℕ
  pub more : List ℕ
  pub small : IsContent content
  pub long : length content ≡ size
  pub whole : bytes ≡ block content ++ more

-- what was found there: a block with this length, or none
abbrev pub Finds : List ℕ → Option ℕ → Type 0
Finds bytes None = IsEnd bytes
Finds bytes (Some size) = BeginsWith bytes size

-- a file of this length stands for the contents, and its blocks end there
pub record EndsAt (contents : List (List ℕ)) (end len : ℕ) (file : List ℕ) : Type 0 where
  pub stands : Stands contents file
  pub at_end : end ≡ length (blocks contents)
  pub size : len ≡ length file

-- whole blocks up to there
pub record Walked (file : List ℕ) (at : ℕ) : Type 0 where
  pub front : List (List ℕ)
  pub each : AllByRecursion IsContent front
  pub reach : at ≡ length (blocks front)
  pub whole : file ≡ blocks front ++ drop at file
