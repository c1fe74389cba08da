-- Machine: where the blocks of a file end.
use Rattle.std.specs.Prelude.{◌≡◌, ℕ, ◌+◌, List, ◌++◌, length, drop, Option, Some, None}
use Rattle.std.specs.List.{AllByRecursion}
use Rattle.sb_durable.specs.SegmentBlocks.{block, AreBlocks, end_digest, IsContent, IsEnd, IsOpen, size_of}
use Rattle.sb_durable.specs.Head.{Head, head_size, Stands}
use Rattle.sb_durable.specs.declared.segment.place.Place.{Place}

-- what was found there: a block with this content, or none
abbrev pub Finds : ℕ → List ℕ → List ℕ → Option Place → Type 0
Finds before bytes content None = IsEnd bytes
Finds before bytes content (Some next) = (gate : ℕ) × (more : List ℕ) × IsOpen gate × (bytes ≡ block gate before content ++ more)

-- Contents were read from one place to another. If the answers were true, their blocks are there.
pub record Walked (sure : Type 0) (file : List ℕ) (first place : Place) : Type 0 where
  pub contents : List (List ℕ)
  pub each : AllByRecursion IsContent contents
  pub at : place.at ≡ first.at + size_of contents
  pub chain : place.chain ≡ end_digest first.chain contents
  pub whole : sure → (front : List ℕ) × AreBlocks first.chain contents front × (drop first.at file ≡ front ++ drop place.at file)

-- the place is the end of these contents
pub record Ends (first : Place) (contents : List (List ℕ)) (place : Place) : Type 0 where
  pub at : place.at ≡ first.at + size_of contents
  pub chain : place.chain ≡ end_digest first.chain contents

-- a file of this length stands for the contents, and its blocks end there
pub record EndsAt (head : Head) (contents : List (List ℕ)) (end len : ℕ) (file : List ℕ) : Type 0 where
  pub stands : Stands head contents file
  pub at_end : end ≡ head_size head + size_of contents
  pub size : len ≡ length file
