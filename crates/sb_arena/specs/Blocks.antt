-- Machine: what holds of the fields of a block, and of an arena's.
use Rattle.std.specs.Prelude.{◌≡◌, ℕ, ◌*◌, List, Option, length, All}
use Rattle.sb_arena.specs.Places.{AreFull}
use Rattle.sb_arena.specs.declared.block.Block.TheInside.{Inside}

module _ {X A : Type 0} where
  -- the parts of the block belong together, and each cell holds what its place does: a value, or none
  pub record IsBlock (b : Inside X A) : Type 0 where
    pub parts : (b.cells.at ≡ b.start.ptr) × (b.deed.at ≡ b.start.ptr) × (b.deed.len ≡ b.places) × (b.deed.alloc ≡ b.alloc)
    pub count : length b.cells.slots ≡ b.places
    pub full : AreFull b.cells.slots

-- each block is whole, and together they have so many places
pub record AreBlocks {X : Type 0} (blocks : List (List (Option X))) (places : ℕ) : Type 0 where
  pub whole : All (λ b. length b ≡ 4096) blocks
  pub count : length blocks * 4096 ≡ places
