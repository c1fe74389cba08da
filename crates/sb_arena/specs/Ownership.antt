-- Machine: what a row of cells owns and lends, at values of the row R of types.
use Rattle.std.specs.Prelude.{ℕ, ◌+◌, ◌*◌, ◌^◌, List, [], ◌∷◌, length, Option, Some, None}
use Rattle.std.specs.Mem.{type_size}
use base.Fraction.{full_share}
use base.Fml.{Lft, Fml, ftrue, ffalse, fsep, flt, froom}
use mir.Syntax.{Ty, ty_array}
use mir.Raw.{raw}
use denote.RattleType.{RattleType}
use denote.Memory.{lone, part_at, shared_of}
use denote.Sharing.{nothing, said, beside}
use denote.RawPtr.{Ptr, block_ptr, null_ptr}

module _ (R : RattleType) where
  -- one cell, o bytes into the block b: room for a value, or a value
  abbrev pub cell : ℕ → ℕ → Option R.Denot → Fml
  cell b o None = froom (raw (lone R.mir)) b o
  cell b o (Some x) = part_at R full_share x b o

  -- cells side by side
  abbrev pub row : ℕ → ℕ → List (Option R.Denot) → Fml
  row b o [] = ftrue
  row b o (c ∷ cs) = fsep (cell b o c) (row b (o + type_size R) cs)

  -- what the holder of a `&` has of them: each value that is there
  abbrev pub cell_lent : ℕ → ℕ → Option R.Denot → Lft → Fml
  cell_lent b o None = nothing
  cell_lent b o (Some x) = shared_of R x b o

  abbrev pub row_lent : ℕ → ℕ → List (Option R.Denot) → Lft → Fml
  row_lent b o [] = nothing
  row_lent b o (c ∷ cs) = beside (cell_lent b o c) (row_lent b (o + type_size R) cs)

  -- a block has fewer than 2 ^ 63 bytes
  abbrev pub small : List (Option R.Denot) → Fml
  small cs = flt (length cs * type_size R) (2 ^ 63)

  abbrev pub row_at : Ptr → List (Option R.Denot) → Fml
  row_at null_ptr cs = ffalse
  row_at (block_ptr b o) cs = fsep (small cs) (row b o cs)

  abbrev pub row_lent_at : Ptr → List (Option R.Denot) → Lft → Fml
  row_lent_at null_ptr cs = said ffalse
  row_lent_at (block_ptr b o) cs = beside (said (small cs)) (row_lent b o cs)

  -- the allocator's token for a block of n cells
  abbrev pub token_of : (Ty → Ptr → Fml) → Ptr → ℕ → Fml
  token_of token p n = token (raw (ty_array (lone R.mir) n)) p
