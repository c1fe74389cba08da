-- The parts of a block may cross threads: its cells as their values may, its deed as the allocator may.
use Rattle.std.specs.Prelude.{ℕ, ◌+◌, List, [], ◌∷◌, Option, Some, None}
use Rattle.std.specs.Mem.{type_size}
use base.Fraction.{full_share}
use base.Shift.{Keyless}
use denote.Exit.{Exit, unchanged, leaves, hidden, under}
use denote.RattleType.{RattleType}
use denote.RawPtr.{Ptr, block_ptr, null_ptr}
use denote.Struct.Struct.{exits_of}
use denote.Struct.Owning.{fields, shape, to}
use denote.Param.Send.{IsSend, IsSync, Quiet, Common, AllSend, part_keyless, owning_send, struct_send, struct_sync, sendable}
use Rattle.core.specs.declared.alloc.Allocator.{Ghosts}
use Rattle.std_alloc.proofs.SendSync.{FreesAnywhere}
use Rattle.sb_arena.specs.Ownership.{cell, row, row_at, cell_lent, row_lent, row_lent_at}
use Rattle.sb_arena.specs.contracts.cells.Cells as Cells
use Rattle.sb_arena.specs.contracts.cells.Deed as Deed

quiet : {D X : Type 0} (f : D → X) (e : Exit X) → Quiet e → Quiet (hidden (under f e))
quiet f unchanged q = λ x w. tt
quiet f (leaves L l S s r₀) q = λ d. q (f d)

module _ (R : RattleType) where
  cell-keyless : IsSend R → (b o : ℕ) (c : Option R.Denot) → Keyless (cell R b o c)
  cell-keyless s b o None = tt
  cell-keyless s b o (Some x) = part_keyless R s full_share x b o

  row-keyless : IsSend R → (b o : ℕ) (cs : List (Option R.Denot)) → Keyless (row R b o cs)
  row-keyless s b o [] = tt
  row-keyless s b o (c ∷ cs) = (cell-keyless s b o c, row-keyless s b (o + type_size R) cs)

  held : IsSend R → (p : Ptr) (cs : List (Option R.Denot)) → Keyless (row_at R p cs)
  held s null_ptr cs = tt
  held s (block_ptr b o) cs = (tt, row-keyless s b o cs)

  cell-common : IsSync R → (b o : ℕ) (c : Option R.Denot) → Common (cell_lent R b o c)
  cell-common y b o None κ = tt
  cell-common y b o (Some x) κ = y.shared x b o κ

  row-common : IsSync R → (b o : ℕ) (cs : List (Option R.Denot)) → Common (row_lent R b o cs)
  row-common y b o [] κ = tt
  row-common y b o (c ∷ cs) κ = (cell-common y b o c κ, row-common y b (o + type_size R) cs κ)

  lent : IsSync R → (p : Ptr) (cs : List (Option R.Denot)) → Common (row_lent_at R p cs)
  lent y null_ptr cs κ = tt
  lent y (block_ptr b o) cs κ = (tt, row-common y b o cs κ)

  pub Cells-send : IsSend R → IsSend (Cells.the_row R)
  Cells-send s =
      let O = Cells.the_type R in
      let all : AllSend (fields O) = search sendable in
      owning_send O all (λ d. held s d.at d.slots) (λ k. quiet (to O) (exits_of k (fields O)) ((struct_send (shape O) all).leaving k))

  pub Cells-sync : IsSync R → IsSync (Cells.the_row R)
  Cells-sync y = let O = Cells.the_type R in record {
    shared = λ d b o κ. ((struct_sync (shape O) (search sendable)).shared (to O d) b o κ, lent y d.at d.slots κ);
  }

  module _ (B : RattleType) (g : Ghosts B.Denot) where
    pub Deed-send : IsSend B → FreesAnywhere B.Denot g → IsSend (Deed.the_row R B g)
    Deed-send s f =
        let O = Deed.the_type R B g in
        let all : AllSend (fields O) = search sendable in
        owning_send O all (λ d. f.frees d.alloc _ d.at) (λ k. quiet (to O) (exits_of k (fields O)) ((struct_send (shape O) all).leaving k))

    pub Deed-sync : IsSync (Deed.the_row R B g)
    Deed-sync = let O = Deed.the_type R B g in record {
      shared = λ d b o κ. ((struct_sync (shape O) (search sendable)).shared (to O d) b o κ, tt);
    }
