-- A `&` to the cells is made where one to a value is.
use Rattle.sb_arena.proofs.Names.{ℕ, ◌+◌, List, [], ◌∷◌, Option, Some, None, type_size, Ura, Lft, ftrue, Logic, RattleType, Laws, Ptr, block_ptr}
use base.Fml.{Incl, ffalse}
use denote.RattleType.{RowLaws}
use denote.RawPtr.{null_ptr}
use denote.Sharing.{ShrLaws, said}
use denote.SharingLaws.{beside_shr_laws, nothing_shr_laws, said_shr_laws}
use denote.Shares.{Shares-less}
use denote.Struct.Lending.{Lends, Lends-both, Lends-nothing, Lends-said, Lends-false}
use Rattle.sb_arena.specs.Ownership.{cell, row, cell_lent, row_lent, small, row_at, row_lent_at}

module _ (R : RattleType) (L : RowLaws R) where
  cell_lent_laws : (b o : ℕ) (c : Option R.Denot) → ShrLaws (cell_lent R b o c)
  cell_lent_laws b o None = nothing_shr_laws
  cell_lent_laws b o (Some x) = L x b o

  row_lent_laws : (b o : ℕ) (cs : List (Option R.Denot)) → ShrLaws (row_lent R b o cs)
  row_lent_laws b o [] = nothing_shr_laws
  row_lent_laws b o (c ∷ cs) = beside_shr_laws _ _ (cell_lent_laws b o c) (row_lent_laws b (o + type_size R) cs)

  pub row_lent_at_laws : (p : Ptr) (cs : List (Option R.Denot)) → ShrLaws (row_lent_at R p cs)
  row_lent_at_laws null_ptr cs = said_shr_laws ffalse tt
  row_lent_at_laws (block_ptr b o) cs = beside_shr_laws _ _ (said_shr_laws (small R cs) tt) (row_lent_laws b o cs)

module _ {M : Type 1} {𝓤 : Ura M} (𝓛 : Logic 𝓤) (l : Lft) (R : RattleType) (L : Laws R) (inc : Incl l R.lives) where
  lends_cell : (b o : ℕ) (c : Option R.Denot) → Lends 𝓛 (cell R b o c) (cell_lent R b o c) l
  lends_cell b o None = Lends-nothing 𝓛 (cell R b o None) l
  lends_cell b o (Some x) = λ κ ts. Shares-less 𝓛 R R.lives l inc (L.shares 𝓛) x κ ts b o

  lends_row : (b o : ℕ) (cs : List (Option R.Denot)) → Lends 𝓛 (row R b o cs) (row_lent R b o cs) l
  lends_row b o [] = Lends-nothing 𝓛 ftrue l
  lends_row b o (c ∷ cs) = Lends-both 𝓛 (cell R b o c) (row R b (o + type_size R) cs) (cell_lent R b o c) (row_lent R b (o + type_size R) cs) l (lends_cell b o c) (lends_row b (o + type_size R) cs)

  pub lends_row_at : (p : Ptr) (cs : List (Option R.Denot)) → Lends 𝓛 (row_at R p cs) (row_lent_at R p cs) l
  lends_row_at null_ptr cs = Lends-false 𝓛 (said ffalse) l
  lends_row_at (block_ptr b o) cs = Lends-both 𝓛 (small R cs) (row R b o cs) (said (small R cs)) (row_lent R b o cs) l (Lends-said 𝓛 (small R cs) tt l) (lends_row b o cs)
