-- A `&` to a deed holds nothing.
use denote.RattleType.{RattleType}
use denote.RawPtr.{RawPtr}
use denote.Param.Laws.{Laws}
use denote.Param.Shared.{copy_shared}
use denote.SharingLaws.{nothing_shr_laws}
use denote.Struct.Laws.{field_copy}
use denote.Struct.Lending.{of_Lends, Lends-nothing}
use Rattle.core.specs.declared.alloc.Allocator.{Ghosts}
use Rattle.core.specs.contracts.marker.PhantomData as marker
use Rattle.sb_arena.specs.contracts.cells.Deed as D
use Rattle.sb_arena.proofs.cells.Deed.TheLaw.Statement.{statement}

pub shares : (T A : RattleType) (g : Ghosts A.Denot) (L : Laws T) (P : Laws A) → statement T A g L P
shares T A g L P =
    of_Lends (D.struct T A g) (D.the_codes T.Denot A.Denot T.coded A.coded (marker.the_row RawPtr).coded) (D.the_heap T A g) (D.the_lent T A g) (λ d p. nothing_shr_laws)
    (copy_shared (marker.the_field RawPtr) (field_copy (marker.the_type RawPtr) tt), tt) (λ M 𝓤 𝓛 d p. Lends-nothing 𝓛 (D.the_heap T A g d) (D.the_row T A g).lives)
