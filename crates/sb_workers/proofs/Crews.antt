-- Helpers one after another.
use Rattle.std.proofs.Common.{◌≡◌, ℕ, zero, suc, List, [], ◌∷◌, ◌++◌, length, Some, subst, ⊎_elim, refl, sym, ◌+◌}
use Rattle.std.specs.Prelude.{slice_get}
use Rattle.std.specs.Global.{Global}
use Rattle.atomic_blocks.specs.Lent.{RowsId}
use Rattle.sb_workers.specs.declared.helper.Helper.{Helper}
use Rattle.sb_workers.specs.Seats.{IsHelper, AreHelpers}
use Rattle.sb_workers.proofs.Tasks.{get_front, get_behind, get-append}

module _ {J D : Type 0} (does : J → D → Type 0) (deque : RowsId × Global) where
  helpers-snoc : (hs : List (Helper J D)) (h : Helper J D) → AreHelpers does deque hs → IsHelper does deque h → AreHelpers does deque (hs ++ h ∷ [])
  helpers-snoc hs h all one i x e = ⊎_elim (λ t. all i x t) (λ t. last t.0 t.2) (get-append hs (h ∷ []) i x e)
    where
      last : (j : ℕ) → slice_get (h ∷ []) j ≡ Some x → IsHelper does deque x
      last zero g = let same : h ≡ x = cc in subst (IsHelper does deque) same one
      last (suc j) g = absurd cc

  pub none_back : (hs : List (Helper J D)) → hs ≡ [] → AreHelpers does deque hs
  none_back hs none = subst (AreHelpers does deque) (sym none) (λ i x e. absurd cc)

  pub helpers_grow : (hs : List (Helper J D)) (h : Helper J D) (all : List (Helper J D)) → all ≡ hs ++ h ∷ [] → AreHelpers does deque hs → IsHelper does deque h → AreHelpers does deque all
  helpers_grow hs h all e each one = subst (AreHelpers does deque) (sym e) (helpers-snoc hs h each one)

  pub helpers-pop : (all hs : List (Helper J D)) (h : Helper J D) → all ≡ hs ++ h ∷ [] → AreHelpers does deque all → AreHelpers does deque hs × IsHelper does deque h
  helpers-pop all hs h is each =
      let k = subst (AreHelpers does deque) is each in (
        (λ i x e. k i x (get_front hs (h ∷ []) i x e)),
        k (length hs + 0) h (get_behind hs (h ∷ []) 0 h refl),
      )
