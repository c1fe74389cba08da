-- Receipts that are held stay the tenant's.
use Rattle.std.proofs.Common.{◌≡◌, ℕ, List, ◌++◌, sym, subst}
use Rattle.std.proofs.lemmas.List.Sorted.{IsPermutation-refl}
use Rattle.sb_host.specs.Desk.{Stub}
use Rattle.sb_host.specs.Finish.{gathered}
use Rattle.sb_host.specs.Renewal.{GivesBack}

-- all of them are held
pub gives_back_all : (t : ℕ) (all held : List Stub) → held ≡ all → GivesBack t all held
gives_back_all t all held same =
    subst (λ (kept : List Stub). GivesBack t all kept) (sym same) ((λ own. own), (λ s below. IsPermutation-refl (gathered t s all)))
