use Rattle.std.proofs.Common.{Bool, true, false, Decides, MatchBool, refl}
use Rattle.std.proofs.lemmas.Bool.{false≢true}
use Rattle.std.proofs.lemmas.Bool.Decides.{Decides-eqb}
use Rattle.std.proofs.lemmas.Slice.Eq.{slice_eq-Decides}
use Rattle.sb_host.proofs.equal.same_bytes.Goals as goal

tells : {P : Type 0} (b : Bool) → Decides b P → MatchBool b P (P → ⊥)
tells true h = h.0 refl
tells false h = λ p. false≢true (h.1 p)

pub returns : goal.returns
returns c = tells _ (slice_eq-Decides Decides-eqb _ _ _ c.eq.ensures)
