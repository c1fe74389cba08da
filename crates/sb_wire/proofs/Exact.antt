-- Without want of memory the text is the definition's.
use Rattle.std.proofs.Common.{◌≡◌, ◌∙◌, ap, sym, inl, inr, ◌++◌, ◌∷◌, [], List, ℕ, Bool, append_assoc}
use Rattle.sb_tenant.specs.declared.bound.Bound.{Bound}
use Rattle.sb_tenant.specs.State.{State}
use Rattle.sb_wire.specs.Lines.{Piece}
use Rattle.sb_wire.specs.Output.{AreAnswers, TellsNoWant, output_of}

-- a first part of the text left out
behind-first : (text first rest : List ℕ) → text ≡ first ++ rest → TellsNoWant text → TellsNoWant rest
behind-first text first rest is none a before behind =
    let told = none a (first ++ before) behind in
    let more : (x : List ℕ) → rest ≡ before ++ x ++ behind → text ≡ first ++ before ++ x ++ behind =
    λ x e. is ∙ ap (λ (t : List ℕ). first ++ t) e ∙ sym (append_assoc first (before ++ x) behind) ∙ ap (λ (t : List ℕ). t ++ behind) (sym (append_assoc first before x)) in
    (λ e. told.0 (more _ e), λ e. told.1 (more _ e))

module _ (hosts : ℕ → Bool) (bound : Bound) where
  pub exact : (before : ℕ → State) (ps : List Piece) (text : List ℕ) (after : ℕ → State) → AreAnswers hosts bound before ps text after → TellsNoWant text → text ≡ output_of hosts bound before ps
  exact before [] text after (none, same) told = none
  exact before (p ∷ ps) text after (first, rest, mid, is, inl own, others) told =
      is ∙ ap (λ (t : List ℕ). first ++ t) (exact mid ps rest after others (behind-first text first rest is told))
      ∙ ap (λ (r : List ℕ × (ℕ → State)). r.0 ++ output_of hosts bound r.1 ps) (sym own)
  exact before (p ∷ ps) text after (first, rest, mid, is, inr (a, named, may, inl (want, aborted)), others) told =
      absurd ((told a [] rest).0 (is ∙ ap (λ (t : List ℕ). t ++ rest) want))
  exact before (p ∷ ps) text after (first, rest, mid, is, inr (a, named, may, inr (want, stays)), others) told =
      absurd ((told a [] rest).1 (is ∙ ap (λ (t : List ℕ). t ++ rest) want))
