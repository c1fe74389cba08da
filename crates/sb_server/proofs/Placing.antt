-- Mailboxes, one after another.
use Rattle.std.proofs.Common.{◌≡◌, ◌∙◌, ◌⊎◌, inl, inr, ℕ, zero, suc, List, [], ◌∷◌, ◌++◌, length, slice_get, Some, refl, sym, ap}
use Rattle.std.proofs.lemmas.Option.{none-some, same_Some}
use Rattle.sb_server.specs.Mailboxes.{ArePlaced}
use Rattle.sb_server.specs.declared.mailbox.Mailbox.{Mailbox}

-- one of them, or the one behind them
behind : (boxes : List Mailbox) (b : Mailbox) (i : ℕ) (c : Mailbox) → slice_get (boxes ++ b ∷ []) i ≡ Some c → (slice_get boxes i ≡ Some c) ⊎ ((i ≡ length boxes) × (c ≡ b))
behind [] b zero c e = inr (refl, sym (same_Some b c e))
behind [] b (suc i) c e = absurd (none-some c e)
behind (x ∷ boxes) b zero c e = inl e
behind (x ∷ boxes) b (suc i) c e =
    elim (behind boxes b i c e) [
      | inl same ↦ inl same
      | inr last ↦ inr (ap suc last.0, last.1)
    ]

pub placed_more : (boxes : List Mailbox) (b : Mailbox) → ArePlaced boxes → b.place ≡ length boxes → ArePlaced (boxes ++ b ∷ [])
placed_more boxes b placed at = λ i c e.
    elim (behind boxes b i c e) [
      | inl same ↦ placed i c same
      | inr last ↦ ap (λ (m : Mailbox). m.place) last.1 ∙ at ∙ sym last.0
    ]
