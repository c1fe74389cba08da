-- Calls that failed.
use Rattle.std.proofs.Common.{◌≡◌, ◌∙◌, sym, ap, refl, subst, ℕ, Bool, true, false, not, ◌||◌, List, [], ◌∷◌, ◌++◌, Option, Err}
use Rattle.std.proofs.lemmas.List.Folds.{list_any-append}
use Rattle.std.specs.IoError.{error_kind}
use Rattle.std.specs.List.{list_any}
use Rattle.std.specs.declared.io.Error.{Error}
use Rattle.std.specs.declared.io.ErrorKind.{ErrorKind}
use Rattle.std.specs.declared.io.ErrorKind.TheVariants.{Interrupted, WouldBlock}
use Rattle.sb_wire.specs.declared.fault.StreamError.TheVariants.{ReadFault, WriteFault}
use Rattle.sb_connection.specs.declared.connection_end.ConnectionEnd.{ConnectionEnd}
use Rattle.sb_connection.specs.declared.connection_end.ConnectionEnd.TheVariants.{Fault}
use Rattle.sb_connection.specs.History.{History}
use Rattle.sb_connection.specs.Traffic.{Call, Traffic, after_read, after_write, blocks, fails, passes, reading_failed, uses_none, writing_failed}
use Rattle.sb_server.specs.ClientConnections.{EndsBy}

or_true : (b : Bool) → (b || true) ≡ true
or_true true = refl
or_true false = refl

pub any_last : (p : Call → Bool) (calls : List Call) (c : Call) → p c ≡ true → list_any p (calls ++ c ∷ []) ≡ true
any_last p calls c is = list_any-append p calls (c ∷ []) ∙ ap (λ (b : Bool). list_any p calls || (b || false)) is ∙ or_true (list_any p calls)

not_blocks : (why : ErrorKind) → (why ≡ WouldBlock → ⊥) → blocks why ≡ false
not_blocks WouldBlock other = absurd (other refl)
not_blocks why other = refl

pub write_failed : (t : Traffic) (bytes : List ℕ) (e : Error) → blocks (error_kind e) ≡ false → writing_failed (after_write t bytes (Err e)) ≡ true
write_failed t bytes e stays =
    any_last (λ call. fails blocks call.1 || uses_none call.0 call.1) t.writes (bytes, Err e) (ap (λ (b : Bool). not b || false) stays)

-- a write that isn't to be made again ends the connection
pub ends_by_write : (t new : Traffic) (h : History) (is_cut : Bool) (ending : ConnectionEnd) (bytes : List ℕ) (e : Error) (why : ErrorKind)
    → new ≡ after_write t bytes (Err e) → why ≡ error_kind e → (why ≡ WouldBlock → ⊥) → (reason : Option ErrorKind) → ending ≡ Fault WriteFault reason
    → EndsBy new h is_cut ending
ends_by_write t new h is_cut ending bytes e why is kind other reason ends =
    let stays : blocks (error_kind e) ≡ false = ap blocks (sym kind) ∙ not_blocks why other in
    subst (λ (end : ConnectionEnd). EndsBy new h is_cut end) (sym ends) (ap writing_failed is ∙ write_failed t bytes e stays)

not_passes : (why : ErrorKind) → (why ≡ WouldBlock → ⊥) → (why ≡ Interrupted → ⊥) → passes why ≡ false
not_passes WouldBlock other none = absurd (other refl)
not_passes Interrupted other none = absurd (none refl)
not_passes why other none = refl

-- a read that isn't to be made again ends the connection
pub ends_by_read : (t new : Traffic) (h : History) (is_cut : Bool) (ending : ConnectionEnd) (bytes : List ℕ) (e : Error) (why : ErrorKind)
    → new ≡ after_read t bytes (Err e) → why ≡ error_kind e → (why ≡ WouldBlock → ⊥) → (why ≡ Interrupted → ⊥) → (reason : Option ErrorKind)
    → ending ≡ Fault ReadFault reason → EndsBy new h is_cut ending
ends_by_read t new h is_cut ending bytes e why is kind other none reason ends =
    let stays : passes (error_kind e) ≡ false = ap passes (sym kind) ∙ not_passes why other none in
    let failed = any_last (λ call. fails passes call.1) t.reads (bytes, Err e) (ap not stays) in
    subst (λ (end : ConnectionEnd). EndsBy new h is_cut end) (sym ends) (ap reading_failed is ∙ failed)
