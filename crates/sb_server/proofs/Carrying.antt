-- What a stream and its connection carry, one read or write after another.
use Rattle.std.proofs.Common.{◌≡◌, ◌∙◌, ◌⊎◌, inl, inr, sym, ap, refl, subst, ℕ, Bool, true, false, List, [], ◌∷◌, ◌++◌, Option, Some, None, Result, Ok, Err, OnErr, OnOk, take, drop, append_assoc, append-nil}
use Rattle.std.proofs.Math.Seq.{take-length}
use Rattle.std.proofs.lemmas.Grind.{flat_map-append}
use Rattle.std.proofs.lemmas.List.{take-append-drop}
use Rattle.std.specs.Io.{StartsWith}
use Rattle.std.specs.Prelude.{IfNone, IfSome}
use Rattle.sb_desk.specs.declared.receipts.Receipt.{Receipt}
use Rattle.sb_desk.specs.declared.stub.Stub.{Stub}
use Rattle.std.specs.declared.io.Error.{Error}
use Rattle.sb_connection.specs.History.{History, after_resuming, after_sending, after_suspending}
use Rattle.sb_connection.specs.Standing.{is_open}
use Rattle.sb_connection.specs.Traffic.{Traffic, after_read, gave, used, used_by, uses_none}
use Rattle.sb_server.specs.Carried.{Carries, Hears}
use Rattle.sb_server.specs.ClientConnections.{SendsSome}
use Rattle.sb_server.proofs.Failing.{any_last}

gave_more : (t : Traffic) (bytes : List ℕ) (answer : Result ℕ Error) → gave (after_read t bytes answer) ≡ gave t ++ used_by bytes answer
gave_more t bytes answer =
    flat_map-append used t.reads ((bytes, answer) ∷ []) ∙ ap (λ (l : List ℕ). gave t ++ l) (append-nil (used_by bytes answer))

-- what was read is received
pub carries_read : (t : Traffic) (old new : History) (bytes : List ℕ) (answer : Result ℕ Error)
    → Carries t old false → new.received ≡ old.received ++ used_by bytes answer → new.handed ≡ old.handed
    → (new.at_end ≡ true → uses_none bytes answer ≡ true) → Carries (after_read t bytes answer) new false
carries_read t old new bytes answer carried received handed ends =
    let came : new.received ≡ gave (after_read t bytes answer) =
    received ∙ ap (λ (l : List ℕ). l ++ used_by bytes answer) (carried.hears.1 refl) ∙ sym (gave_more t bytes answer) in
    record {
      hears = (subst (λ (l : List ℕ). StartsWith l new.received) came (take-length new.received), λ _. came);
      sends = handed ∙ carried.sends;
      ends = λ is. any_last (λ call. uses_none call.0 call.1) t.reads (bytes, answer) (ends is);
    }

-- a read that was answered by an error gave nothing
pub carries_error : (t new : Traffic) (h : History) (is_cut : Bool) (bytes : List ℕ) (error : Error)
    → Carries t h is_cut → is_cut ≡ false → h.at_end ≡ false → new ≡ after_read t bytes (Err error) → Carries new h is_cut
carries_error t new h is_cut bytes error carried whole goes_on is =
    subst (λ (n : Traffic). Carries n h is_cut) (sym is)
    (subst (λ (cut : Bool). Carries (after_read t bytes (Err error)) h cut) (sym whole)
    (carries_read t h h bytes (Err error) (subst (λ (cut : Bool). Carries t h cut) whole carried) (sym (append-nil h.received)) refl (λ at_end. cc)))

-- what was read was taken, as far as there was memory
pub carries_taken : (t new : Traffic) (old h : History) (was cut is_cut : Bool) (bytes view : List ℕ) (answer : Result ℕ Error)
    → Carries t old was → was ≡ false → (Carries t old false → Carries (after_read t view answer) h cut)
    → view ≡ bytes → new ≡ after_read t bytes answer → is_cut ≡ cut → Carries new h is_cut
carries_taken t new old h was cut is_cut bytes view answer carried whole takes same is cut_is =
    let taken = takes (subst (λ (c : Bool). Carries t old c) whole carried) in
    subst (λ (n : Traffic). Carries n h is_cut) (sym is)
    (subst (λ (c : Bool). Carries (after_read t bytes answer) h c) (sym cut_is)
    (subst (λ (v : List ℕ). Carries (after_read t v answer) h cut) same taken))

-- neither came anything nor was anything sent
pub carries_still : (t : Traffic) (old new : History) (is_cut : Bool) → Carries t old is_cut → new.received ≡ old.received → new.handed ≡ old.handed → new.at_end ≡ old.at_end
    → Carries t new is_cut
carries_still t old new is_cut carried received handed at_end = record {
  hears = subst (λ (l : List ℕ). Hears is_cut (gave t) l) (sym received) carried.hears;
  sends = handed ∙ carried.sends;
  ends = λ is. carried.ends (sym at_end ∙ is);
}

-- a session that waited is opened in the next volume, or nothing happens
pub resumes : {A E : Type 0} (r : Result A E) (old new : History)
    → OnOk r (((new ≡ old) × ((old.waits ≡ false) ⊎ (is_open old.state ≡ false))) ⊎ ((old.waits ≡ true) × (new ≡ after_resuming old))) → OnErr r (new ≡ old)
    → (new ≡ old) ⊎ (new ≡ after_resuming old)
resumes (Ok a) old new (inl same) err = inl same.0
resumes (Ok a) old new (inr there) err = inr there.1
resumes (Err e) old new ok same = inl same

pub carries_resumed : (t : Traffic) (old new : History) (is_cut : Bool) → Carries t old is_cut → (new ≡ old) ⊎ (new ≡ after_resuming old) → Carries t new is_cut
carries_resumed t old new is_cut carried (inl same) = subst (λ (h : History). Carries t h is_cut) (sym same) carried
carries_resumed t old new is_cut carried (inr is) =
    carries_still t old new is_cut carried (ap (λ (h : History). h.received) is) (ap (λ (h : History). h.handed) is) (ap (λ (h : History). h.at_end) is)

pub hosted_resumed : (old new : History) → (new ≡ old) ⊎ (new ≡ after_resuming old) → new.hosted ≡ old.hosted
hosted_resumed old new (inl same) = ap (λ (h : History). h.hosted) same
hosted_resumed old new (inr is) = ap (λ (h : History). h.hosted) is

pub attached_resumed : (old new : History) → (new ≡ old) ⊎ (new ≡ after_resuming old) → old.attached ≡ true → new.attached ≡ true
attached_resumed old new (inl same) attached = ap (λ (h : History). h.attached) same ∙ attached
attached_resumed old new (inr is) attached = ap (λ (h : History). h.attached) is

-- a session leaves the volume, or nothing happens
pub suspends : (r : Option Stub) (old new : History) → IfSome r (λ stub. new ≡ after_suspending old stub.receipts.items) → IfNone r (new ≡ old)
    → (new ≡ old) ⊎ ((receipts : List Receipt) × (new ≡ after_suspending old receipts))
suspends (Some stub) old new is none = inr (stub.receipts.items, is)
suspends None old new some same = inl same

pub carries_suspended : (t : Traffic) (old new : History) (is_cut : Bool) → Carries t old is_cut
    → (new ≡ old) ⊎ ((receipts : List Receipt) × (new ≡ after_suspending old receipts)) → Carries t new is_cut
carries_suspended t old new is_cut carried (inl same) = subst (λ (h : History). Carries t h is_cut) (sym same) carried
carries_suspended t old new is_cut carried (inr (receipts, is)) =
    carries_still t old new is_cut carried (ap (λ (h : History). h.received) is) (ap (λ (h : History). h.handed) is) (ap (λ (h : History). h.at_end) is)

pub hosted_suspended : (old new : History) → (new ≡ old) ⊎ ((receipts : List Receipt) × (new ≡ after_suspending old receipts)) → new.hosted ≡ old.hosted
hosted_suspended old new (inl same) = ap (λ (h : History). h.hosted) same
hosted_suspended old new (inr (receipts, is)) = ap (λ (h : History). h.hosted) is

-- what was sent is no more to be sent
pub sends_more : (old mid new : History) (count : ℕ) → SendsSome old mid → new ≡ after_sending mid count → SendsSome old new
sends_more old mid new count sent more =
    subst (λ (h : History). SendsSome old h) (sym more) (
      ap (λ (h : History). after_sending h count) sent.0,
      append_assoc mid.handed (take count mid.pending) (drop count mid.pending)
          ∙ ap (λ (l : List ℕ). mid.handed ++ l) (take-append-drop count mid.pending) ∙ sent.1,
    )

pub sends_same : (old mid new : History) → SendsSome old mid → new ≡ mid → SendsSome old new
sends_same old mid new sent same = subst (λ (h : History). SendsSome old h) (sym same) sent
