-- The only line that is told.
use Rattle.std.proofs.Common.{◌≡◌, ◌∙◌, ◌⊎◌, sym, ap, subst, refl, inl, inr, ℕ, Bool, true, false, List, [], ◌∷◌, ◌++◌, append-nil}
use Rattle.std.specs.Prelude.{Option}
use Rattle.std.specs.Io.KnownBytes.{Appends}
use Rattle.std.proofs.lemmas.Bool.{false≢true}
use Rattle.sb_keys.specs.Keys.{is_key}
use Rattle.sb_wire.specs.Lines.{Piece, line, pieces_of, too_long}
use Rattle.sb_wire.specs.Responses.{AnswersStream, AreAnswered}
use Rattle.sb_wire.specs.Stream.{AreFirst}
use Rattle.sb_keys.specs.KeyDigests.{Digests, DigestsBy, State, TellsDigest, digest_text, over}
use Rattle.sb_keys.specs.declared.key_digest.Digested.{Digested}
use Rattle.sb_keys.specs.declared.key_digest.Digested.TheVariants.{Awaits, Told, NoKey}

-- a key, and its digest
record IsTold (pieces : List Piece) (text : List ℕ) : Type 0 where
  key : List ℕ
  is : pieces ≡ line key ∷ []
  is_key : is_key key ≡ true
  told : text ≡ digest_text key

by_test : (t : Bool) (bytes text : List ℕ) (new : Digested) → is_key bytes ≡ t → DigestsBy t bytes text new → new ≡ Told → (is_key bytes ≡ true) × (text ≡ digest_text bytes)
by_test true bytes text new is (told, now) told_now = (is, told)
by_test false bytes text new is (none, now) told_now = absurd (let e : NoKey ≡ Told = sym now ∙ told_now in cc)

by_piece : (p : Piece) (old : State) (text : List ℕ) (new : State) → Digests old p text new → new.1 ≡ Told → IsTold (p ∷ []) text
by_piece too_long old text new (none, now) told = absurd (let e : NoKey ≡ Told = sym now ∙ told in cc)
by_piece (line bytes) old text new digests told =
    let one = by_test (is_key bytes) bytes text new.1 refl digests told in
    record { key = bytes; is = refl; is_key = one.0; told = one.1 }

-- a line behind the first one isn't looked at
is_told : (pieces : List Piece) (text : List ℕ) (new : State) → AreAnswered Digests over (tt, Awaits) pieces text new → new.1 ≡ Told → IsTold pieces text
is_told [] text new (none, same) told = absurd (let e : Awaits ≡ Told = sym (ap (λ (s : State). s.1) same) ∙ told in cc)
is_told (p ∷ []) text new (first, rest, mid, is, going, own, (none, same)) told =
    let now : mid.1 ≡ Told = sym (ap (λ (s : State). s.1) same) ∙ told in
    let whole : text ≡ first = is ∙ ap (λ (t : List ℕ). first ++ t) none ∙ append-nil first in
    subst (IsTold (p ∷ [])) (sym whole) (by_piece p (tt, Awaits) first mid own now)
is_told (p ∷ q ∷ ps) text new (first, rest, mid, is, going, own, (more, later, then, split, still, next, others)) told = absurd (done mid.1 (over_then p (tt, Awaits) first mid own) still)
  where
    over_then : (r : Piece) (old : State) (t : List ℕ) (s : State) → Digests old r t s → over s ≡ true
    over_then too_long old t s (none, now) = ap (λ (d : Digested). over (tt, d)) now
    over_then (line bytes) old t s digests = by (is_key bytes) digests
      where
        by : (b : Bool) → DigestsBy b bytes t s.1 → over s ≡ true
        by true (told_now, now) = ap (λ (d : Digested). over (tt, d)) now
        by false (none, now) = ap (λ (d : Digested). over (tt, d)) now

    done : (d : Digested) → over (tt, d) ≡ true → over (tt, d) ≡ false → ⊥
    done d now still_not = false≢true (sym still_not ∙ now)

-- ---- a stream that ended well

first_by : {A : Type 0} {b : Bool} (pieces : List Piece) (seen : List ℕ) → ((b ≡ true) × AreFirst pieces seen) ⊎ (A × (pieces ≡ pieces_of seen)) → AreFirst pieces seen
first_by pieces seen (inl first) = first.1
first_by pieces seen (inr all) = ([], sym all.1 ∙ sym (append-nil pieces))

pub tells : {A : Type 0} {b : Bool} {input held rest holds : Option (List ℕ)} {new : State} (s : AnswersStream Digests over (tt, Awaits) input held new rest holds) → s.left ≡ []
    → ((b ≡ true) × AreFirst s.pieces s.seen) ⊎ (A × (s.pieces ≡ pieces_of s.seen)) → new.1 ≡ Told → TellsDigest input rest held holds
tells {held = held} {holds = holds} {new = new} s none stops told =
    let one = is_told s.pieces s.lines.text new s.lines.answered told in
    let written : s.lines.written ≡ digest_text one.key = sym (s.lines.whole ∙ ap (λ (t : List ℕ). s.lines.written ++ t) none ∙ append-nil s.lines.written) ∙ one.told in record {
      seen = s.seen;
      reads = s.reads;
      key = one.key;
      first = subst (λ (ps : List Piece). AreFirst ps s.seen) one.is (first_by s.pieces s.seen stops);
      is_key = one.is_key;
      appends = subst (Appends held holds) written s.lines.appends;
    }
