-- The bytes of a draft are few and printable.
use Rattle.std.proofs.Common.{◌≡◌, ◌≤◌, ◌+◌, ◌-◌, ◌==◌, ◌&&◌, ℕ, Bool, true, false, cond, nat_le, List, [], ◌∷◌, ◌++◌, length, map, Option, Some, None, Result, Ok, Err, refl, subst, inl, inr, arith}
use Rattle.std.proofs.lemmas.Bool.{and_from, and_parts, or_cases, cond_both, leb-true, le-leb, eqb-true}
use Rattle.sb_postgres.specs.declared.query.error.Fault.TheVariants as fault
use Rattle.sb_postgres.specs.declared.query.error.Refusal.{Refusal}
use Rattle.sb_postgres.specs.declared.query.piece.PieceKind.{PieceKind}
use Rattle.sb_postgres.specs.declared.query.piece.PieceKind.TheVariants as k
use Rattle.sb_postgres.specs.Bytes.{is_small, is_digit, is_capital, is_printable, folded, all}
use Rattle.sb_postgres.specs.Drafts.{Drafted, nothing, with_gap, first_gap, spaced, spaced_by, with_bytes, limited, with_text, with_gap_behind, with_name, with_piece}
use Rattle.sb_postgres.specs.Lines.{refusal, shown, unprintable, inside, is_name, is_name_byte}
use Rattle.sb_postgres.proofs.Places.{same_draft}

pub record Fine (d : Drafted) : Type 0 where
  pub short : length d.bytes ≤ 4_096
  pub printable : all is_printable d.bytes ≡ true

all-append : (p : ℕ → Bool) (xs ys : List ℕ) → all p xs ≡ true → all p ys ≡ true → all p (xs ++ ys) ≡ true
all-append p [] ys h t = t
all-append p (x ∷ xs) ys h t = let s = and_parts (p x) (all p xs) h in and_from _ _ s.0 (all-append p xs ys s.1 t)

all-map : (p q : ℕ → Bool) (f : ℕ → ℕ) (xs : List ℕ) → ((x : ℕ) → p x ≡ true → q (f x) ≡ true) → all p xs ≡ true → all q (map f xs) ≡ true
all-map p q f [] step h = refl
all-map p q f (x ∷ xs) step h = let s = and_parts (p x) (all p xs) h in and_from _ _ (step x s.0) (all-map p q f xs step s.1)

in-range : (b : ℕ) → 32 ≤ b → b ≤ 126 → is_printable b ≡ true
in-range b l m = and_from _ _ (le-leb 32 b l) (le-leb b 126 m)

folded-printable : (b : ℕ) → is_printable b ≡ true → is_printable (folded b) ≡ true
folded-printable b h =
    cond_both (is_capital b) (b + 32) b (λ x. is_printable x ≡ true)
    (λ c.
    let s = and_parts (nat_le 65 b) (nat_le b 90) c in
    let l : 65 ≤ b = leb-true 65 b s.0 in
    let m : b ≤ 90 = leb-true b 90 s.1 in
    in-range (b + 32) (omega arith) (omega arith))
    (λ c. h)

shown-printable : (kind : PieceKind) (b : ℕ) → is_printable b ≡ true → is_printable (shown kind b) ≡ true
shown-printable k.Constant b h = h
shown-printable k.Blank b h = folded-printable b h
shown-printable k.Semicolon b h = folded-printable b h
shown-printable k.QuotedName b h = folded-printable b h
shown-printable k.Parameter b h = folded-printable b h
shown-printable k.Word b h = folded-printable b h
shown-printable k.Byte b h = folded-printable b h

-- ---- what is added

checked : (at : ℕ) (bs : List ℕ) → unprintable at bs ≡ None → all is_printable bs ≡ true
checked at [] e = refl
checked at (b ∷ bs) e = go (is_printable b) refl e (checked (at + 1) bs)
  where
    go : (t : Bool) → is_printable b ≡ t → cond t (unprintable (at + 1) bs) (Some at) ≡ None → (unprintable (at + 1) bs ≡ None → all is_printable bs ≡ true) → all is_printable (b ∷ bs) ≡ true
    go true p e rec = and_from _ _ p (rec e)
    go false p e rec = absurd cc

small-printable : (b : ℕ) → is_small b ≡ true → is_printable b ≡ true
small-printable b h = elim (or_cases (nat_le 97 b && nat_le b 122) (b == 95) h) [
  | inl r ↦ (let s = and_parts (nat_le 97 b) (nat_le b 122) r in
      let l : 97 ≤ b = leb-true 97 b s.0 in
      let m : b ≤ 122 = leb-true b 122 s.1 in
      in-range b (omega arith) (omega arith))
  | inr u ↦ (let e : b ≡ 95 = eqb-true b 95 u in in-range b (omega arith) (omega arith))
]

name-byte-printable : (b : ℕ) → is_name_byte b ≡ true → is_printable b ≡ true
name-byte-printable b h = elim (or_cases (is_small b) (is_digit b) h) [
  | inl s ↦ small-printable b s
  | inr d ↦ (let s = and_parts (nat_le 48 b) (nat_le b 57) d in
      let l : 48 ≤ b = leb-true 48 b s.0 in
      let m : b ≤ 57 = leb-true b 57 s.1 in
      in-range b (omega arith) (omega arith))
]

name-printable : (bs : List ℕ) → is_name bs ≡ true → all is_printable (map (shown k.QuotedName) bs) ≡ true
name-printable [] h = refl
name-printable (b ∷ bs) h =
    let s = and_parts (is_small b) (all is_name_byte bs) h in
    and_from _ _ (folded-printable b (small-printable b s.0)) (all-map is_name_byte is_printable (shown k.QuotedName) bs (λ x t. folded-printable x (name-byte-printable x t)) s.1)

-- ---- drafts

gapped : (at : ℕ) (d : Drafted) → Fine d → Fine (with_gap at d)
gapped at d h = cond_both (length d.bytes == 0) d (record d { gap = first_gap at d.gap }) Fine (λ z. h) (λ z. record { short = h.short; printable = h.printable })

spaced-printable : (d : Drafted) (o : Option ℕ) → all is_printable d.bytes ≡ true → all is_printable (spaced_by d o).bytes ≡ true
spaced-printable d None h = h
spaced-printable d (Some g) h = all-append is_printable d.bytes (32 ∷ []) h refl

added : (at place : ℕ) (bs : List ℕ) (d e : Drafted) → limited at (with_bytes place bs d) ≡ Ok e → all is_printable bs ≡ true → Fine d → Fine e
added at place bs d e is new h = go (nat_le (length (with_bytes place bs d).bytes) 4_096) refl is
  where
    go : (b : Bool) → nat_le (length (with_bytes place bs d).bytes) 4_096 ≡ b → cond b (Ok (with_bytes place bs d)) (Err (refusal fault.TooLong at)) ≡ Ok e → Fine e
    go true t is =
        let f : Fine (with_bytes place bs d) = record {
          short = leb-true (length (with_bytes place bs d).bytes) 4_096 t;
          printable = all-append is_printable (spaced d).bytes bs (spaced-printable d d.gap h.printable) new;
        } in
        subst Fine (same_draft (with_bytes place bs d) e is) f
    go false t is = absurd cc

with-text : (kind : PieceKind) (at : ℕ) (bs : List ℕ) (d e : Drafted) (o : Option ℕ) → unprintable at bs ≡ o → with_text kind at bs d o ≡ Ok e → Fine d → Fine e
with-text kind at bs d e None t made h = added at at (map (shown kind) bs) d e made (all-map is_printable is_printable (shown kind) bs (shown-printable kind) (checked at bs t)) h
with-text kind at bs d e (Some place) t made h = absurd cc

with-name : (at : ℕ) (bytes : List ℕ) (d e : Drafted) → with_name at bytes d ≡ Ok e → Fine d → Fine e
with-name at bytes d e made h = go (is_name (inside bytes)) refl made
  where
    behind : (r : Result Drafted Refusal) → is_name (inside bytes) ≡ true → limited at (with_bytes (at + 1) (map (shown k.QuotedName) (inside bytes)) (with_gap at d)) ≡ r → with_gap_behind (at + length bytes - 1) r ≡ Ok e → Fine e
    behind (Ok f) n l g = subst Fine (same_draft _ e g) (gapped (at + length bytes - 1) f (added at (at + 1) (map (shown k.QuotedName) (inside bytes)) (with_gap at d) f l (name-printable (inside bytes) n) (gapped at d h)))
    behind (Err r) n l g = absurd cc

    go : (b : Bool) → is_name (inside bytes) ≡ b → cond b (with_gap_behind (at + length bytes - 1) (limited at (with_bytes (at + 1) (map (shown k.QuotedName) (inside bytes)) (with_gap at d)))) (Err (refusal fault.Name at)) ≡ Ok e → Fine e
    go true n m = behind (limited at (with_bytes (at + 1) (map (shown k.QuotedName) (inside bytes)) (with_gap at d))) n refl m
    go false n m = absurd cc

pub stays_fine : (kind : PieceKind) (at : ℕ) (bytes : List ℕ) (d e : Drafted) → with_piece kind at bytes d ≡ Ok e → Fine d → Fine e
stays_fine k.Blank at bytes d e made h = subst Fine (same_draft (with_gap at d) e made) (gapped at d h)
stays_fine k.QuotedName at bytes d e made h = with-name at bytes d e made h
stays_fine k.Semicolon at bytes d e made h = with-text k.Semicolon at bytes d e (unprintable at bytes) refl made h
stays_fine k.Constant at bytes d e made h = with-text k.Constant at bytes d e (unprintable at bytes) refl made h
stays_fine k.Parameter at bytes d e made h = with-text k.Parameter at bytes d e (unprintable at bytes) refl made h
stays_fine k.Word at bytes d e made h = with-text k.Word at bytes d e (unprintable at bytes) refl made h
stays_fine k.Byte at bytes d e made h = with-text k.Byte at bytes d e (unprintable at bytes) refl made h

pub nothing-fine : Fine nothing
nothing-fine = record { short = omega arith; printable = refl }
