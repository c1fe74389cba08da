-- Where the first newline is, and texts without a quote.
use Rattle.std.proofs.Common.{◌≡◌, ◌∙◌, ℕ, suc, zero, ◌+◌, ◌<◌, Bool, true, false, not, nat_eq, List, [], ◌∷◌, ◌++◌, length, get_or, take, drop, Some, None, refl, sym, ap, subst, arith, length-append, eqb-true}
use Rattle.std.proofs.Math.Seq.{get_or-append_seam, take-append_seam, drop-append_seam}
use Rattle.std.proofs.lemmas.List.{append_assoc}
use Rattle.std.proofs.lemmas.Bool.{and_parts, false≢true}
use Rattle.memchr.specs.Find.{IsFirstByte, is_byte}
use Rattle.std.specs.List.{flat_map}
use Rattle.sb_value.specs.Literal.{doubled}
use Rattle.sb_rows.specs.RowText.{has_no_newline, IsInFront}

not_true : (x : Bool) → not x ≡ true → x ≡ false
not_true true h = cc
not_true false h = refl

-- a byte of a line is no newline
line_byte : (line rest : List ℕ) (k : ℕ) → has_no_newline line ≡ true → k < length line → nat_eq (get_or (line ++ rest) k 0) 10 ≡ false
line_byte [] rest k h low = absurd (omega arith)
line_byte (b ∷ line) rest zero h low = not_true (nat_eq b 10) (and_parts (not (nat_eq b 10)) (has_no_newline line) h).0
line_byte (b ∷ line) rest (suc k) h low = line_byte line rest k (and_parts (not (nat_eq b 10)) (has_no_newline line) h).1 (omega arith)

in_line : (line rest text : List ℕ) (k : ℕ) → has_no_newline line ≡ true → text ≡ line ++ 10 ∷ rest → k < length line → get_or text k 0 ≡ 10 → ⊥
in_line line rest text k h is low found =
    let no : nat_eq (get_or (line ++ 10 ∷ rest) k 0) 10 ≡ false = line_byte line (10 ∷ rest) k h low in
    let yes : get_or (line ++ 10 ∷ rest) k 0 ≡ 10 = ap (λ t. get_or t k 0) (sym is) ∙ found in
    false≢true (sym no ∙ ap (λ b. nat_eq b 10) yes)

-- the first newline of a text stands behind its first line
pub first_newline : (line rest text : List ℕ) (at : ℕ) → has_no_newline line ≡ true → text ≡ line ++ 10 ∷ rest → IsFirstByte (is_byte 10) text (Some at) → at ≡ length line
first_newline line rest text at h is found =
    let found_at : get_or text at 0 ≡ 10 = eqb-true (get_or text at 0) 10 found.1 in
    let there : get_or text (length line) 0 ≡ 10 = ap (λ t. get_or t (length line) 0) is ∙ get_or-append_seam line 10 rest 0 in
    let not_before : at < length line → ⊥ = λ low. in_line line rest text at h is low found_at in
    let not_behind : length line < at → ⊥ = λ low. found.0.before (length line) (omega arith) low (ap (λ b. nat_eq b 10) there) in
    omega arith

-- a text with a line has a newline
pub some_newline : (line rest text : List ℕ) → text ≡ line ++ 10 ∷ rest → IsFirstByte (is_byte 10) text None → ⊥
some_newline line rest text is none =
    let there : get_or text (length line) 0 ≡ 10 = ap (λ t. get_or t (length line) 0) is ∙ get_or-append_seam line 10 rest 0 in
    let within : length line < length text = omega (arith, ap length is, length-append line (10 ∷ rest)) in
    none (length line) (omega arith) within (ap (λ b. nat_eq b 10) there)

doubled_other : (b : ℕ) → (nat_eq b 39 ≡ true → ⊥) → (is : Bool) → nat_eq b 39 ≡ is → doubled b ≡ b ∷ []
doubled_other b other true is = absurd (other is)
doubled_other b other false is = rw is refl

plain_doubled : (text : List ℕ) → ((k : ℕ) → k < length text → nat_eq (get_or text k 0) 39 ≡ true → ⊥) → flat_map doubled text ≡ text
plain_doubled [] none = refl
plain_doubled (b ∷ text) none =
    ap (λ d. d ++ flat_map doubled text) (doubled_other b (none zero (omega arith)) (nat_eq b 39) refl)
    ∙ ap (λ t. b ∷ t) (plain_doubled text (λ k low. none (suc k) (omega arith)))

-- a text without a quote is printed as it is
pub none_doubled : (text : List ℕ) → IsFirstByte (is_byte 39) text None → flat_map doubled text ≡ text
none_doubled text none = plain_doubled text (λ k low. none k (omega arith) low)

-- the line and its newline, and what stands behind
pub line_split : (line rest text : List ℕ) (at : ℕ) → text ≡ line ++ 10 ∷ rest → at ≡ length line → (take (at + 1) text ≡ line ++ 10 ∷ []) × (drop (at + 1) text ≡ rest)
line_split line rest text at is place =
    let whole : text ≡ (line ++ 10 ∷ []) ++ rest = is ∙ sym (append_assoc line (10 ∷ []) rest) in
    let long : at + 1 ≡ length (line ++ 10 ∷ []) = omega (arith, length-append line (10 ∷ [])) in (
      ap (λ n. take n text) long ∙ ap (take (length (line ++ 10 ∷ []))) whole ∙ take-append_seam (line ++ 10 ∷ []) rest,
      ap (λ n. drop n text) long ∙ ap (drop (length (line ++ 10 ∷ []))) whole ∙ drop-append_seam (line ++ 10 ∷ []) rest,
    )

-- ---- what stands in front

front_before : (old more new : List ℕ) → IsInFront (old ++ more) new → IsInFront old new
front_before [] more new front = refl
front_before (b ∷ old) more [] front = cc
front_before (b ∷ old) more (c ∷ new) front =
    let same : c ≡ b = cc in
    let rest : IsInFront (old ++ more) new = cc in
    rw (same, front_before old more new rest) refl

-- what stands in front of more stands in front
pub front_through : (old more mid new : List ℕ) → mid ≡ old ++ more → IsInFront mid new → IsInFront old new
front_through old more mid new is front = front_before old more new (subst (λ (m : List ℕ). IsInFront m new) is front)
