-- Where bytes of markup stand: in no escaped text, in no number, so in a mark.
use Rattle.std.proofs.Common.{◌≡◌, ◌∙◌, ◌⊎◌, ◌<◌, ◌/◌, ◌%◌, ◌==◌, ◌&&◌, ℕ, suc, zero, Bool, true, false, cond, not, List, [], ◌∷◌, ◌++◌, refl, sym, ap, inl, inr, append_assoc, arith}
use Rattle.std.specs.Prelude.{decimal}
use Rattle.std.specs.Fmt.{digit_glyph, digits, digits_onto}
use Rattle.std.specs.List.{list_all}
use Rattle.std.proofs.lemmas.List.Folds.{list_all-append}
use Rattle.std.proofs.lemmas.Bool.Decides.{nat_tests}
use Rattle.sb_status.specs.Escape.{escaped, html_byte, is_markup}
use Rattle.sb_status.specs.Laws.{StandsInMarkup}
use Rattle.sb_status.specs.Pages.{piece_text, rendered}
use Rattle.sb_status.specs.declared.fragment.Fragment.{Fragment}
use Rattle.sb_status.specs.declared.fragment.Fragment.TheVariants.{Markup, Number, Text}
use Rattle.sb_status.specs.declared.text.Escaping.TheVariants.{Html}

abbrev plain : ℕ → Bool
plain b = not (is_markup b)

-- ---- where there is none

-- an entity has no markup, and any other byte isn't markup
byte-plain : (b : ℕ) → list_all plain (html_byte b) ≡ true
byte-plain b = grind (arith, nat_tests)

pub text-plain : (text : List ℕ) → list_all plain (escaped Html text) ≡ true
text-plain [] = refl
text-plain (b ∷ text) =
    list_all-append plain (html_byte b) (escaped Html text) ∙ ap (λ x. x && list_all plain (escaped Html text)) (byte-plain b) ∙ text-plain text

digit-plain : (d : ℕ) → d < 10 → plain (digit_glyph false d) ≡ true
digit-plain d small = grind (arith, nat_tests)

digits-plain : (k n : ℕ) (behind : List ℕ) → list_all plain behind ≡ true → list_all plain (digits_onto k 10 false n behind) ≡ true
digits-plain zero n behind all = all
digits-plain (suc k) n behind all =
    let digit = digit_glyph false (n % 10) in
    let more : list_all plain (digit ∷ behind) ≡ true = ap (λ x. x && list_all plain behind) (digit-plain (n % 10) (omega arith)) ∙ all in
    elim (n / 10 == 0) as (λ b. list_all plain (cond b (digit ∷ behind) (digits_onto k 10 false (n / 10) (digit ∷ behind))) ≡ true)
    [ true ↦ more | false ↦ digits-plain k (n / 10) (digit ∷ behind) more ]

number-plain : (n : ℕ) → list_all plain (decimal n) ≡ true
unfolding digits
number-plain n = digits-plain 64 n [] refl

and_false : (a : Bool) → (a && false) ≡ true → ⊥
and_false true e = cc
and_false false e = cc

none_within : (text left right : List ℕ) (byte : ℕ) → list_all plain text ≡ true → text ≡ left ++ byte ∷ right → is_markup byte ≡ true → ⊥
none_within text left right byte all is markup =
    and_false (list_all plain left)
    (sym (list_all-append plain left (byte ∷ right) ∙ ap (λ b. list_all plain left && (not b && list_all plain right)) markup) ∙ ap (list_all plain) (sym is) ∙ all)

-- ---- in which of two texts a byte stands

nowhere : (before : List ℕ) (byte : ℕ) (behind : List ℕ) → [] ≡ before ++ byte ∷ behind → ⊥
nowhere [] byte behind e = cc
nowhere (b ∷ before) byte behind e = cc

abbrev StandsFirst : List ℕ → List ℕ → List ℕ → ℕ → List ℕ → Type 0
StandsFirst xs ys before byte behind = (right : List ℕ) × (xs ≡ before ++ byte ∷ right) × (behind ≡ right ++ ys)

abbrev StandsSecond : List ℕ → List ℕ → List ℕ → ℕ → List ℕ → Type 0
StandsSecond xs ys before byte behind = (left : List ℕ) × (before ≡ xs ++ left) × (ys ≡ left ++ byte ∷ behind)

first_or_second : (xs ys before : List ℕ) (byte : ℕ) (behind : List ℕ) → xs ++ ys ≡ before ++ byte ∷ behind
    → StandsFirst xs ys before byte behind ⊎ StandsSecond xs ys before byte behind
first_or_second [] ys before byte behind e = inr (before, refl, e)
first_or_second (x ∷ xs) ys [] byte behind e = inl (xs, cc, cc)
first_or_second (x ∷ xs) ys (b ∷ before) byte behind e =
    let same : x ≡ b = cc in
    let rest : xs ++ ys ≡ before ++ byte ∷ behind = cc in
    more same (first_or_second xs ys before byte behind rest)
  where
    more : x ≡ b → StandsFirst xs ys before byte behind ⊎ StandsSecond xs ys before byte behind
        → StandsFirst (x ∷ xs) ys (b ∷ before) byte behind ⊎ StandsSecond (x ∷ xs) ys (b ∷ before) byte behind
    more same (inl (right, is, at_end)) = inl (right, cc, at_end)
    more same (inr (left, in_front, is)) = inr (left, cc, is)

-- ---- the pieces of a page

in_piece : (p : Fragment) (ps : List Fragment) (before : List ℕ) (byte : ℕ) (behind : List ℕ) → is_markup byte ≡ true
    → StandsFirst (piece_text Html p) (rendered Html ps) before byte behind → StandsInMarkup (p ∷ ps) before byte behind
in_piece (Markup m) ps before byte behind markup (right, is, at_end) = record {
  mark = m;
  first = [];
  last = ps;
  among = refl;
  left = before;
  right = right;
  text = is;
  in_front = refl;
  at_end = at_end;
}
in_piece (Text t) ps before byte behind markup (right, is, at_end) = absurd (none_within (escaped Html t.now) before right byte (text-plain t.now) is markup)
in_piece (Number n) ps before byte behind markup (right, is, at_end) = absurd (none_within (decimal n) before right byte (number-plain n) is markup)

behind_piece : (p : Fragment) (ps : List Fragment) (before left : List ℕ) (byte : ℕ) (behind : List ℕ)
    → before ≡ piece_text Html p ++ left → StandsInMarkup ps left byte behind → StandsInMarkup (p ∷ ps) before byte behind
behind_piece p ps before left byte behind is s = record {
  mark = s.mark;
  first = p ∷ s.first;
  last = s.last;
  among = ap (λ (l : List Fragment). p ∷ l) s.among;
  left = s.left;
  right = s.right;
  text = s.text;
  in_front = is ∙ ap (λ (l : List ℕ). piece_text Html p ++ l) s.in_front ∙ sym (append_assoc (piece_text Html p) (rendered Html s.first) s.left);
  at_end = s.at_end;
}

pub markup_stands : (pieces : List Fragment) (before : List ℕ) (byte : ℕ) (behind : List ℕ) → rendered Html pieces ≡ before ++ byte ∷ behind → is_markup byte ≡ true
    → StandsInMarkup pieces before byte behind
markup_stands [] before byte behind e markup = absurd (nowhere before byte behind e)
markup_stands (p ∷ ps) before byte behind e markup =
    elim (first_or_second (piece_text Html p) (rendered Html ps) before byte behind e) [
      | inl here ↦ in_piece p ps before byte behind markup here
      | inr there ↦ behind_piece p ps before there.0 byte behind there.1 (markup_stands ps there.0 byte behind there.2 markup)
    ]
