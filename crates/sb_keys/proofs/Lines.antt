-- The first line of a text, and what the lines behind it name.
use Rattle.std.proofs.Common.{◌≡◌, ◌∙◌, ◌⊎◌, sym, ap, refl, inl, inr, ℕ, ◌+◌, ◌<◌, ◌≤◌, Bool, true, false, List, [], ◌∷◌, length, take, drop, arith, ltb}
use Rattle.std.specs.Prelude.{Some, None, Err}
use Rattle.std.specs.List.{after_first, before_first, position_or_len, slice_split}
use Rattle.std.proofs.lemmas.Bool.{ltb-true, ltb-false}
use Rattle.std.proofs.lemmas.List.Sums.{fails_before_first}
use Rattle.std.proofs.lemmas.List.{drop_all, take_all}
use Rattle.std.proofs.lemmas.List.Splits.{slice_split_first, slice_split_none}
use Rattle.memchr.specs.Find.{is_byte}
use Rattle.sb_keys.specs.Keys.{Table}
use Rattle.sb_keys.specs.Text.{newline, with_line, with_lines}

-- behind the first line stand those of the rest, or none is left
record Begins (text : List ℕ) : Type 0 where
  lines : List (List ℕ)
  first : slice_split (is_byte newline) text ≡ before_first (is_byte newline) text ∷ lines
  rest : (lines ≡ slice_split (is_byte newline) (after_first (is_byte newline) text)) ⊎ ((lines ≡ []) × (after_first (is_byte newline) text ≡ []))

begins : (text : List ℕ) → Begins text
begins text = by (ltb place (length text)) refl
  where
    place : ℕ
    place = position_or_len (is_byte newline) text

    by : (t : Bool) → ltb place (length text) ≡ t → Begins text
    by true e = record {
      lines = slice_split (is_byte newline) (after_first (is_byte newline) text);
      first = slice_split_first (is_byte newline) text 0 (ltb-true place (length text) e);
      rest = inl refl;
    }
    by false e =
        let past : length text ≤ place = ltb-false place (length text) e in
        record {
          lines = [];
          first = slice_split_none (is_byte newline) text (λ k d h. fails_before_first (is_byte newline) text k d (omega arith)) ∙ ap (λ (line : List ℕ). line ∷ []) (sym (take_all place text past));
          rest = inr (refl, drop_all (place + 1) text (omega arith));
        }

-- a line that is good
pub line_more : (table more : Table) (n : ℕ) (text : List ℕ) → with_line table (before_first (is_byte newline) text) ≡ Some more
    → with_lines table n (slice_split (is_byte newline) text) ≡ with_lines more (n + 1) (slice_split (is_byte newline) (after_first (is_byte newline) text))
line_more table more n text good = let b = begins text in rw b.first (rw good (by b.rest))
  where
    by : ((begins text).lines ≡ slice_split (is_byte newline) (after_first (is_byte newline) text)) ⊎ (((begins text).lines ≡ []) × (after_first (is_byte newline) text ≡ []))
        → with_lines more (n + 1) (begins text).lines ≡ with_lines more (n + 1) (slice_split (is_byte newline) (after_first (is_byte newline) text))
    by (inl e) = ap (with_lines more (n + 1)) e
    by (inr e) = ap (with_lines more (n + 1)) e.0 ∙ sym (ap (λ (rest : List ℕ). with_lines more (n + 1) (slice_split (is_byte newline) rest)) e.1)

-- one that is bad
pub line_bad : (table : Table) (n : ℕ) (text : List ℕ) → with_line table (before_first (is_byte newline) text) ≡ None
    → with_lines table n (slice_split (is_byte newline) text) ≡ Err (n + 1)
line_bad table n text bad = rw (begins text).first (rw bad refl)
