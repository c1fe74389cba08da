-- A walk through the lines of rows.
use Rattle.std.proofs.Common.{◌≡◌, ◌∙◌, ℕ, suc, zero, ◌+◌, ◌<◌, true, List, [], ◌∷◌, ◌++◌, length, get_or, take, drop, sym, ap, arith, add-one}
use Rattle.std.proofs.Math.Seq.{take-suc, drop-cons}
use Rattle.std.proofs.lemmas.Bool.{and_parts}
use Rattle.std.proofs.lemmas.Grind.{flat_map-append}
use Rattle.std.proofs.lemmas.List.{append_assoc, append-nil}
use Rattle.sb_value.specs.declared.value.Value.{Value}
use Rattle.sb_rows.specs.RowText.{row_text, rows_text, started_rows, has_no_newline, HaveNoNewline}

abbrev row_at : List (List Value) → ℕ → List Value
row_at rows k = get_or rows k []

row_line : (rows : List (List Value)) (k : ℕ) → HaveNoNewline rows → k < length rows → has_no_newline (row_text (row_at rows k)) ≡ true
row_line [] k lines low = absurd (omega arith)
row_line (row ∷ rows) zero lines low = (and_parts _ _ lines).0
row_line (row ∷ rows) (suc k) lines low = row_line rows k (and_parts _ _ lines).1 (omega arith)

-- the lines that are left begin with the next row's
pub lines_left : (rows : List (List Value)) (k : ℕ) (left : List ℕ) → k < length rows → HaveNoNewline rows → left ≡ rows_text (drop k rows)
    → (has_no_newline (row_text (row_at rows k)) ≡ true) × (left ≡ row_text (row_at rows k) ++ 10 ∷ rows_text (drop (k + 1) rows))
lines_left rows k left low lines is = (
  row_line rows k lines low,
  is ∙ ap rows_text (drop-cons rows k [] low) ∙ append_assoc (row_text (row_at rows k)) (10 ∷ []) (rows_text (drop (suc k) rows))
      ∙ ap (λ n. row_text (row_at rows k) ++ 10 ∷ rows_text (drop n rows)) (sym (add-one k)),
)

-- the lines that are there, with the next row's
pub lines_there : (rows : List (List Value)) (k : ℕ) (start old out new line : List ℕ) → k < length rows → out ≡ old ++ started_rows start (take k rows)
    → line ≡ row_text (row_at rows k) ++ 10 ∷ [] → new ≡ out ++ (start ++ line) → new ≡ old ++ started_rows start (take (k + 1) rows)
lines_there rows k start old out new line low there is more =
    let row : List Value = row_at rows k in
    let one : take (k + 1) rows ≡ take k rows ++ row ∷ [] = ap (λ n. take n rows) (add-one k) ∙ take-suc rows k [] low in
    let started : started_rows start (take (k + 1) rows) ≡ started_rows start (take k rows) ++ (start ++ row_text row ++ 10 ∷ []) =
    ap (started_rows start) one ∙ flat_map-append (λ r. start ++ row_text r ++ 10 ∷ []) (take k rows) (row ∷ [])
    ∙ ap (λ t. started_rows start (take k rows) ++ t) (append-nil (start ++ row_text row ++ 10 ∷ [])) in
    more ∙ ap (λ t. t ++ (start ++ line)) there ∙ ap (λ l. (old ++ started_rows start (take k rows)) ++ (start ++ l)) is
    ∙ ap (λ l. (old ++ started_rows start (take k rows)) ++ l) (sym (append_assoc start (row_text row) (10 ∷ [])))
    ∙ append_assoc old (started_rows start (take k rows)) (start ++ row_text row ++ 10 ∷ []) ∙ ap (λ t. old ++ t) (sym started)
