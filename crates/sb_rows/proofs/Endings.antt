-- Lines that end.
use Rattle.std.proofs.Common.{◌≡◌, ◌∙◌, ℕ, suc, zero, ◌+◌, List, [], ◌∷◌, ◌++◌, length, get_or, set, refl, sym, ap, arith, ne_eqb}
use Rattle.std.proofs.lemmas.List.{append_assoc, append-nil}
use Rattle.sb_value.specs.declared.value.Value.{Value}
use Rattle.sb_value.specs.Literal.{value_text}
use Rattle.sb_rows.specs.RowText.{comma, newline, row_text, rows_text, open_text, line_ended}

-- the comma behind a row becomes its newline
pub line_ended-comma : (bytes : List ℕ) → line_ended (bytes ++ comma ∷ []) ≡ bytes ++ newline ∷ []
line_ended-comma [] = refl
line_ended-comma (b ∷ []) = refl
line_ended-comma (b ∷ c ∷ bytes) = ap (λ l. b ∷ l) (line_ended-comma (c ∷ bytes))

newline_behind : (bytes rest : List ℕ) → line_ended rest ≡ rest ++ newline ∷ [] → line_ended (bytes ++ newline ∷ rest) ≡ (bytes ++ newline ∷ rest) ++ newline ∷ []
newline_behind [] [] h = refl
newline_behind [] (c ∷ rest) h = ap (λ l. 10 ∷ l) h
newline_behind (b ∷ []) rest h = ap (λ l. b ∷ l) (newline_behind [] rest h)
newline_behind (b ∷ c ∷ bytes) rest h = ap (λ l. b ∷ l) (newline_behind (c ∷ bytes) rest h)

-- behind rows that have ended stands one more newline
pub line_ended-rows : (rows : List (List Value)) → line_ended (rows_text rows) ≡ rows_text rows ++ newline ∷ []
line_ended-rows [] = refl
line_ended-rows (row ∷ rows) =
    let e : rows_text (row ∷ rows) ≡ row_text row ++ newline ∷ rows_text rows = append_assoc (row_text row) (10 ∷ []) (rows_text rows) in
    ap line_ended e ∙ newline_behind (row_text row) (rows_text rows) (line_ended-rows rows) ∙ ap (λ t. t ++ 10 ∷ []) (sym e)

-- the values of an open row are the row's text and a comma
pub open_text-row : (value : Value) (values : List Value) → open_text (value ∷ values) ≡ row_text (value ∷ values) ++ comma ∷ []
open_text-row value [] = append-nil (value_text value ++ 44 ∷ [])
open_text-row value (next ∷ values) =
    ap (λ t. (value_text value ++ 44 ∷ []) ++ t) (open_text-row next values)
    ∙ append_assoc (value_text value) (44 ∷ []) (row_text (next ∷ values) ++ 44 ∷ [])
    ∙ sym (append_assoc (value_text value) (44 ∷ row_text (next ∷ values)) (44 ∷ []))

-- the last byte, a comma, is put as a newline
pub line_ended-set : (text : List ℕ) (i d : ℕ) → i + 1 ≡ length text → get_or text i d ≡ comma → set text i newline ≡ line_ended text
line_ended-set [] i d long is = absurd (omega arith)
line_ended-set (b ∷ []) zero d long is = rw is refl
line_ended-set (b ∷ []) (suc i) d long is = absurd (omega arith)
line_ended-set (b ∷ c ∷ text) zero d long is = absurd (omega arith)
line_ended-set (b ∷ c ∷ text) (suc i) d long is = ap (λ l. b ∷ l) (line_ended-set (c ∷ text) i d (omega arith) is)

-- a newline comes behind a last byte that is no comma
pub line_ended-other : (text : List ℕ) (i d : ℕ) → i + 1 ≡ length text → (get_or text i d ≡ comma → ⊥) → text ++ newline ∷ [] ≡ line_ended text
line_ended-other [] i d long other = absurd (omega arith)
line_ended-other (b ∷ []) zero d long other = rw (ne_eqb b 44 other) refl
line_ended-other (b ∷ []) (suc i) d long other = absurd (omega arith)
line_ended-other (b ∷ c ∷ text) zero d long other = absurd (omega arith)
line_ended-other (b ∷ c ∷ text) (suc i) d long other = ap (λ l. b ∷ l) (line_ended-other (c ∷ text) i d (omega arith) other)

pub line_ended-none : (text : List ℕ) → length text ≡ 0 → text ++ newline ∷ [] ≡ line_ended text
line_ended-none [] h = refl
line_ended-none (b ∷ text) h = absurd (omega arith)
