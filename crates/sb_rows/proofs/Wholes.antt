-- Texts that a value is added to, and texts whose line ends, are whole.
use Rattle.std.proofs.Common.{◌≡◌, ◌∙◌, ℕ, ◌+◌, Bool, true, false, not, nat_eq, List, [], ◌∷◌, ◌++◌, ◌&&◌, length, refl, sym, ap, subst, arith, length-append}
use Rattle.std.proofs.lemmas.Bool.{and_parts}
use Rattle.std.proofs.lemmas.Grind.{flat_map-append}
use Rattle.std.proofs.lemmas.List.{append_assoc, append-nil}
use Rattle.std.proofs.lemmas.List.Folds.{list_all-append}
use Rattle.std.proofs.lemmas.List.Sums.{fold-append}
use Rattle.std.specs.List.{fold}
use Rattle.sb_value.specs.declared.value.Value.{Value}
use Rattle.sb_value.specs.Laws.{IsInRange, LiteralsGiveValuesBack}
use Rattle.sb_value.specs.Literal.{value_text}
use Rattle.sb_rows.specs.Lines.{Lines, with_value, with_row_ended}
use Rattle.sb_rows.specs.Reading.{Reading, between, with_byte, reading, lines_in, IsWhole}
use Rattle.sb_rows.specs.RowText.{row_text, rows_text, open_text, lines_text, has_no_newline, HaveNoNewline, line_ended}
use Rattle.sb_rows.proofs.Endings.{line_ended-comma, line_ended-rows, open_text-row}
use Rattle.sb_rows.proofs.Readings.{value_ended, value_line}

-- what is said of a text whose lines are these
abbrev pub IsTextOf : List ℕ → ℕ → Lines → Type 0
IsTextOf text count l = IsWhole text count × (lines_in text ≡ l)

whole : (text : List ℕ) (count : ℕ) (l : Lines) → reading text ≡ between l → text ≡ lines_text l → HaveNoNewline l.rows → has_no_newline (open_text l.begun) ≡ true → count ≡ length l.rows → IsTextOf text count l
whole text count l read is lines last counted =
    let e : lines_in text ≡ l = λ i. record { rows = (read i).rows; begun = (read i).row } in
    let back : l ≡ lines_in text = sym e in (
      record {
        ends = read ∙ ap between back;
        bytes = is ∙ ap lines_text back;
        lines = subst (λ (x : Lines). HaveNoNewline x.rows) back lines;
        last = subst (λ (x : Lines). has_no_newline (open_text x.begun) ≡ true) back last;
        counted = counted ∙ ap (λ (x : Lines). length x.rows) back;
      },
      e,
    )

lines_joined : (xs ys : List ℕ) → has_no_newline xs ≡ true → has_no_newline ys ≡ true → has_no_newline (xs ++ ys) ≡ true
lines_joined xs ys first second = list_all-append (λ b. not (nat_eq b 10)) xs ys ∙ rw (first, second) refl

open_text-more : (begun : List Value) (v : Value) → open_text (begun ++ v ∷ []) ≡ open_text begun ++ (value_text v ++ 44 ∷ [])
open_text-more begun v =
    flat_map-append (λ w. value_text w ++ 44 ∷ []) begun (v ∷ [])
    ∙ ap (λ t. open_text begun ++ t) (append-nil (value_text v ++ 44 ∷ []))

-- a value and a comma behind a text
pub value_added : (text new : List ℕ) (count : ℕ) (v : Value) → LiteralsGiveValuesBack → IsInRange v → IsWhole text count
    → new ≡ text ++ (value_text v ++ 44 ∷ []) → IsTextOf new count (with_value (lines_in text) v)
value_added text new count v law range w is =
    let l : Lines = lines_in text in
    let read : reading new ≡ between (with_value l v) =
    ap reading is
    ∙ fold-append with_byte (record { rows = []; row = []; literal = []; quoted = false }) text (value_text v ++ 44 ∷ [])
    ∙ ap (λ r. fold with_byte r (value_text v ++ 44 ∷ [])) w.ends
    ∙ value_ended law l.rows l.begun v range in
    let bytes : new ≡ lines_text (with_value l v) =
    is ∙ ap (λ t. t ++ (value_text v ++ 44 ∷ [])) w.bytes
    ∙ append_assoc (rows_text l.rows) (open_text l.begun) (value_text v ++ 44 ∷ [])
    ∙ ap (λ t. rows_text l.rows ++ t) (sym (open_text-more l.begun v)) in
    let last : has_no_newline (open_text (l.begun ++ v ∷ [])) ≡ true =
    ap has_no_newline (open_text-more l.begun v)
    ∙ lines_joined (open_text l.begun) (value_text v ++ 44 ∷ []) w.last (lines_joined (value_text v) (44 ∷ []) (value_line v range) refl) in
    whole new count (with_value l v) read bytes w.lines last w.counted

-- ---- a line ends

-- what reads to a comma reads to the end of a line
row_at_comma : (rows : List (List Value)) (row : List Value) (literal : List ℕ) (quoted : Bool) (l : Lines)
    → with_byte (record { rows = rows; row = row; literal = literal; quoted = quoted }) 44 ≡ between l
    → with_byte (record { rows = rows; row = row; literal = literal; quoted = quoted }) 10 ≡ between (with_row_ended l)
row_at_comma rows row literal true l e =
    let empty : literal ++ 44 ∷ [] ≡ [] = λ i. (e i).literal in
    absurd (omega (arith, length-append literal (44 ∷ []), ap length empty))
row_at_comma rows row literal false l e = λ i. record { rows = (e i).rows ++ (e i).row ∷ []; row = []; literal = []; quoted = false }

rows_text-more : (rows : List (List Value)) (row : List Value) → rows_text (rows ++ row ∷ []) ≡ rows_text rows ++ (row_text row ++ 10 ∷ [])
rows_text-more rows row =
    flat_map-append (λ r. row_text r ++ 10 ∷ []) rows (row ∷ [])
    ∙ ap (λ t. rows_text rows ++ t) (append-nil (row_text row ++ 10 ∷ []))

lines_more : (rows : List (List Value)) (row : List Value) → HaveNoNewline rows → has_no_newline (row_text row) ≡ true → HaveNoNewline (rows ++ row ∷ [])
lines_more rows row lines line = list_all-append (λ r. has_no_newline (row_text r)) rows (row ∷ []) ∙ rw (lines, line) refl

row_line : (v : Value) (values : List Value) → has_no_newline (open_text (v ∷ values)) ≡ true → has_no_newline (row_text (v ∷ values)) ≡ true
row_line v values h =
    let split : (has_no_newline (row_text (v ∷ values)) && has_no_newline (44 ∷ [])) ≡ true =
    sym (list_all-append (λ b. not (nat_eq b 10)) (row_text (v ∷ values)) (44 ∷ [])) ∙ ap has_no_newline (sym (open_text-row v values)) ∙ h in
    (and_parts (has_no_newline (row_text (v ∷ values))) (has_no_newline (44 ∷ [])) split).0

abbrev fresh : Reading
fresh = record { rows = []; row = []; literal = []; quoted = false }

ended : (text new : List ℕ) (count : ℕ) (rows : List (List Value)) (begun : List Value)
    → reading text ≡ between (record { rows = rows; begun = begun }) → text ≡ rows_text rows ++ open_text begun
    → HaveNoNewline rows → has_no_newline (open_text begun) ≡ true → count ≡ length rows → new ≡ line_ended text
    → IsTextOf new (count + 1) (record { rows = rows ++ begun ∷ []; begun = [] })
ended text new count rows [] read is lines last counted end =
    let plain : text ≡ rows_text rows = is ∙ append-nil (rows_text rows) in
    let more : new ≡ text ++ 10 ∷ [] = end ∙ ap line_ended plain ∙ line_ended-rows rows ∙ ap (λ t. t ++ 10 ∷ []) (sym plain) in
    let count_more : count + 1 ≡ length (rows ++ [] ∷ []) = omega (arith, counted, length-append rows ([] ∷ [])) in
    whole new (count + 1) (record { rows = rows ++ [] ∷ []; begun = [] })
    (ap reading more ∙ fold-append with_byte fresh text (10 ∷ []) ∙ ap (λ r. with_byte r 10) read)
    (more ∙ ap (λ t. t ++ 10 ∷ []) plain ∙ sym (rows_text-more rows []) ∙ sym (append-nil (rows_text (rows ++ [] ∷ []))))
    (lines_more rows [] lines refl) refl count_more
ended text new count rows (v ∷ values) read is lines last counted end =
    let row : List Value = v ∷ values in
    let front : List ℕ = rows_text rows ++ row_text row in
    let split : text ≡ front ++ 44 ∷ [] = is ∙ ap (λ t. rows_text rows ++ t) (open_text-row v values) ∙ sym (append_assoc (rows_text rows) (row_text row) (44 ∷ [])) in
    let more : new ≡ front ++ 10 ∷ [] = end ∙ ap line_ended split ∙ line_ended-comma front in
    let before : Reading = reading front in
    let comma : with_byte before 44 ≡ between (record { rows = rows; begun = row }) = sym (fold-append with_byte fresh front (44 ∷ [])) ∙ ap reading (sym split) ∙ read in
    let count_more : count + 1 ≡ length (rows ++ row ∷ []) = omega (arith, counted, length-append rows (row ∷ [])) in
    whole new (count + 1) (record { rows = rows ++ row ∷ []; begun = [] })
    (ap reading more ∙ fold-append with_byte fresh front (10 ∷ []) ∙ row_at_comma before.rows before.row before.literal before.quoted (record { rows = rows; begun = row }) comma)
    (more ∙ append_assoc (rows_text rows) (row_text row) (10 ∷ []) ∙ sym (rows_text-more rows row) ∙ sym (append-nil (rows_text (rows ++ row ∷ []))))
    (lines_more rows row lines (row_line v values last)) refl count_more

-- the open row of a text ends
pub row_ended : (text new : List ℕ) (count : ℕ) → IsWhole text count → new ≡ line_ended text → IsTextOf new (count + 1) (with_row_ended (lines_in text))
row_ended text new count w end =
    let l : Lines = lines_in text in
    ended text new count l.rows l.begun w.ends w.bytes w.lines w.last w.counted end
