-- The text of rows is read row by row, and each row value by value.
use Rattle.std.proofs.Common.{◌≡◌, ◌∙◌, ℕ, suc, zero, ◌+◌, ◌-◌, ◌<◌, ◌≤◌, Bool, true, false, List, [], ◌∷◌, ◌++◌, length, map, get_or, take, drop, Option, Some, None, refl, sym, ap, subst, arith, add-one}
use Rattle.std.proofs.Math.Seq.{take-suc, take-length, drop-cons}
use Rattle.std.proofs.lemmas.Bool.{eqb-true}
use Rattle.std.proofs.lemmas.List.{append_assoc, append-nil, drop-append-le, length-drop, map-append, take_all}
use Rattle.sb_frontend.proofs.Saying.{written-append}
use Rattle.sb_value.specs.Literal.{value_text}
use Rattle.sb_value.specs.declared.value.Value.{Value}
use Rattle.sb_rows.specs.RowText.{row_text, rows_text}
use Rattle.sb_postgres.specs.Answers.{Answered, DataRow, sent}
use Rattle.sb_frontend.specs.Cells.{cell, separated, begins_line, BeginsWithRow, WritesTo}
use Rattle.sb_frontend.specs.Rows.{AreInRange, RowsAreInRange, RowsTold, data_row, some_text, wire_text}
use Rattle.sb_value.specs.declared.value.Value.TheVariants.{Int, Text}
use Rattle.std.proofs.Common.{Vec, Global, pos, negsuc, ◌^◌}
use Rattle.std.proofs.lemmas.Fmt.{decimal_is_IsNumeral}
use Rattle.std.specs.Fmt.{decimal}
use Rattle.sb_frontend.specs.Outputs.{written}
use Rattle.sb_frontend.proofs.Cells.{IsApart, positive_below, value-cell}

-- ---- a row

-- what stands behind the first value
abbrev pub behind : List Value → List ℕ → List ℕ
behind [] rest = 10 ∷ rest
behind (w ∷ ws) rest = 44 ∷ row_text (w ∷ ws) ++ 10 ∷ rest

row-behind : (v : Value) (vs : List Value) (rest : List ℕ) → row_text (v ∷ vs) ++ 10 ∷ rest ≡ value_text v ++ behind vs rest
row-behind v [] rest = refl
row-behind v (w ∷ ws) rest = append_assoc (value_text v) (44 ∷ row_text (w ∷ ws)) (10 ∷ rest)

apart : (vs : List Value) (rest : List ℕ) → IsApart (behind vs rest)
apart [] rest = (refl, refl)
apart (w ∷ ws) rest = (refl, refl)

-- the first cell of a row with a value, and what stands behind it
pub first-cell : (v : Value) (vs : List Value) (rest left : List ℕ) → AreInRange (v ∷ vs) → left ≡ row_text (v ∷ vs) ++ 10 ∷ rest → ((cell left).0 ≡ wire_text v) × ((cell left).1 ≡ behind vs rest)
first-cell v vs rest left r is =
    let c = value-cell v (behind vs rest) r.0 (apart vs rest) in
    let e : left ≡ value_text v ++ behind vs rest = is ∙ row-behind v vs rest in
    (ap (λ t. (cell t).0) e ∙ c.0, ap (λ t. (cell t).1) e ∙ c.1)

-- a comma follows or not, and what stands behind it
abbrev is_comma : Option (Bool × List ℕ) → Bool
is_comma None = false
is_comma (Some p) = p.0

abbrev behind_it : Option (Bool × List ℕ) → List ℕ
behind_it None = []
behind_it (Some p) = p.1

apart-from : (a b : Bool) (xs ys : List ℕ) → ◌≡◌ {A = Option (Bool × List ℕ)} (Some (a, xs)) (Some (b, ys)) → (a ≡ b → ⊥) → ⊥
apart-from a b xs ys e differ = differ (ap is_comma e)

-- the cells so far, and the row that is left
pub record IsReadTo (text left : List ℕ) (cells : List (List ℕ)) (row : List Value) (rest : List ℕ) : Type 0 where
  pub value : Value
  pub values : List Value
  pub left-is : left ≡ row_text (value ∷ values) ++ 10 ∷ rest
  pub row-is : map wire_text row ≡ cells ++ map wire_text (value ∷ values)
  pub range : AreInRange (value ∷ values)

abbrev pub Reads : List ℕ → List ℕ → List (List ℕ) → Type 0
Reads text left cells = (row : List Value) (rest : List ℕ) → AreInRange row → BeginsWithRow text row rest → IsReadTo text left cells row rest

pub begun : (text : List ℕ) → ((rest : List ℕ) → text ≡ 10 ∷ rest → ⊥) → Reads text text []
begun text none-begun [] rest r is = absurd (none-begun rest is)
begun text none-begun (v ∷ vs) rest r is = record { value = v; values = vs; left-is = is; row-is = refl; range = r }

-- behind a comma
pub goes_on : (text left more new : List ℕ) (cells new_cells : List (List ℕ)) → Reads text left cells → new ≡ (cell left).0 → separated (cell left).1 ≡ Some (true, more) → new_cells ≡ cells ++ new ∷ [] → Reads text more new_cells
goes_on text left more new cells new_cells reads new-is comma cells-is row rest r is = go (reads row rest r is)
  where
    go : IsReadTo text left cells row rest → IsReadTo text more new_cells row rest
    go h = cases h.values (first-cell h.value h.values rest left h.range h.left-is) h.range h.row-is
      where
        cases : (vs : List Value) → ((cell left).0 ≡ wire_text h.value) × ((cell left).1 ≡ behind vs rest) → AreInRange (h.value ∷ vs) → map wire_text row ≡ cells ++ map wire_text (h.value ∷ vs) → IsReadTo text more new_cells row rest
        cases [] c range row-is = absurd (apart-from false true rest more (ap separated (sym c.1) ∙ comma) (λ e. absurd cc))
        cases (w ∷ ws) c range row-is =
            let e : separated (44 ∷ row_text (w ∷ ws) ++ 10 ∷ rest) ≡ Some (true, more) = ap separated (sym c.1) ∙ comma in
            let m : more ≡ row_text (w ∷ ws) ++ 10 ∷ rest = sym (ap behind_it e) in
            let n : new ≡ wire_text h.value = new-is ∙ c.0 in
            record {
              value = w;
              values = ws;
              left-is = m;
              row-is = row-is ∙ (sym (append_assoc cells (wire_text h.value ∷ []) (map wire_text (w ∷ ws))) ∙ ap (λ cs. cs ++ map wire_text (w ∷ ws)) (sym (cells-is ∙ ap (λ t. cells ++ t ∷ []) n)));
              range = range.1;
            }

-- at the end of the row
pub row_ends : (text left more new : List ℕ) (cells new_cells : List (List ℕ)) (row : List Value) (rest : List ℕ) → Reads text left cells → new ≡ (cell left).0 → separated (cell left).1 ≡ Some (false, more) → new_cells ≡ cells ++ new ∷ [] → AreInRange row → BeginsWithRow text row rest
    → (new_cells ≡ map wire_text row) × (more ≡ rest)
row_ends text left more new cells new_cells row rest reads new-is last cells-is r is = go (reads row rest r is)
  where
    go : IsReadTo text left cells row rest → (new_cells ≡ map wire_text row) × (more ≡ rest)
    go h = cases h.values (first-cell h.value h.values rest left h.range h.left-is) h.row-is
      where
        cases : (vs : List Value) → ((cell left).0 ≡ wire_text h.value) × ((cell left).1 ≡ behind vs rest) → map wire_text row ≡ cells ++ map wire_text (h.value ∷ vs) → (new_cells ≡ map wire_text row) × (more ≡ rest)
        cases [] c row-is =
            let e : separated (10 ∷ rest) ≡ Some (false, more) = ap separated (sym c.1) ∙ last in
            let m : more ≡ rest = sym (ap behind_it e) in
            (cells-is ∙ (ap (λ t. cells ++ t ∷ []) (new-is ∙ c.0) ∙ sym row-is), m)
        cases (w ∷ ws) c row-is = absurd (apart-from true false (row_text (w ∷ ws) ++ 10 ∷ rest) more (ap separated (sym c.1) ∙ last) (λ e. absurd cc))

-- something follows the value of a row
pub not_last : (text left : List ℕ) (cells : List (List ℕ)) (row : List Value) (rest : List ℕ) → Reads text left cells → separated (cell left).1 ≡ None → AreInRange row → BeginsWithRow text row rest → ⊥
not_last text left cells row rest reads none r is = go (reads row rest r is)
  where
    go : IsReadTo text left cells row rest → ⊥
    go h = cases h.values (first-cell h.value h.values rest left h.range h.left-is)
      where
        cases : (vs : List Value) → ((cell left).0 ≡ wire_text h.value) × ((cell left).1 ≡ behind vs rest) → ⊥
        cases [] c = let e : separated (10 ∷ rest) ≡ None = ap separated (sym c.1) ∙ none in absurd cc
        cases (w ∷ ws) c = let e : separated (44 ∷ row_text (w ∷ ws) ++ 10 ∷ rest) ≡ None = ap separated (sym c.1) ∙ none in absurd cc

some-left : (xs rest : List ℕ) → length (xs ++ 10 ∷ rest) ≡ 0 → ⊥
some-left [] rest e = omega (arith, e)
some-left (x ∷ xs) rest e = omega (arith, e)

pub not_empty : (text left : List ℕ) (cells : List (List ℕ)) (row : List Value) (rest : List ℕ) → Reads text left cells → length left ≡ 0 → AreInRange row → BeginsWithRow text row rest → ⊥
not_empty text left cells row rest reads none r is =
    let h = reads row rest r is in
    some-left (row_text (h.value ∷ h.values)) rest (ap length (sym h.left-is) ∙ none)

-- ---- all rows

abbrev row_at : List (List Value) → ℕ → List Value
row_at rows k = get_or rows k []

row_in_range : (rows : List (List Value)) (k : ℕ) → RowsAreInRange rows → k < length rows → AreInRange (row_at rows k)
row_in_range [] k r low = absurd (omega arith)
row_in_range (row ∷ rows) zero r low = r.0
row_in_range (row ∷ rows) (suc k) r low = row_in_range rows k r.1 (omega arith)

row_left : (rows : List (List Value)) (k : ℕ) (left : List ℕ) → k < length rows → left ≡ rows_text (drop k rows) → BeginsWithRow left (row_at rows k) (rows_text (drop (k + 1) rows))
row_left rows k left low is =
    is ∙ ap rows_text (drop-cons rows k [] low) ∙ append_assoc (row_text (row_at rows k)) (10 ∷ []) (rows_text (drop (suc k) rows))
    ∙ ap (λ n. row_text (row_at rows k) ++ 10 ∷ rows_text (drop n rows)) (sym (add-one k))

some-texts : (row : List Value) → map (λ (t : List ℕ). Some t) (map wire_text row) ≡ map some_text row
some-texts [] = refl
some-texts (v ∷ vs) = ap (λ ts. some_text v ∷ ts) (some-texts vs)

messages-more : (rows : List (List Value)) (k : ℕ) (ms : List Answered) (texts : List (List ℕ)) → k < length rows → ms ≡ map data_row (take k rows) → texts ≡ map wire_text (row_at rows k)
    → ms ++ DataRow (map (λ (t : List ℕ). Some t) texts) ∷ [] ≡ map data_row (take (k + 1) rows)
messages-more rows k ms texts low so-far is =
    let row : List Value = row_at rows k in
    let one : take (k + 1) rows ≡ take k rows ++ row ∷ [] = ap (λ n. take n rows) (add-one k) ∙ take-suc rows k [] low in
    let last : DataRow (map (λ (t : List ℕ). Some t) texts) ≡ data_row row = ap (λ (ts : List (Option (List ℕ))). DataRow ts) (ap (map (λ (t : List ℕ). Some t)) is ∙ some-texts row) in
    ap (λ (ns : List Answered). ns ++ DataRow (map (λ (t : List ℕ). Some t) texts) ∷ []) so-far ∙ ap (λ (m : Answered). map data_row (take k rows) ++ m ∷ []) last
    ∙ sym (ap (map data_row) one ∙ map-append data_row (take k rows) (row ∷ []))

pub texts-of : (cells : List (Vec ℕ Global)) → map (λ c. Some c.items) cells ≡ map (λ (t : List ℕ). Some t) (map (λ c. c.items) cells)
texts-of [] = refl
texts-of (c ∷ cs) = ap (λ ts. Some c.items ∷ ts) (texts-of cs)

written-one : (m : Answered) → written (m ∷ []) ≡ sent m
unfolding written
written-one m = append-nil (sent m)

pub one_more : (text left rest old out new : List ℕ) (most k : ℕ) (texts : List (List ℕ)) → k < most → WritesTo most k text left old out
    → ((row : List Value) (behind : List ℕ) → AreInRange row → BeginsWithRow left row behind → (texts ≡ map wire_text row) × (rest ≡ behind))
    → new ≡ out ++ sent (DataRow (map (λ (t : List ℕ). Some t) texts)) → WritesTo most (k + 1) text rest old new
one_more text left rest old out new most k texts low so_far read more = (so_far.0 ++ m ∷ [], bytes, rows-are)
  where
    m : Answered
    m = DataRow (map (λ (t : List ℕ). Some t) texts)

    bytes : new ≡ old ++ written (so_far.0 ++ m ∷ [])
    bytes =
        more ∙ ap (λ t. t ++ sent m) so_far.1 ∙ append_assoc old (written so_far.0) (sent m)
        ∙ ap (λ t. old ++ t) (ap (λ t. written so_far.0 ++ t) (sym (written-one m)) ∙ sym (written-append so_far.0 (m ∷ [])))

    rows-are : (rows : List (List Value)) → RowsAreInRange rows → text ≡ rows_text rows → most ≤ length rows → (rest ≡ rows_text (drop (k + 1) rows)) × (so_far.0 ++ m ∷ [] ≡ map data_row (take (k + 1) rows))
    rows-are rows r is many =
        let h = so_far.2 rows r is many in
        let below : k < length rows = omega (arith, low, many) in
        let one = read (row_at rows k) (rows_text (drop (k + 1) rows)) (row_in_range rows k r below) (row_left rows k left below h.0) in
        (one.1, messages-more rows k so_far.0 texts below h.1 one.0)

pub none_yet : (text old : List ℕ) (most : ℕ) → WritesTo most 0 text text old old
unfolding written
none_yet text old most = ([], sym (append-nil old), λ rows r is many. (is, refl))

-- all rows of a text
pub all_rows : (rows : List (List Value)) (text left old new : List ℕ) (count : ℕ) → text ≡ rows_text rows → count ≡ length rows → WritesTo count count text left old new
    → (ms : List Answered) × (new ≡ old ++ written ms) × RowsTold rows ms
all_rows rows text left old new count is many w =
    (w.0, w.1, λ r. let h = w.2 rows r is (omega (arith, many)) in h.1 ∙ ap (λ n. map data_row (take n rows)) many ∙ ap (map data_row) (take-length rows))

pub rows-said : (start : ℕ) (bytes new : List ℕ) (rows : List (List Value)) → start ≤ length bytes → (ms : List Answered) × (new ≡ bytes ++ written ms) × RowsTold rows ms
    → (ms : List Answered) × RowsTold rows ms × (drop start new ≡ drop start bytes ++ written ms)
rows-said start bytes new rows low w = (w.0, w.2, ap (drop start) w.1 ∙ drop-append-le start bytes (written w.0) low)

-- ---- a row without values

-- a line's end is at no value
ends_first : (t : List ℕ) → cell (10 ∷ t) ≡ ([], 10 ∷ t)
ends_first t = refl

some-decimal : (n : ℕ) → n < 2 ^ 64 → [] ≡ decimal n → ⊥
some-decimal n l e = let h = decimal_is_IsNumeral n l in omega (arith, ap length e, h.0.0)

no_value_first : (v : Value) (vs : List Value) (rest t : List ℕ) → AreInRange (v ∷ vs) → 10 ∷ t ≡ row_text (v ∷ vs) ++ 10 ∷ rest → ⊥
no_value_first (Int (pos n)) vs rest t r is =
    let c = first-cell (Int (pos n)) vs rest (10 ∷ t) r is in
    some-decimal n (positive_below n r.0) (ap (λ p. p.0) (sym (ends_first t)) ∙ c.0)
no_value_first (Int (negsuc n)) vs rest t r is =
    let c = first-cell (Int (negsuc n)) vs rest (10 ∷ t) r is in
    let e : ◌≡◌ {A = List ℕ} [] (45 ∷ decimal (suc n)) = ap (λ p. p.0) (sym (ends_first t)) ∙ c.0 in absurd cc
no_value_first (Text bytes) vs rest t r is =
    let e : 10 ∷ t ≡ value_text (Text bytes) ++ behind vs rest = is ∙ row-behind (Text bytes) vs rest in
    let f : ◌≡◌ {A = ℕ} 10 39 = cc in omega (arith, f)

pub no_values : (text t : List ℕ) (row : List Value) (rest : List ℕ) → text ≡ 10 ∷ t → AreInRange row → BeginsWithRow text row rest → (map wire_text row ≡ []) × (t ≡ rest)
no_values text t [] rest is r begins = (refl, let e : 10 ∷ t ≡ 10 ∷ rest = sym is ∙ begins in cc)
no_values text t (v ∷ vs) rest is r begins = absurd (no_value_first v vs rest t r (sym is ∙ begins))

-- the text begins with a line's end
line_first : (text : List ℕ) → begins_line text ≡ true → text ≡ 10 ∷ drop 1 text
line_first [] e = absurd cc
line_first (b ∷ bs) e = ap (λ x. x ∷ bs) (eqb-true b 10 e)

all_behind : (text : List ℕ) → take (length text - 1) (drop 1 text) ≡ drop 1 text
all_behind text = take_all (length text - 1) (drop 1 text) (omega (arith, length-drop 1 text))

pub line_end : (text : List ℕ) (cells : List (List ℕ)) → begins_line text ≡ true → cells ≡ [] → (row : List Value) (rest : List ℕ) → AreInRange row → BeginsWithRow text row rest
    → (cells ≡ map wire_text row) × (take (length text - 1) (drop 1 text) ≡ rest)
line_end text cells first none row rest r is =
    let h = no_values text (drop 1 text) row rest (line_first text first) r is in
    (none ∙ sym h.0, all_behind text ∙ h.1)

no_line_first : (text rest : List ℕ) → begins_line text ≡ false → text ≡ 10 ∷ rest → ⊥
no_line_first text rest first is = absurd (let e : true ≡ false = ap begins_line (sym is) ∙ first in cc)

pub begun_at : (text : List ℕ) (cells : List (List ℕ)) → begins_line text ≡ false → cells ≡ [] → Reads text text cells
begun_at text cells first none = subst (Reads text text) (sym none) (begun text (λ rest is. no_line_first text rest first is))
