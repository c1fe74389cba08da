-- Inserts that a table has room for, and those past its room.
use Rattle.std.proofs.Common.{◌≡◌, ◌∙◌, ℕ, suc, ◌+◌, ◌<◌, ◌≤◌, true, false, refl, ap, sym, List, [], ◌∷◌, length, arith}
use Rattle.std.proofs.lemmas.Bool.{ltb-true, lt-ltb, ltb-false, le-ltb}
use Rattle.std.proofs.lemmas.List.{length-take}
use Rattle.std.specs.Prelude.{Option, Some, None, option_map, nat_lt, if◌then◌else◌, Result, Ok, Err}
use Rattle.sb_value.specs.declared.change.Change.{Change}
use Rattle.sb_value.specs.declared.refusal.Refusal.{Refusal}
use Rattle.sb_value.specs.declared.refusal.Refusal.TheVariants.{TooManyRows}
use Rattle.sb_value.specs.declared.value.Value.{Value}
use Rattle.sb_value.specs.Table.{table_at}
use Rattle.sb_rows.specs.Lines.{Lines}
use Rattle.sb_eval.specs.Finished.{closed}
use Rattle.sb_eval.specs.Accumulator.{first_rows}
use Rattle.sb_plan.specs.Seen.{Seen}
use Rattle.sb_eval.specs.Statement.{insert_changes, rows_with, cost_limit, within_cost, within_rows, or_overflow}
use Rattle.sb_eval.proofs.FirstRows.{take-all}

module _ (seen : Seen) (t : ℕ) where
  abbrev rows_before : ℕ
  rows_before = length (table_at seen.tables t).rows

  length-inserts : (n : ℕ) (rows : List (List Value)) → length (insert_changes seen t n rows) ≡ length rows
  length-inserts n [] = refl
  length-inserts n (row ∷ rows) = ap suc (length-inserts (n + 1) rows)

  -- a table has no room for so many rows
  pub past_room : (n : ℕ) (rows : List (List Value)) → nat_lt 4096 (rows_before + length rows) ≡ true → within_rows (rows_with seen t) (Ok (insert_changes seen t n rows)) ≡ Err TooManyRows
  past_room n rows is = rw (length-inserts n rows, is) refl

  -- a table has room for so many rows
  pub within_room : (n : ℕ) (rows : List (List Value)) → nat_lt 4096 (rows_before + length rows) ≡ false → within_rows (rows_with seen t) (Ok (insert_changes seen t n rows)) ≡ Ok (insert_changes seen t n rows)
  within_room n rows is = rw (length-inserts n rows, is) refl

  abbrev meant : ℕ → Option (List (List Value)) → Result (List Change) Refusal
  meant n found = within_rows (rows_with seen t) (or_overflow (option_map (insert_changes seen t n) found))

  -- where the first rows are too many, all are
  pub too_many : (n : ℕ) (found : Option (List (List Value))) (rows : List (List Value)) → option_map first_rows found ≡ Some rows
      → nat_lt 4096 (rows_before + length rows) ≡ true → meant n found ≡ Err TooManyRows
  too_many n None rows h many = cc
  too_many n (Some all) rows h many =
      let e : first_rows all ≡ rows = cc in
      let low : 4096 < rows_before + length rows = ltb-true 4096 (rows_before + length rows) many in
      let fewer : length rows ≤ length all = omega (arith, ap length e, length-take 4097 all) in
      past_room n all (lt-ltb 4096 (rows_before + length all) (omega arith))

  -- where there is room for the first rows, these are all
  pub room_enough : (n : ℕ) (found : Option (List (List Value))) (rows : List (List Value)) → option_map first_rows found ≡ Some rows
      → nat_lt 4096 (rows_before + length rows) ≡ false → meant n found ≡ Ok (insert_changes seen t n rows)
  room_enough n None rows h few = cc
  room_enough n (Some all) rows h few =
      let e : first_rows all ≡ rows = cc in
      let low : rows_before + length rows ≤ 4096 = ltb-false 4096 (rows_before + length rows) few in
      let short : length all ≤ 4097 = omega (arith, ap length e, length-take 4097 all) in
      let same : all ≡ rows = sym (take-all 4097 all short) ∙ e in
      ap (λ l. within_rows (rows_with seen t) (Ok (insert_changes seen t n l))) same ∙ within_room n rows few

-- the limit on rows leaves a statement that adds none
pub none_added : (given : Result (List Change) Refusal) → within_rows (λ (changes : List Change). 0) given ≡ given
none_added (Ok changes) = refl
none_added (Err e) = refl

-- ---- the rows of a select

module _ (cost : ℕ) (found : Option (List (List Value))) (told : Lines) (within : nat_lt cost_limit cost ≡ false) (is : option_map (λ rs. closed (first_rows rs)) found ≡ Some told) where
  told-first : (all : List (List Value)) → found ≡ Some all → first_rows all ≡ told.rows
  told-first all h =
      let e : Some (closed (first_rows all)) ≡ Some told = ap (option_map (λ rs. closed (first_rows rs))) (sym h) ∙ is in
      let lines : closed (first_rows all) ≡ told = cc in
      λ i. (lines i).rows

  some-found : (other : Option (List (List Value))) → found ≡ other → (all : List (List Value)) × (found ≡ Some all)
  some-found None h = let e : None ≡ Some told = ap (option_map (λ rs. closed (first_rows rs))) (sym h) ∙ is in cc
  some-found (Some all) h = (all, h)

  limited_by : (all : List (List Value)) → found ≡ Some all → within_rows length (within_cost cost found) ≡ (if nat_lt 4096 (length all) then Err TooManyRows else Ok all)
  limited_by all h = rw (within, h) refl

  -- where more are told than an answer has, there are too many
  pub rows_too_many : 4096 < length told.rows → within_rows length (within_cost cost found) ≡ Err TooManyRows
  rows_too_many low =
      let all = some-found found refl in
      let e : first_rows all.0 ≡ told.rows = told-first all.0 all.1 in
      let many : nat_lt 4096 (length all.0) ≡ true = lt-ltb 4096 (length all.0) (omega (arith, ap length e, length-take 4097 all.0)) in
      limited_by all.0 all.1 ∙ rw many refl

  -- else all are told
  pub rows_told : length told.rows ≤ 4096 → within_rows length (within_cost cost found) ≡ Ok told.rows
  rows_told low =
      let all = some-found found refl in
      let e : first_rows all.0 ≡ told.rows = told-first all.0 all.1 in
      let short : length all.0 ≤ 4096 = omega (arith, ap length e, length-take 4097 all.0) in
      let few : nat_lt 4096 (length all.0) ≡ false = le-ltb 4096 (length all.0) short in
      limited_by all.0 all.1 ∙ rw few refl ∙ ap Ok (sym (take-all 4097 all.0 (omega arith)) ∙ e)
