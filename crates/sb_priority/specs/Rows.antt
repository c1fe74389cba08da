-- Machine: rows of pairs and of ways of pairs, one for each rule.
use Rattle.std.specs.Prelude.{◌≡◌, ◌≤◌, ℕ, Bool, List, [], map, length, slice_index_or}
use Rattle.sb_value.specs.Flags.{flag_at}
use Rattle.sb_value.specs.Limits.{rule_limit}
use Rattle.sb_value.specs.Order.{precedes}
use Rattle.sb_priority.specs.Closed.{relates, HasPairs, AreClosed}
use Rattle.sb_priority.specs.declared.rows.PrecedenceRow.{PrecedenceRow}

abbrev pub direct_of : List PrecedenceRow → List (List Bool)
direct_of rows = map (λ row. row.direct) rows

abbrev pub before_of : List PrecedenceRow → List (List Bool)
before_of rows = map (λ row. row.before) rows

abbrev pub no_row : PrecedenceRow
no_row = record { direct = []; before = [] }

abbrev pub row_at : List PrecedenceRow → ℕ → PrecedenceRow
row_at rows b = slice_index_or rows b no_row

-- the row has what precedes the rule: by a pair, and by any way of pairs
pub record IsRowOf (pairs : List (List Bool)) (rule : ℕ) (row : PrecedenceRow) : Type 0 where
  pub direct : (a : ℕ) → flag_at row.direct a ≡ relates pairs a rule
  pub before : (ps : List (ℕ × ℕ)) → HasPairs pairs ps → (a : ℕ) → flag_at row.before a ≡ precedes ps a rule

-- the rows are some pairs and their closure, of rules that there may be
abbrev pub AreKept : List PrecedenceRow → Type 0
AreKept rows = (length rows ≤ rule_limit) × AreClosed (direct_of rows) (before_of rows)
