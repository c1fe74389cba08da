use Rattle.std.proofs.Common.{◌≡◌, ℕ}
use Rattle.sb_value.specs.Flags.{share_place}
use Rattle.sb_index.specs.Stands.{column_flags}
use Rattle.sb_index.proofs.Columns.{left_from}
use Rattle.sb_index.proofs.table.named.Given as goal

abbrev pub invariant-loop-place : goal.invariant-loop-place
invariant-loop-place l = (r : ℕ) → left_from l.columns l.named l.rules l.place r ≡ share_place (column_flags l.columns r) l.named
