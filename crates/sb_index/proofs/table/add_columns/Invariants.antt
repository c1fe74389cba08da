use Rattle.std.proofs.Common.{◌≡◌, ℕ, [], get_or}
use Rattle.sb_value.specs.Flags.{flag_at}
use Rattle.sb_index.proofs.Columns.{marked}
use Rattle.sb_index.proofs.table.add_columns.Given as goal

abbrev pub invariant-loop-place : goal.invariant-loop-place
invariant-loop-place l = (k r : ℕ) → flag_at (get_or l.columns k []) r ≡ marked l.initial.columns l.named l.rule l.place k r
