use Rattle.std.proofs.Common.{◌≡◌, ℕ, [], length}
use Rattle.sb_replay.specs.Scripts.{commands_at, rows_of}
use Rattle.sb_replay.proofs.script.RankedCommands.new.Given as goal

abbrev pub invariant-loop-row : goal.invariant-loop-row
invariant-loop-row l = (length l.rows.items ≡ l._row) × ((k : ℕ) → commands_at (rows_of l.rows.items) k ≡ [])
