use Rattle.std.proofs.Common.{◌≡◌, ◌+◌, ◌≤◌, length}
use Rattle.std.specs.List.{slice_split}
use Rattle.memchr.specs.Find.{is_byte}
use Rattle.sb_keys.specs.Seen.{table_of}
use Rattle.sb_keys.specs.Text.{keys_of, newline, with_lines}
use Rattle.sb_keys.proofs.keys.Keys.read.Given as goal

-- the lines that are left name the rest
abbrev pub invariant-loop-rest : goal.invariant-loop-rest
invariant-loop-rest l = record {
  rest : with_lines (table_of l.keys) l.line (slice_split (is_byte newline) l.rest) ≡ keys_of l.text;
  counted : l.line + length l.rest ≤ length l.text;
}

abbrev pub decreases-loop-rest : goal.decreases-loop-rest
decreases-loop-rest l = length l.rest
