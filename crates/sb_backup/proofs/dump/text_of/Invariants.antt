use Rattle.std.proofs.Common.{◌≡◌, ◌++◌, drop}
use Rattle.sb_backup.specs.Dumps.{script_text}
use Rattle.sb_backup.proofs.dump.text_of.Given as goal

-- the lines so far are written, and the others are left
abbrev pub invariant-loop-line : goal.invariant-loop-line
invariant-loop-line l = script_text l.fn.script ≡ l.text.items ++ script_text (drop l.line-index l.lines)
