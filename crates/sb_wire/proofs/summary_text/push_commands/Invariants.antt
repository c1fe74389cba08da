-- the refusals so far are told
use Rattle.std.proofs.Common.{◌≡◌, ◌++◌, take, map}
use Rattle.sb_wire.specs.Counts.{count_parts, of_command}
use Rattle.sb_wire.proofs.summary_text.push_commands.Given as goal

abbrev pub invariant-loop-refusal : goal.invariant-loop-refusal
invariant-loop-refusal l = l.out.items ≡ l.fn.out.items ++ count_parts l.counts (map of_command (take l.refusal-index l.refusals))
