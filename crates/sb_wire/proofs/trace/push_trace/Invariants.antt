-- the lines so far are there
use Rattle.std.proofs.Common.{◌≡◌, ◌++◌, take, map}
use Rattle.sb_wire.specs.ReplyText.{trace_line}
use Rattle.sb_wire.specs.Written.{started_lines}
use Rattle.sb_wire.proofs.trace.push_trace.Given as goal

abbrev pub invariant-loop-rule : goal.invariant-loop-rule
invariant-loop-rule l = l.out.items ≡ l.fn.out.items ++ started_lines l.start (map trace_line (take l.rule-index l.trace))
