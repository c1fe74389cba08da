use Rattle.std.proofs.Common.{◌≡◌, ◌≤◌, ◌+◌, ◌++◌, length, vec_len, vec_capacity}
use Rattle.sb_syntax.specs.Literal.{inner, unquoted}
use Rattle.sb_syntax.proofs.literal.halved.Given as goal

abbrev pub invariant-loop-rest : goal.invariant-loop-rest
invariant-loop-rest l = record {
  same : l.value.items ++ inner l.rest ≡ unquoted l.fn.quoted;
  fewer : vec_len l.value + length l.rest ≤ length l.fn.quoted;
  room : length l.fn.quoted ≤ vec_capacity l.value;
}

abbrev pub decreases-loop-rest : goal.decreases-loop-rest
decreases-loop-rest l = length l.rest
