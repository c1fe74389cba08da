use Rattle.std.proofs.Common.{◌≡◌, take}
use Rattle.sb_syntax.proofs.lexer.is_same.Given as goal

-- the bytes so far are the same
abbrev pub invariant-loop-place : goal.invariant-loop-place
invariant-loop-place l = take l.place l.fn.one ≡ take l.place l.fn.other
