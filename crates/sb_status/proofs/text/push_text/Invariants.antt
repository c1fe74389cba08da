use Rattle.std.proofs.Common.{◌≡◌, ◌++◌, take}
use Rattle.sb_status.specs.Escape.{escaped}
use Rattle.sb_status.proofs.text.push_text.Given as goal

abbrev pub invariant-loop-byte : goal.invariant-loop-byte
invariant-loop-byte l = l.out.items ≡ l.initial.out.items ++ escaped l.escaping (take l.byte-index l.text)
