use Rattle.std.proofs.Common.{◌≡◌, ◌++◌, ◌∷◌, take}
use Rattle.std.specs.List.{flat_map}
use Rattle.sb_value.specs.Literal.{quote, doubled}
use Rattle.sb_value.proofs.literal.print_text.Given as goal

abbrev pub invariant-loop-byte : goal.invariant-loop-byte
invariant-loop-byte l = l.out.items ≡ l.fn.out.items ++ quote ∷ flat_map doubled (take l.byte-index l.text)
