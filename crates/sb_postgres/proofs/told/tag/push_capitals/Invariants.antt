use Rattle.std.proofs.Common.{◌≡◌, ◌++◌, map, take}
use Rattle.sb_postgres.specs.Tags.{capital}
use Rattle.sb_postgres.proofs.told.tag.push_capitals.Given as goal

abbrev pub invariant-loop-byte : goal.invariant-loop-byte
invariant-loop-byte l = l.out.items ≡ l.fn.out.items ++ map capital (take l.byte-index l.word)
