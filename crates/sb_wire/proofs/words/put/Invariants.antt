use Rattle.std.proofs.Common.{◌≡◌, ◌+◌, ◌++◌, take, vec_len, vec_capacity}
use Rattle.sb_wire.proofs.words.put.Given as goal

-- the bytes so far are added, in the room that was there
abbrev pub invariant-loop-byte : goal.invariant-loop-byte
invariant-loop-byte l = record {
  items : l.out.items ≡ l.initial.out.items ++ take l.byte-index l.bytes;
  len : vec_len l.out ≡ vec_len l.initial.out + l.byte-index;
  capacity : vec_capacity l.out ≡ vec_capacity l.initial.out;
}
