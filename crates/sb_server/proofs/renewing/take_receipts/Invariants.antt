use Rattle.std.proofs.Common.{◌≡◌, ◌+◌, ◌-◌, ◌++◌, vec_len, vec_capacity}
use Rattle.std.specs.Prelude.{IsPermutation}
use Rattle.std.specs.List.{All}
use Rattle.sb_desk.specs.declared.stub.Stub.{Stub}
use Rattle.sb_server.proofs.renewing.take_receipts.Given as goal

-- some are moved, all of them the tenant's
abbrev pub invariant-loop-place : goal.invariant-loop-place
invariant-loop-place l = record {
  moved : IsPermutation l.fn.stubs.items (l.stubs.items ++ l.own.items);
  own : All (λ (stub : Stub). stub.tenant ≡ l.tenant) l.own.items;
  count : vec_len l.stubs + vec_len l.own ≡ vec_len l.fn.stubs;
  capacity : vec_capacity l.stubs ≡ vec_capacity l.fn.stubs;
}

-- each look passes one, or moves it
abbrev pub decreases-loop-place : goal.decreases-loop-place
decreases-loop-place l = vec_len l.stubs - l.place
