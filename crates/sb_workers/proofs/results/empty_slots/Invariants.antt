use Rattle.std.proofs.Common.{◌≡◌, ◌≤◌, vec_len, vec_capacity}
use Rattle.sb_workers.specs.Results.{AreEmpty}
use Rattle.sb_workers.proofs.results.empty_slots.Given as goal

abbrev pub invariant-loop-place : goal.invariant-loop-place
invariant-loop-place g l = (vec_len l.slots ≡ l._place) × (l.count ≤ vec_capacity l.slots) × AreEmpty l.slots.items
