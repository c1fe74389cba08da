use Rattle.std.proofs.Common.{◌≡◌, ℕ, length, get_or, None}
use Rattle.sb_durable.proofs.segment_needs.SegmentNeeds.new.Given as goal

-- one for each tenant so far, and none has a record
abbrev pub invariant-loop-tenant : goal.invariant-loop-tenant
invariant-loop-tenant l = (length l.oldest.items ≡ l._tenant) × ((t : ℕ) → get_or l.oldest.items t None ≡ None)
