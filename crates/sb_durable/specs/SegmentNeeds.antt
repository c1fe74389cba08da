-- Promise: which segments of a journal a restart needs.
use Rattle.std.specs.Prelude.{◌≡◌, ◌<◌, ℕ, ◌+◌, ◌-◌, Bool, false, nat_lt, min, List, [], flat_map, length, take, drop, Option, Some, None, slice_index_or}
use Rattle.sb_durable.specs.Records.{Entry as Record}
use Rattle.sb_durable.specs.VolumeRecords.{IsOfNoUse, own_operations}
use Rattle.sb_durable.specs.declared.segment_needs.SegmentNeeds.{SegmentNeeds}

-- the records of segments, which stand in the order of their numbers
abbrev pub all_records : List (List Record) → List Record
all_records row = flat_map (λ records. records) row

-- where the first one has this number, those of the segments below another number, and those of the others
abbrev pub below : ℕ → ℕ → List (List Record) → List Record
below first number row = all_records (take (number - first) row)

abbrev pub onward : ℕ → ℕ → List (List Record) → List Record
onward first number row = all_records (drop (number - first) row)

-- A tenant needs no segment below this one; where there is no number, it has no record.
abbrev pub NeedsNoneBelow : ℕ → ℕ → List (List Record) → Option ℕ → Type 0
NeedsNoneBelow t first row None = own_operations t (all_records row) ≡ []
NeedsNoneBelow t first row (Some number) = IsOfNoUse t (below first number row) (onward first number row)

-- that segment is there
abbrev pub IsThere : ℕ → List (List Record) → Option ℕ → Type 0
IsThere first row None = Unit {0}
IsThere first row (Some number) = number < first + length row

-- so many tenants
abbrev pub tenants_of : SegmentNeeds → ℕ
tenants_of needs = length needs.oldest.items

abbrev pub need_of : SegmentNeeds → ℕ → Option ℕ
need_of needs t = slice_index_or needs.oldest.items t None

-- it is known of each tenant
abbrev pub AreNeeds : SegmentNeeds → ℕ → List (List Record) → Type 0
AreNeeds needs first row = (t : ℕ) → t < tenants_of needs → IsThere first row (need_of needs t) × NeedsNoneBelow t first row (need_of needs t)

-- nobody needs a segment below this one; where there is no number, nobody has a record
abbrev pub NobodyNeedsBelow : ℕ → ℕ → List (List Record) → Option ℕ → Type 0
NobodyNeedsBelow tenants first row number = (t : ℕ) → t < tenants → NeedsNoneBelow t first row number

-- ---- numbers

-- the lower one, where there are two
abbrev pub older_of : Option ℕ → Option ℕ → Option ℕ
older_of (Some one) (Some other) = Some (min one other)
older_of (Some one) None = Some one
older_of None other = other

abbrev pub is_below : ℕ → Option ℕ → Bool
is_below number None = false
is_below number (Some need) = nat_lt need number
