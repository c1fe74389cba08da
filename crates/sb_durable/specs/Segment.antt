-- Promise: what a segment has, and when it isn't used any more.
use Rattle.std.specs.Prelude.{◌≡◌, ◌≢◌, ℕ, ◌+◌, ◌≤◌, List, [], ◌∷◌, ◌++◌, length, slice_index, Option, Some, None, Result, Ok, Err, IsTrue}
use Rattle.std.specs.List.{AllByRecursion}
use Rattle.sqlite_disk.specs.Disk.{Only}
use Rattle.sqlite_disk.specs.Digest.{digest}
use Rattle.sb_durable.specs.SegmentBlocks.{AreBlocks, IsContent, IsOpen, size_of}
use Rattle.sb_durable.specs.Head.{Head, IsHead, head_bytes, head_digest, head_size, last_digest, Stands, IsOpened}
use Rattle.sb_durable.specs.declared.segment.error.SegmentError.{SegmentError}
use Rattle.sb_durable.specs.declared.segment.error.SegmentError.TheVariants.{Damaged, NotBegun, CutShort, NoRoom}
use Rattle.sb_durable.specs.declared.segment.place.Place.{Place}
use Rattle.sb_durable.specs.declared.segment.beginning.Beginning.{Beginning}
use Rattle.sb_durable.specs.declared.segment.segment.Segment.{Segment}

abbrev pub head_in : Beginning → Head
head_in beginning = record { number = beginning.number; before = beginning.before; settings = beginning.settings.items }

-- it was made of this head, with its digest
pub record IsBegun (head : Head) (beginning : Beginning) : Type 0 where
  pub same : head_in beginning ≡ head
  pub own : beginning.own ≡ head_digest head

abbrev pub device_of : {D : Type 0} → Segment D → D
device_of segment = segment.device

abbrev pub head_of : {D : Type 0} → Segment D → Head
head_of segment = head_in segment.beginning

-- the place of the gate behind its last block
abbrev pub end_of : {D : Type 0} → Segment D → Place
end_of segment = segment.end

-- a write or a sync has failed, and what the file has isn't known
abbrev pub IsSpent : {D : Type 0} → Segment D → Type 0
IsSpent segment = IsTrue segment.is_spent

-- nothing is behind the gate at its end, and that is shut
abbrev pub IsSettled : {D : Type 0} → Segment D → Type 0
IsSettled segment = IsTrue segment.is_settled

-- its file ends within a block whose gate is open, as no crash leaves it
abbrev pub EndsWithin : {D : Type 0} → (D → List ℕ) → Segment D → Type 0
EndsWithin seen segment = IsOpen (slice_index (seen segment.device) segment.end.at)

-- The place is right behind these contents, and its digest binds them.
pub record IsBehind (head : Head) (contents : List (List ℕ)) (place : Place) : Type 0 where
  pub at : place.at ≡ head_size head + size_of contents
  pub chain : place.chain ≡ last_digest head contents

-- a file that is no segment's is refused: it isn't opened, and isn't called damaged, not begun or cut short
abbrev pub Refuses : {T : Type 0} → Result T SegmentError → Type 0
Refuses (Ok value) = ⊥
Refuses (Err error) = (error ≢ Damaged) × (error ≢ NotBegun) × (error ≢ CutShort)

-- the same bytes, and so many more behind them at most
pub record Extends (few : ℕ) (old new : List ℕ) : Type 0 where
  pub rest : List ℕ
  pub small : length rest ≤ few
  pub whole : new ≡ old ++ rest

-- the disk has no room
abbrev pub IsNoRoom : SegmentError → Type 0
IsNoRoom (NoRoom why) = Unit {0}
IsNoRoom other = ⊥

-- Between two places lies a block of this content, and its digest is that of the content under the one before.
pub record Bears (place : Place) (content : List ℕ) (next : Place) : Type 0 where
  pub chain : next.chain ≡ digest place.chain content
  pub at : next.at ≡ place.at + (13 + length content)
  pub small : IsContent content

-- The digest of the head is its own, and the end binds contents under it.
pub record IsBound (beginning : Beginning) (end : Place) : Type 0 where
  pub fits : IsHead (head_in beginning)
  pub own : beginning.own ≡ head_digest (head_in beginning)
  pub contents : List (List ℕ)
  pub each : AllByRecursion IsContent contents
  pub binds : IsBehind (head_in beginning) contents end

abbrev pub BindsAll : {D : Type 0} → Segment D → Type 0
BindsAll segment = IsBound segment.beginning segment.end

-- The segment's file stands for these contents, and it knows where they end.
pub record Knows {D : Type 0} (seen : D → List ℕ) (segment : Segment D) (contents : List (List ℕ)) : Type 0 where
  pub stands : Stands (head_of segment) contents (seen segment.device)
  pub own : segment.beginning.own ≡ head_digest (head_of segment)
  pub end : IsBehind (head_of segment) contents segment.end

-- the head, the blocks and a shut gate, and nothing behind it
pub record IsAtRest (head : Head) (contents : List (List ℕ)) (file : List ℕ) : Type 0 where
  pub front : List ℕ
  pub are : AreBlocks (head_digest head) contents front
  pub begins : IsOpened (head_bytes head ++ (front ++ 0 ∷ [])) file

-- The segment has these contents, all of them on the disk, so that a crash leaves them.
pub record HasAll {D : Type 0} (seen : D → List ℕ) (may_leave : D → List ℕ → Type 0) (segment : Segment D) (contents : List (List ℕ)) : Type 0 where
  pub knows : Knows seen segment contents
  pub file : IsAtRest (head_of segment) contents (seen segment.device)
  pub durable : Only (seen segment.device) (may_leave segment.device)
  pub settled : IsSettled segment

-- what is read behind the contents `front`, where `back` are the others: the first of those, and the place behind it
abbrev pub Reads : Head → List (List ℕ) → List (List ℕ) → List ℕ → Option Place → Type 0
Reads head front [] content None = Unit {0}
Reads head front [] content (Some next) = ⊥
Reads head front (first ∷ back) content None = ⊥
Reads head front (first ∷ back) content (Some next) = (content ≡ first) × IsBehind head (front ++ first ∷ []) next

-- What a read gives bears its digest; behind the last block, the place is the segment's end.
abbrev pub Gives : Place → Place → List ℕ → Option Place → Type 0
Gives end place content None = (place.at ≡ end.at) × (place.chain ≡ end.chain)
Gives end place content (Some next) = Bears place content next
