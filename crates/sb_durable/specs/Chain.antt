-- Promise: one digest at the end binds a whole segment.
use Rattle.std.specs.Prelude.{◌≡◌, ◌≢◌, ◌⊎◌, ◌^◌, ◌<◌, ℕ, List, [], ◌∷◌, take, slice_index, bit_xor}
use Rattle.sqlite_disk.specs.Digest.{digest}
use Rattle.sb_durable.specs.Head.{Head, IsHead, IsUnbegun, IsCutHead, file_gate, head_digest, last_digest, Stands, IsLeft}
use Rattle.sb_durable.specs.SegmentBlocks.{IsOpen, open_gate}
use Rattle.sb_durable.specs.Segment.{Bears, IsBehind}
use Rattle.sb_durable.specs.declared.segment.place.Place.{Place}

-- two keys with their texts that have one digest and aren't the same
pub record HasCollision : Type 0 where
  pub one : ℕ × List ℕ
  pub other : ℕ × List ℕ
  pub differ : one ≢ other
  pub collide : digest one.0 one.1 ≡ digest other.0 other.1

-- segments with one digest at their ends have the same head and the same contents, or a collision is at hand
abbrev pub OneEndOneSegment : Type 0
OneEndOneSegment = (head other : Head) (contents others : List (List ℕ)) → IsHead head → IsHead other
    → last_digest head contents ≡ last_digest other others → ((head ≡ other) × (contents ≡ others)) ⊎ HasCollision

-- a file stands for one segment at most
abbrev pub OneFileOneSegment : Type 0
OneFileOneSegment = (file : List ℕ) (head other : Head) (contents others : List (List ℕ)) → Stands head contents file → Stands other others file
    → (head ≡ other) × (contents ≡ others)

-- a file that is cut at any byte has not begun, or ends within its head, or stands for the first contents
abbrev pub CutFilesStand : Type 0
CutFilesStand = (head : Head) (contents : List (List ℕ)) (file : List ℕ) (n : ℕ) → Stands head contents file
    → IsUnbegun (take n file) ⊎ (IsCutHead (take n file) ⊎ ((k : ℕ) × Stands head (take k contents) (take n file)))

-- no flipped bit shuts a gate that was written
abbrev pub FlipsShutNoGate : Type 0
FlipsShutNoGate = (bit : ℕ) → bit < 8 → IsOpen (bit_xor open_gate (2 ^ bit)) × IsOpen (bit_xor file_gate (2 ^ bit))

-- these contents lie between two places, one behind the other, as they were read
abbrev pub Leads : Place → List (List ℕ) → Place → Type 0
Leads from [] to = from.chain ≡ to.chain
Leads from (content ∷ contents) to = (next : Place) × Bears from content next × Leads next contents to

-- contents that were read from the first place to the end have the end's digest
abbrev pub WhatIsReadIsBound : Type 0
WhatIsReadIsBound = (head : Head) (contents : List (List ℕ)) (first end : Place) → first.chain ≡ head_digest head → Leads first contents end
    → end.chain ≡ last_digest head contents

-- what a crash leaves has a shut gate behind its last block
abbrev pub CrashesEndShut : Type 0
CrashesEndShut = (head : Head) (contents : List (List ℕ)) (file : List ℕ) (end : Place) → IsLeft head contents file → IsBehind head contents end
    → IsOpen (slice_index file end.at) → ⊥
