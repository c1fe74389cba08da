-- Promise: what is told of a file that isn't taken as the next segment of a row.
use Rattle.std.specs.Prelude.{◌≢◌, ℕ, ◌+◌, List}
use Rattle.sb_durable.specs.Head.{Head, IsCutHead, IsForeign, IsUnbegun, Stands}
use Rattle.sb_durable.specs.declared.segment.error.SegmentError.{SegmentError}
use Rattle.sb_durable.specs.declared.segment.error.SegmentError.TheVariants.{NotASegment, NotBegun, CutShort, Damaged}
use Rattle.sb_durable.specs.declared.segment.row.RowFault.{RowFault}
use Rattle.sb_durable.specs.declared.segment.row.RowFault.TheVariants.{OtherNumber, OtherEnd, OtherSettings}

-- the fault is true of the next head, where the segment before has this head and this digest at its end
abbrev pub Tells : RowFault → Head → ℕ → Head → Type 0
Tells OtherNumber head end next = next.number ≢ head.number + 1
Tells OtherEnd head end next = next.before ≢ end
Tells OtherSettings head end next = next.settings ≢ head.settings

-- the fault is true of the head of a row's oldest segment, which was to have this number and these settings
abbrev pub TellsFirst : RowFault → ℕ → List ℕ → Head → Type 0
TellsFirst OtherNumber number settings head = head.number ≢ number
TellsFirst OtherEnd number settings head = ⊥
TellsFirst OtherSettings number settings head = head.settings ≢ settings

-- what is true of a file that isn't read as a segment
abbrev pub IsRefused : SegmentError → List ℕ → Type 0
IsRefused NotASegment file = IsForeign file
IsRefused NotBegun file = IsUnbegun file
IsRefused CutShort file = IsCutHead file
IsRefused Damaged file = (head : Head) (contents : List (List ℕ)) → Stands head contents file → ⊥
IsRefused _ file = Unit {0}
