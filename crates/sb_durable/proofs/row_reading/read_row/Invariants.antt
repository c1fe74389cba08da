use Rattle.std.proofs.Common.{◌≡◌, ◌+◌, ℕ, List, length, take, slice_index}
use Rattle.sb_durable.specs.Head.{IsHead}
use Rattle.sb_durable.specs.Journal.{all_of}
use Rattle.sb_durable.specs.Row.{Filed}
use Rattle.sb_durable.specs.RowReaders.{last_of}
use Rattle.sb_durable.specs.RowReplays.{PlaysRow}
use Rattle.sb_durable.specs.Segment.{head_of}
use Rattle.sb_durable.proofs.row_reading.read_row.Given as goal

abbrev pub invariant-loop-k : goal.invariant-loop-k
invariant-loop-k g l =
    (older : List Filed) × (p : PlaysRow (g.F.SegmentFiles.has l.files) g.D.Disk.seen g.D.Disk.is_clean g.S.Plays.plays l.fn.player l.player l.reader (take l.k l.numbers) older) × (l.records ≡ length (all_of p.batches))
    × IsHead (head_of (last_of l.reader)) × ((j : ℕ) × (l.k ≡ j + 1) × ((head_of (last_of l.reader)).number ≡ slice_index l.numbers j))
