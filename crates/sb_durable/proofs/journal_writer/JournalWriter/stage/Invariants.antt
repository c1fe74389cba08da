use Rattle.std.proofs.Common.{◌≡◌, ◌+◌, ◌++◌, List, map, take, slice_set}
use Rattle.sb_durable.specs.Records.{Entry}
use Rattle.sb_durable.specs.BatchJournals.{Base}
use Rattle.sb_durable.specs.EntryReaders.{record_of_note}
use Rattle.sb_durable.specs.Recording.{renewals_of}
use Rattle.sb_durable.proofs.journal_writer.JournalWriter.stage.Given as goal

abbrev pub invariant-loop-note : goal.invariant-loop-note
invariant-loop-note g l =
    record {
      reach : l.reach ≡ record { volume = l.fn.start.reach.volume; entries = l.fn.start.reach.entries + l.note-index };
      counts : l.self.recorded.items ≡ slice_set l.fn.self.recorded.items l.tenant l.reach;
      has : (base : Base) (records waiting : List Entry) → g.B.BatchJournal.has l.fn.self.journal base records waiting
          → g.B.BatchJournal.has l.self.journal base records (waiting ++ (renewals_of l.tenant l.fn.start.is_renewed ++ map (record_of_note l.tenant) (take l.note-index l.notes)));
    }
