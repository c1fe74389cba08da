-- What the locks of a recorder hold may go from one thread to another.
use denote.RattleType.{RattleType}
use denote.Param.Send.{IsSend, sendable}
use Rattle.std.proofs.Crossing.{crosses, frees}
use Rattle.sqlite_disk.specs.declared.Disk as disk
use Rattle.sqlite_disk.specs.declared.calls.Calls as calls
use Rattle.sqlite_disk.specs.declared.start.Start as start
use Rattle.sqlite_disk.specs.contracts.modelled.Modelled as Modelled
use Rattle.sqlite_disk.specs.contracts.start.Wary as Wary
use Rattle.sb_durable.proofs.journal.Journal.TheSendSync as journal
use Rattle.sb_durable.proofs.journal_writer.JournalWriter.TheSendSync as journal_writer
use Rattle.sb_durable.proofs.entry_reader.EntryReader.TheSendSync as entry_reader
use Rattle.sb_durable.proofs.entry_reader.PendingEntry.TheSendSync as pending_entry
use Rattle.sb_durable.proofs.noted_trail.NotedTrail.TheSendSync as noted_trail
use Rattle.sb_durable.proofs.recorder.Callers.TheSendSync as callers
use Rattle.sb_durable.proofs.row_journal.RowJournal.TheSendSync as row_journal
use Rattle.sb_durable.proofs.segmented_journal.SegmentedJournal.TheSendSync as segmented_journal
use Rattle.sb_durable.specs.contracts.recorder.Callers as Callers
use Rattle.sb_durable.specs.contracts.recorded_reach.RecordedReach as RecordedReach
use Rattle.sb_tenant.proofs.reply.Line.TheSendSync as line
use Rattle.sb_durable.specs.contracts.journal.Journal as Journal
use Rattle.sb_durable.specs.contracts.journal_writer.JournalWriter as JournalWriter
use Rattle.sb_durable.proofs.system_file.Syncing.TheSendSync as syncing
use Rattle.sb_durable.specs.contracts.pending_entries.PendingEntries as PendingEntries
use Rattle.sb_durable.specs.contracts.row_journal.RowJournal as RowJournal
use Rattle.sb_durable.specs.contracts.segmented_journal.SegmentedJournal as SegmentedJournal
use Rattle.sb_durable.specs.contracts.system_file.SystemFile as SystemFile

pub reach_send : IsSend RecordedReach.the_row
reach_send = search (sendable, crosses) depth 40

pub callers_send : IsSend Callers.the_row
callers_send = search (sendable, crosses, frees, callers.the_send, noted_trail.the_send, entry_reader.the_send, pending_entry.the_send, line.the_send, reach_send) depth 60

module _ (B : RattleType) where
  pub book_send : IsSend B → IsSend (JournalWriter.the_row B)
  book_send journal = search (sendable, crosses, frees, journal_writer.the_send, journal) depth 40

module _ (D : RattleType) (d : disk.Ghosts D.Denot) where
  pub journal_send : IsSend D → IsSend (Journal.the_row D d)
  journal_send file = search (sendable, crosses, frees, journal.the_send, file) depth 40

  pub row_journal_send : IsSend D → IsSend (RowJournal.the_row D d)
  row_journal_send file = search (sendable, crosses, frees, row_journal.the_send, file) depth 40

-- so may a journal in segments, where what makes their files may
module _ (D M : RattleType) (d : disk.Ghosts D.Denot) where
  pub segments_send : IsSend D → IsSend M → IsSend (SegmentedJournal.the_row D M d)
  segments_send file maker = search (sendable, crosses, frees, segmented_journal.the_send, row_journal_send, file, maker) depth 40

-- the file of a path may be sent
noted_send : IsSend PendingEntries.the_row
noted_send = search (sendable, crosses) depth 40

pub file_send : IsSend SystemFile.the_row
file_send = search (sendable, crosses, syncing.the_field_send, noted_send) depth 40

module _ (c : calls.Ghosts (SystemFile.the_row).Denot) (s : start.Ghosts (Wary.the_row).Denot) where
  pub opened_send : IsSend (Modelled.the_row SystemFile.the_row Wary.the_row c s)
  opened_send = search (sendable, crosses, file_send) depth 40
