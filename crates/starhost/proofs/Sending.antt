-- A recorder may be shared by threads.
use denote.RattleType.{RattleType}
use denote.Param.Send.{IsSend, IsSync, sendable}
use Rattle.std.proofs.Crossing.{crosses}
use Rattle.sb_durable.proofs.Sending.{book_send, callers_send, reach_send}
use Rattle.sb_durable.specs.contracts.journal_writer.JournalWriter as JournalWriter
use Rattle.sb_durable.specs.contracts.recorded_reach.RecordedReach as RecordedReach
use Rattle.sb_durable.specs.contracts.recorder.Callers as Callers
use Rattle.sb_durable.specs.contracts.recorder.Recorder as Recorder

-- a recorder may be shared where its host may: what its locks hold may go from one thread to another
module _ (H B S : RattleType) where
  sync_of : IsSync H → IsSend (JournalWriter.the_row B) → IsSend RecordedReach.the_row → IsSend Callers.the_row → IsSync (Recorder.the_row H B S)
  sync_of host held reaches waiting = search (sendable, crosses) depth 60

  pub recorder_sync : IsSync H → IsSend B → IsSync (Recorder.the_row H B S)
  recorder_sync host journal = sync_of host (book_send B journal) reach_send callers_send
