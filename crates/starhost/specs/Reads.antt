-- Machine: what is had of what is asked for where the status is 0, and how it ends with any status.
use Rattle.std.specs.Prelude.{◌≡◌, ◌⊎◌, ℕ, Bool, List, Option, None, Some, Result, IfErr, IfSome, ⊤}
use Rattle.std.specs.Io.KnownBytes.{Appends}
use Rattle.sb_tenant.specs.declared.bound.Bound.{Bound}
use Rattle.sb_backup.specs.Bounds.{bound_of}
use Rattle.sb_replay.specs.Replay.{Fails, Replays}
use Rattle.sb_replay.specs.declared.error.ReplayError.{ReplayError}
use Rattle.sb_wire.specs.Stream.{AnswersFresh, MayFail, OnWriteFault}
use Rattle.sb_wire.specs.declared.fault.StreamError.{StreamError}
use Rattle.sb_wire.specs.declared.summary.Summary.{Summary}
use Rattle.sb_words.specs.Requests.{Beginning, IsPlain, Request, check, compact, dump, folder, fresh, journal, key, parse, replay, run, serve}
use Rattle.sb_keys.specs.KeyDigests.{TellsDigest}
use Rattle.starhost.specs.Commands.{GoesFresh, Tells, TellsRun, line_of, status_of}
use Rattle.sb_backup.specs.Dumps.{DumpsInput, HaveScripts, RefusesDump, RefusesDumps}
use Rattle.starhost.specs.Ends.{EndsEarly}
use Rattle.starhost.specs.Faults.{RefusesDigest, TellsEnd, TellsFault, unplayed_as}
use Rattle.sb_durable.specs.JournaledRuns.{AnswersJournaled, EndsJournaled}
use Rattle.sb_backup.specs.Loads.{AnswersLoaded, GoesLoaded, IsUnloaded}
use Rattle.starhost.specs.Parses.{ParsesStream, TellsLines}
use Rattle.starhost.specs.Totals.{TellsServer}
use Rattle.sb_backup.specs.Outputs.{Writes, WritesOf}
use Rattle.starhost.specs.declared.fault.ProgramFault.{ProgramFault}
use Rattle.starhost.specs.declared.fault.ProgramFault.TheVariants.{Backup, Journal}
use Rattle.sb_backup.specs.declared.error.BackupError.{BackupError}
use Rattle.sb_durable.specs.declared.journal_fault.JournalFault.{JournalFault}

-- the text answers an input on the tenants that a run begins with
abbrev pub AnswersFrom : Beginning → ℕ → Bound → List ℕ → List ℕ → Type 0
AnswersFrom fresh tenants bound input text = AnswersFresh tenants bound input text
AnswersFrom (folder path) tenants bound input text = AnswersLoaded tenants bound input text
AnswersFrom (journal path syncs) tenants bound input text = AnswersJournaled tenants bound input text

module _ {R W : Type 0} (remaining : R → Option (List ℕ)) (contents : W → Option (List ℕ)) (reader rest : R) (writer after : W) where
  -- with status 0 the writer has this, for all of the input where it is known
  abbrev pub Succeeds : Request → Type 0
  Succeeds (run r begins) = WritesOf remaining contents reader writer after (AnswersFrom begins r.tenants (bound_of r))
  Succeeds (serve s begins dump_to keys) = Writes contents writer after (TellsServer (bound_of s.hosting.run) s.hosting.run.tenants)
  Succeeds (replay h) = WritesOf remaining contents reader writer after (Replays h.run.tenants (bound_of h.run))
  Succeeds parse = WritesOf remaining contents reader writer after TellsLines
  Succeeds (dump d None) = WritesOf remaining contents reader writer after (DumpsInput d.run.tenants (bound_of d.run) d.tenant)
  Succeeds (dump d (Some into)) = (after ≡ writer) × IfSome (remaining reader) (HaveScripts d.run.tenants (bound_of d.run))
  Succeeds (compact r old new) = ⊤
  Succeeds (check path) = (line : List ℕ) × Appends (contents writer) (contents after) line
  Succeeds key = TellsDigest (remaining reader) (remaining rest) (contents writer) (contents after)

module _ {R W E : Type 0} (fails : R → Type 0) (remaining : R → Option (List ℕ)) (refuses : W → Type 0) (contents : W → Option (List ℕ))
    (denies : E → Type 0) (told : E → Option (List ℕ)) (reader rest : R) (writer after : W) (is_terminal : Bool) (errors more : E) (status : ℕ) where
  -- Of a run how its stream went. One on files may find some that it can't play, and one with a journal ends with a fault, too.
  abbrev pub GoesRun : ℕ → Bound → Beginning → Type 0
  GoesRun tenants bound fresh =
      (ended : Result (Unit {0}) StreamError) × (summary : Summary) × (status ≡ status_of ended)
      × GoesFresh fails remaining refuses contents tenants bound reader rest writer after ended summary
      × TellsRun denies told is_terminal errors more summary ended
  GoesRun tenants bound (folder path) =
      ((why : BackupError) × IsUnloaded tenants why × (status ≡ 1) × (rest ≡ reader) × (after ≡ writer) × TellsFault denies told errors more (Backup why))
      ⊎ ((ended : Result (Unit {0}) StreamError) × (summary : Summary) × (status ≡ status_of ended)
      × GoesLoaded fails remaining refuses contents tenants bound reader rest writer after ended summary
      × TellsRun denies told is_terminal errors more summary ended)
  GoesRun tenants bound (journal path syncs) =
      (ended : Result (Unit {0}) ProgramFault) × TellsEnd denies told errors more ended status
      × IfErr ended (λ why. (e : JournalFault) × (why ≡ Journal e) × EndsJournaled fails remaining contents reader rest writer after tenants bound e)

  -- Of a server, a replay or a dump the fault that it ended with, and why: of a server that is asked for by numbers alone. And how the stream of lines went
  -- of which it is told whether they are commands.
  abbrev pub Goes : Request → Type 0
  Goes (run r begins) = GoesRun r.tenants (bound_of r) begins
  Goes (serve s begins dump_to keys) =
      (ended : Result (Unit {0}) ProgramFault) × TellsEnd denies told errors more ended status × (rest ≡ reader)
      × (IsPlain s begins dump_to keys → IfErr ended (EndsEarly refuses contents (bound_of s.hosting.run) s.hosting.run.tenants s.first_tenant writer after))
  Goes (replay h) =
      (ended : Result (Unit {0}) ProgramFault) × TellsEnd denies told errors more ended status
      × IfErr ended (λ why. (e : ReplayError) × (why ≡ unplayed_as e) × Fails fails remaining refuses contents h.run.tenants (bound_of h.run) reader rest writer after e)
  Goes parse =
      (ended : Result (Unit {0}) StreamError) × (status ≡ status_of ended)
      × ParsesStream fails remaining reader rest (contents writer) (contents after) ended
      × OnWriteFault ended (MayFail refuses contents after)
      × Tells denies told errors more (line_of ended)
  Goes (dump d None) =
      (ended : Result (Unit {0}) ProgramFault) × TellsEnd denies told errors more ended status
      × IfErr ended (λ why. (e : BackupError) × (why ≡ Backup e) × IfSome (remaining reader) (λ input. RefusesDump d.run.tenants (bound_of d.run) d.tenant input e))
  Goes (dump d (Some into)) =
      (ended : Result (Unit {0}) ProgramFault) × TellsEnd denies told errors more ended status × (after ≡ writer)
      × IfErr ended (λ why. (e : BackupError) × (why ≡ Backup e) × IfSome (remaining reader) (λ input. RefusesDumps d.run.tenants (bound_of d.run) input e))
  Goes (compact r old new) = (ended : Result (Unit {0}) ProgramFault) × TellsEnd denies told errors more ended status × (rest ≡ reader) × (after ≡ writer)
  Goes (check path) = (ended : Result (Unit {0}) ProgramFault) × TellsEnd denies told errors more ended status × (rest ≡ reader)
  Goes key = (ended : Result (Unit {0}) ProgramFault) × TellsEnd denies told errors more ended status × IfErr ended RefusesDigest
