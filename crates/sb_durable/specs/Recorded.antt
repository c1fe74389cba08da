-- Machine: one line of a run that is recorded.
use Rattle.std.specs.Prelude.{◌≡◌, ◌⊎◌, ℕ, List, [], ◌∷◌, ◌++◌, Option, Some, None, Result, is_some, true, false}
use Rattle.std.specs.Borrow.{Bor}
use Rattle.sqlite_disk.specs.declared.Disk.{Ghosts}
use Rattle.sb_durable.specs.Journal.{Has, Keeps, disk_of}
use Rattle.sb_durable.specs.Records.{Entry as Record}
use Rattle.sb_durable.specs.declared.journal_header.Head.{Head}
use Rattle.sb_durable.specs.declared.journal.Journal.{Journal}
use Rattle.sb_tenant.specs.declared.reply.Answer.{Answer}
use Rattle.sb_cell.specs.declared.Event.{Event}
use Rattle.sb_cell.specs.declared.StepError.{StepError}
use Rattle.sb_cell.specs.Tenants.{Cell, AnswersEvent, IsSame}
use Rattle.sb_wire.specs.Counts.{Response, step_reply, response_text}
use Rattle.sb_wire.specs.Lines.{Addressed, Piece}
use Rattle.sb_durable.specs.Restart.{AreRecords}
use Rattle.sb_durable.specs.Runs.{IsResponse, Step, records_of, step_of}
use Rattle.sb_durable.specs.declared.run.Recording.{Recording}

-- the step is made, or there is none
abbrev pub Makes : Option Step → Cell → Cell → Type 0
Makes None old new = new ≡ old
Makes (Some step) old new = AnswersEvent old step.0.tenant step.0.session step.0.line step.1 new

abbrev pub records_by : Option Step → List Record
records_by None = []
records_by (Some step) = records_of step

-- the bytes that are recorded of a step are these
abbrev pub IsRecordedAs : Event → Result Answer StepError → Option (Bor (List ℕ)) → Type 0
IsRecordedAs e given None = records_of (e, given) ≡ []
IsRecordedAs e given (Some text) = records_of (e, given) ≡ record { tenant = e.tenant; session = e.session; line = text.now } ∷ []

module _ {D : Type 0} {g : Ghosts D} (seen : D → List ℕ) (may_leave : D → List ℕ → Type 0) where
  -- these records are on the disk behind those that were there
  abbrev pub Adds : Journal D g → List Record → Journal D g → Type 0
  Adds old more new = (head : Head) (records : List Record) → Has seen may_leave old head records [] → AreRecords more × Has seen may_leave new head (records ++ more) []

  -- a crash leaves what was there, or that with these
  abbrev pub MayAdd : Journal D g → List Record → Journal D g → Type 0
  MayAdd old more new =
      (head : Head) (records : List Record) → Has seen may_leave old head records [] → (file : List ℕ) → may_leave (disk_of new) file → Keeps head records file ⊎ (AreRecords more × Keeps head (records ++ more) file)

  -- the text is the response, and its step is on the disk
  pub record Answers (old : Cell × Recording D g) (response : Response) (text : List ℕ) (new : Cell × Recording D g) : Type 0 where
    pub told : text ≡ response_text response
    pub makes : Makes (step_of response) old.0 new.0
    pub adds : Adds old.1.journal (records_by (step_of response)) new.1.journal
    pub goes : is_some new.1.fault ≡ false

  -- there is no text, since a step couldn't be recorded
  pub record Fails (old : Cell × Recording D g) (text : List ℕ) (new : Cell × Recording D g) : Type 0 where
    pub step : Step
    pub untold : text ≡ []
    pub makes : Makes (Some step) old.0 new.0
    pub may_add : MayAdd old.1.journal (records_of step) new.1.journal
    pub stops : is_some new.1.fault ≡ true

  -- a line is responded to, or its step fails
  abbrev pub Responds : Cell × Recording D g → Piece → List ℕ → Cell × Recording D g → Type 0
  Responds old piece text new = IsSame old.0 new.0 × (((response : Response) × IsResponse piece response × Answers old response text new) ⊎ Fails old text new)

  -- so is a line with numbers
  abbrev pub RespondsTo : Cell × Recording D g → Addressed → List ℕ → Cell × Recording D g → Type 0
  RespondsTo old own text new = IsSame old.0 new.0 × (((given : Result Answer StepError) × Answers old (step_reply own given) text new) ⊎ Fails old text new)
