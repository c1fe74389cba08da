-- Machine: records that are played to a cell, and sessions that are ended behind them.
use Rattle.std.specs.Prelude.{◌≡◌, ◌⊎◌, ◌==◌, ℕ, List, [], ◌∷◌, Result, IsFalse}
use Rattle.sqlite_disk.specs.declared.Disk.{Ghosts}
use Rattle.sb_durable.specs.Records.{Entry as Record}
use Rattle.sb_durable.specs.declared.journal_header.Head.{Head}
use Rattle.sb_tenant.specs.declared.reply.Answer.{Answer}
use Rattle.sb_cell.specs.declared.StepError.{StepError}
use Rattle.sb_cell.specs.Tenants.{Cell, AnswersEvent, IsSame, states}
use Rattle.sb_durable.specs.Recording.{renewal_of}
use Rattle.sb_durable.specs.Restart.{Tells, ended}
use Rattle.sb_durable.specs.Runs.{records_of}
use Rattle.sb_durable.specs.declared.run.Recording.{Recording}

-- a step was made of it that is recorded as it is
abbrev pub PlaysStep : Cell → Record → Cell → Type 0
PlaysStep old r new =
    IsSame old new × (given : Result Answer StepError) × AnswersEvent old r.tenant r.session r.line given new
    × (records_of (record { tenant = r.tenant; session = r.session; line = r.line }, given) ≡ r ∷ [])

-- a renewal changes nothing: the tenant goes on in the trail that it has
abbrev pub PassesRenewal : Cell → Record → Cell → Type 0
PassesRenewal old r new = (r ≡ renewal_of r.tenant) × (new ≡ old)

abbrev pub PlaysRecord : Cell → Record → Cell → Type 0
PlaysRecord old r new = PlaysStep old r new ⊎ PassesRenewal old r new

-- the sessions of a tenant that were open are ended, and the others' are as they were
abbrev pub EndsSessions : ℕ → Cell → Cell → Type 0
EndsSessions t old new = (states new t ≡ ended old.bound t (states old t)) × ((u : ℕ) → IsFalse (u == t) → states new u ≡ states old u) × IsSame old new

-- the journal still tells what the cell's tenants are
abbrev pub KeepsUp : {D : Type 0} {g : Ghosts D} → (D → List ℕ) → (D → List ℕ → Type 0) → Cell × Recording D g → Cell × Recording D g → Type 0
KeepsUp seen may_leave old new = (head : Head) → Tells seen may_leave old.1.journal head old.0 → Tells seen may_leave new.1.journal head new.0
