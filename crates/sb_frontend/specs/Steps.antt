-- Machine: one step of a connection.
use Rattle.std.specs.Prelude.{◌≡◌, ◌<◌, Bool, true, false, if◌then◌else◌, List, [], length}
use Rattle.sb_postgres.specs.declared.told.sqlstate.SqlState.TheVariants as state
use Rattle.sb_postgres.specs.Answers.{Answered}
use Rattle.sb_frontend.specs.declared.phase.Phase.TheVariants as phase
use Rattle.sb_frontend.specs.Conversations.{TurnsAway, in_phase}
use Rattle.sb_frontend.specs.Dialogues.{Answers, Dialogue, IsSettled, SameStreams, unreadable_text}
use Rattle.sb_frontend.specs.Outputs.{Extends}
use Rattle.sb_frontend.specs.Starts.{Source}

-- it ends with an error, and nothing is left of what came
abbrev pub Violates : Dialogue → Dialogue → Type 0
Violates old new =
    (ms : List Answered) × TurnsAway state.ProtocolViolation unreadable_text old.at ms new.at × Extends ms old.out new.out × (new.waiting ≡ [])
    × SameStreams old new

-- it is over where the client sends no more
abbrev pub after_cut : Dialogue → Dialogue
after_cut d = if d.at_end then record d { at = in_phase phase.Over d.at; waiting = [] } else d

-- some of what came is answered; where there may be more, bytes were
pub record Steps (source : Source) (old : Dialogue) (more : Bool) (new : Dialogue) : Type 0 where
  pub answers : Answers source old new
  pub settles : more ≡ false → IsSettled new
  pub goes : more ≡ true → length new.waiting < length old.waiting
