-- Promise: how the lines of a file are played.
use Rattle.std.specs.Prelude.{◌≡◌, ◌⊎◌, ◌==◌, ℕ, Bool, true, false, List, [], ◌∷◌, map, Option, None, Some, option_map, IfSome, Result, Ok, Err, IsFalse, ⊤}
use Rattle.sb_tenant.specs.declared.bound.Bound.{Bound}
use Rattle.sb_cell.specs.declared.StepError.{StepError}
use Rattle.sb_cell.specs.Tenants.{AnswersEvent, Cell as ItsCell, IsSame, states, tenant_at}
use Rattle.sb_dump.specs.Dumps.{as_session, whole_session}
use Rattle.sb_tenant.specs.State.{Session, State, has_transaction, is_open, session_at}
use Rattle.sb_tenant.specs.Step.{step}
use Rattle.sb_tenant.specs.Tenant.{Tenant as ItsTenant, state}
use Rattle.sb_tenant.specs.Trail.{state_after}
use Rattle.sb_tenant.specs.declared.reply.Answer.{Answer}
use Rattle.sb_tenant.specs.declared.reply.Reply.{Reply}
use Rattle.sb_tenant.specs.declared.reply.Reply.TheVariants as reply
use Rattle.sb_wire.specs.Lines.{Piece, line, too_long, pieces_of}
use Rattle.sb_backup.specs.declared.line_player.LoadProgress.{LoadProgress}
use Rattle.sb_backup.specs.declared.cell_loader.Unplayed.{Unplayed}
use Rattle.sb_backup.specs.declared.cell_loader.Unplayed.TheVariants as unplayed

-- a reply to a line of a script: nothing was refused, and no rule was considered
abbrev pub IsTaken : Reply → Type 0
IsTaken reply.Ok = Unit {0}
IsTaken (reply.Count n) = Unit {0}
IsTaken (reply.Done trace) = trace ≡ []
IsTaken other = ⊥

-- no such reply
abbrev pub IsUntaken : Result Answer StepError → Type 0
IsUntaken (Ok answer) = IsTaken answer.reply → ⊥
IsUntaken (Err why) = ⊤

-- A script may end where its session is open and has no transaction, and nowhere else; then this is why it may not.
abbrev pub MayEnd : Session → Option Unplayed → Type 0
MayEnd session None = (is_open session ≡ true) × (has_transaction session ≡ false)
MayEnd session (Some unplayed.InTransaction) = has_transaction session ≡ true
MayEnd session (Some unplayed.Ended) = is_open session ≡ false
MayEnd session (Some why) = ⊥

-- a tenant's script may end where its first session stands in the cell
abbrev pub IsSettled : ℕ → ItsCell → Type 0
IsSettled t cell = (own : ItsTenant) × (tenant_at cell t ≡ Some own) × MayEnd (session_at (state own) 0) None

-- or the cell has no such tenant, or this is why it may not
abbrev pub IsUnsettled : ℕ → ItsCell → Unplayed → Type 0
IsUnsettled t cell why =
    ((tenant_at cell t ≡ None) × (why ≡ unplayed.NoSession))
    ⊎ ((own : ItsTenant) × (tenant_at cell t ≡ Some own) × MayEnd (session_at (state own) 0) (Some why))

-- lines of a tenant's first session, one after another, each of which has such a reply
abbrev pub AreTaken : ℕ → Bound → State → List (List ℕ) → Type 0
AreTaken t bound state [] = ⊤
AreTaken t bound state (own ∷ more) = let r = step t bound state 0 own in IsTaken r.1.reply × AreTaken t bound r.0 more

-- a tenant's first session was sent the lines, each was a step and taken, and no other tenant was sent any
pub record Sends (t : ℕ) (lines : List (List ℕ)) (old new : ItsCell) : Type 0 where
  pub sent : states new t ≡ state_after t old.bound (states old t) (as_session 0 lines)
  pub taken : AreTaken t old.bound (states old t) lines
  pub others : (u : ℕ) → IsFalse (u == t) → states new u ≡ states old u
  pub same : IsSame old new

-- a file whose bytes are known has these lines, none of which is too long
abbrev pub HasLines : Option (List ℕ) → List (List ℕ) → Type 0
HasLines file lines = IfSome file (λ bytes. pieces_of bytes ≡ map line lines)

-- a tenant's first session was opened, sent the lines of a file, and ended
abbrev pub IsPlayed : ℕ → Option (List ℕ) → ItsCell → ItsCell → Type 0
IsPlayed t file old new = (lines : List (List ℕ)) × HasLines file lines × Sends t (whole_session lines) old new

-- What may be known of a tenant's file: whether it has one, and its bytes. What is found of a known one is just that.
abbrev pub IsFound : Option (Option (List ℕ)) → Option (Option (List ℕ)) → Type 0
IsFound None found = ⊤
IsFound (Some file) found = found ≡ option_map Some file

-- it may have none
abbrev pub MayLack : Option (Option (List ℕ)) → Type 0
MayLack None = ⊤
MayLack (Some None) = ⊤
MayLack (Some (Some bytes)) = ⊥

-- it may have one with these lines
abbrev pub MayHave : Option (Option (List ℕ)) → List (List ℕ) → Type 0
MayHave None lines = ⊤
MayHave (Some None) lines = ⊥
MayHave (Some (Some bytes)) lines = HasLines (Some bytes) lines

-- by what is known of its file: a whole session with the file's lines, or nothing where there may be none
abbrev pub IsStarted : ℕ → Option (Option (List ℕ)) → ItsCell → ItsCell → Type 0
IsStarted t known old new =
    ((new ≡ old) × MayLack known) ⊎ ((lines : List (List ℕ)) × MayHave known lines × Sends t (whole_session lines) old new)

-- a line of the first session is answered as a script's line is
abbrev pub TakesLine : ℕ → ItsCell → List ℕ → ItsCell → Type 0
TakesLine t old own new = (answer : Answer) × IsTaken answer.reply × AnswersEvent old t 0 own (Ok answer) new

-- or otherwise
abbrev pub RefusesLine : ℕ → ItsCell → List ℕ → ItsCell → Type 0
RefusesLine t old own new = (given : Result Answer StepError) × IsUntaken given × AnswersEvent old t 0 own given new

-- lines are sent to something, by what one leaves that is taken or refused
module _ {S : Type 0} (takes refuses : S → List ℕ → S → Type 0) where
  -- a line of a file is sent, and is a bad one where it is refused. One that is too long is bad, too, and isn't sent
  abbrev pub PlaysBy : Bool → S → Piece → S → Type 0
  PlaysBy false old (line own) new = takes old own new
  PlaysBy false old too_long new = ⊥
  PlaysBy true old (line own) new = refuses old own new
  PlaysBy true old too_long new = new ≡ old

  -- so it is by a player, which answers nothing
  abbrev pub Plays : S × LoadProgress → Piece → List ℕ → S × LoadProgress → Type 0
  Plays old piece text new = (text ≡ []) × PlaysBy new.1.is_bad old.0 piece new.0

-- lines are taken, one after another
abbrev pub TakesEach : {S : Type 0} → (S → List ℕ → S → Type 0) → List (List ℕ) → S → S → Type 0
TakesEach takes [] old new = new ≡ old
TakesEach {S} takes (own ∷ more) old new = (mid : S) × takes old own mid × TakesEach takes more mid new
