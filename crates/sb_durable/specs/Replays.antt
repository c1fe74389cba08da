-- Promise: what playing records to a host leaves.
use Rattle.std.specs.Prelude.{◌≡◌, ◌⊎◌, ◌<◌, ◌+◌, ◌*◌, ℕ, zero, suc, true, false, List, [], ◌∷◌, ◌++◌, Option, Some, None, Vec, length, map, flat_map, sum_by, option_map, option_to_list, replicate, slice_get, slice_set, codes, ⊤}
use Rattle.std.specs.Global.{Global}
use Rattle.sb_backup.specs.Renewals.{Renewed}
use Rattle.sb_tenant.specs.Limits.{session_count}
use Rattle.sb_tenant.specs.Trail.{is_no_memory}
use Rattle.sb_tenant.specs.declared.reply.Answer.{Answer}
use Rattle.sb_desk.specs.Calls.{Session, after_call, shown}
use Rattle.sb_desk.specs.Receipts.{newcomer}
use Rattle.sb_desk.specs.Stubs.{LeavesStub}
use Rattle.sb_desk.specs.declared.stub.Stub.{Stub}
use Rattle.sb_durable.specs.Records.{Entry as Record}
use Rattle.sb_durable.specs.Recording.{first_reach, renewal_of, renewed}
use Rattle.sb_durable.specs.declared.recorded_reach.RecordedReach.{RecordedReach}
use Rattle.sb_durable.specs.declared.replay.PlayFault.{PlayFault}
use Rattle.sb_durable.specs.declared.replay.PlayFault.TheVariants as fault

-- one record after another
abbrev pub PlaysAll : {S : Type 0} → (S → Record → S → Type 0) → S → List Record → S → Type 0
PlaysAll plays old [] new = new ≡ old
PlaysAll {S} plays old (r ∷ rs) new = (mid : S) × plays old r mid × PlaysAll plays mid rs new

-- the sessions that are open, each at its place; what those that have ended left of each tenant's trail; and how far each tenant is played
pub record Playing : Type 0 where
  pub sessions : List (Option Session)
  pub stubs : List (List Stub)
  pub reaches : List RecordedReach

-- what a clause sees of sessions and stubs, by what it sees of each of them
abbrev pub playing_of : {S : Type 0} → (S → Session) → List (Option S) → List (Vec Stub Global) → List RecordedReach → Playing
playing_of seen sessions stubs reaches = record { sessions = map (option_map seen) sessions; stubs = map (λ own. own.items) stubs; reaches = reaches }

-- no session of these tenants was ever open
abbrev pub none_open : ℕ → Playing
none_open tenants = record { sessions = replicate (session_count * tenants) None; stubs = replicate tenants []; reaches = replicate tenants first_reach }

-- the element at this place is changed so
abbrev pub changed : {A : Type 0} → (A → A) → ℕ → List A → List A
changed change n [] = []
changed change zero (x ∷ xs) = change x ∷ xs
changed change (suc n) (x ∷ xs) = x ∷ changed change n xs

-- ---- one record

-- how many receipts stubs have
abbrev pub receipts_in : List Stub → ℕ
receipts_in stubs = sum_by (λ s. length s.receipts.items) stubs

-- a renewal that was asked for isn't done, or its receipts can't be counted
abbrev pub IsUnrenewed : PlayFault → Type 0
IsUnrenewed (fault.NotRenewed why) = Unit {0}
IsUnrenewed fault.TrailFull = Unit {0}
IsUnrenewed other = ⊥

-- where the session of a record stands among those of all tenants
abbrev pub place_of : Record → ℕ
place_of r = session_count * r.tenant + r.session

-- a session was called with a line, and the step that it made in full has this number
abbrev pub MakesStep : Session → List ℕ → ℕ → Session → Type 0
MakesStep old line number new =
    (answer : Answer) × (old.ended ≡ false) × (answer.number ≡ Some number) × (is_no_memory answer.reply ≡ false) × (new ≡ after_call old line answer new.has_transaction)

-- it is still open; or it has ended, and this is what it left
abbrev pub Stays : Session → Option Session → Option Stub → Type 0
Stays own still None = (own.ended ≡ false) × (still ≡ Some own)
Stays own still (Some stub) = (own.ended ≡ true) × (still ≡ None) × LeavesStub own stub

module _ (old : Playing) (r : Record) where
  -- of its tenant no session is open
  abbrev pub NoneIsOpen : Type 0
  NoneIsOpen = (s : ℕ) → s < session_count → slice_get old.sessions (session_count * r.tenant + s) ≡ Some None

  -- or one is
  abbrev pub SomeIsOpen : Type 0
  SomeIsOpen = (s : ℕ) × (s < session_count) × ((own : Session) × (slice_get old.sessions (session_count * r.tenant + s) ≡ Some (Some own)))

  -- why a record of no session isn't played: it is no renewal, a session is open, the tenant isn't renewed, or a count has no room
  abbrev pub RefusesRenewal : PlayFault → Type 0
  RefusesRenewal fault.NoSession = r ≡ renewal_of r.tenant → ⊥
  RefusesRenewal fault.NotClosed = (r ≡ renewal_of r.tenant) × SomeIsOpen
  RefusesRenewal (fault.NotRenewed why) = (r ≡ renewal_of r.tenant) × NoneIsOpen
  RefusesRenewal fault.TrailFull = (r ≡ renewal_of r.tenant) × NoneIsOpen
  RefusesRenewal other = ⊥

module _ (old : Playing) (r : Record) (new : Playing) where
  -- with these at the record's place, so many steps of its tenant's trail, and this behind what its others left
  abbrev pub Becomes : Option Session → ℕ → Option Stub → Type 0
  Becomes still number left = new ≡ record {
    sessions = slice_set old.sessions (place_of r) still;
    stubs = changed (λ own. own ++ option_to_list left) r.tenant old.stubs;
    reaches = changed (λ reach. record { volume = reach.volume; entries = number }) r.tenant old.reaches;
  }

  -- an `open` opened the session, and an abort of one that isn't open did nothing
  abbrev pub Begins : Type 0
  Begins =
      ((r.line ≡ codes "rollback") × (new ≡ old))
      ⊎ ((r.line ≡ codes "open") × ((number : ℕ) × Becomes (Some (shown (newcomer r.tenant r.session number))) number None))

  -- a session that is open was called with the line
  abbrev pub CallsOn : Session → Type 0
  CallsOn session =
      (own : Session) × (still : Option Session) × (left : Option Stub) × (number : ℕ)
      × MakesStep session r.line number own × Stays own still left × Becomes still number left

  abbrev pub PlaysBy : Option Session → Type 0
  PlaysBy None = Begins
  PlaysBy (Some session) = CallsOn session

  -- its line is one of its session
  abbrev pub PlaysStep : Type 0
  PlaysStep = (r.session < session_count) × ((found : Option Session) × (slice_get old.sessions (place_of r) ≡ Some found) × PlaysBy found)

  -- A tenant without an open session was renewed: one in a state that is alike, and not the same, took its place (`Renewed`). What its opening left is in the place of what its sessions had left, and it is played as far as the opening goes.
  abbrev pub PlaysRenewal : Type 0
  PlaysRenewal =
      (r ≡ renewal_of r.tenant) × NoneIsOpen old r
      × ((left opening : List Stub) × (slice_get old.stubs r.tenant ≡ Some left) × Renewed r.tenant left opening
      × (new ≡ record {
        sessions = old.sessions;
        stubs = slice_set old.stubs r.tenant opening;
        reaches = changed (λ reach. renewed reach (receipts_in opening)) r.tenant old.reaches;
      }))

  -- a record was played
  abbrev pub PlaysLine : Type 0
  PlaysLine = (r.tenant < length old.reaches) × (PlaysStep ⊎ PlaysRenewal)

-- ---- all of them

-- a session that is open is closed, and this is what it leaves
abbrev pub IsClosed : Option Session → Option Stub → Type 0
IsClosed None None = ⊤
IsClosed (Some session) (Some stub) = LeavesStub session stub
IsClosed None (Some stub) = ⊥
IsClosed (Some session) None = ⊥

-- so are all, one after another
abbrev pub AreClosed : List (Option Session) → List Stub → Type 0
AreClosed [] stubs = stubs ≡ []
AreClosed (session ∷ more) stubs =
    (left : Option Stub) × (others : List Stub) × (stubs ≡ option_to_list left ++ others) × IsClosed session left × AreClosed more others

-- Records were played one after another to a host with so many tenants. Its sessions, all of which are closed now, left these stubs of each tenant's newest trail. Before they were closed each tenant was played so far.
pub record LeavesPlayed (tenants : ℕ) (records : List Record) (stubs : List Stub) (reaches : List RecordedReach) : Type 0 where
  pub last : Playing
  pub plays : PlaysAll PlaysLine (none_open tenants) records last
  pub closed : List Stub
  pub are_closed : AreClosed last.sessions closed
  pub stubs_are : stubs ≡ flat_map (λ own. own) last.stubs ++ closed
  pub reaches_are : reaches ≡ last.reaches
