-- Promise: a conversation in messages: a client names a tenant, brings a key where one is asked for, and then makes queries.
use Rattle.std.specs.Prelude.{◌≡◌, ◌⊎◌, ◌<◌, ◌==◌, ◌&&◌, if◌then◌else◌, ℕ, false, MatchBool, List, [], ◌∷◌, ◌++◌, length, map, codes, Option, Some, None}
use Rattle.sb_postgres.specs.declared.told.settings.TheConstants.{REPORTED}
use Rattle.sb_postgres.specs.declared.told.sqlstate.SqlState.{SqlState}
use Rattle.sb_postgres.specs.declared.told.sqlstate.SqlState.TheVariants as state
use Rattle.sb_postgres.specs.Answers.{Answered, AuthenticationCleartextPassword, AuthenticationOk, BackendKeyData, NegotiateProtocolVersion, ParameterStatus}
use Rattle.sb_postgres.specs.Lines.{Lines}
use Rattle.sb_postgres.specs.Messages.{Said}
use Rattle.sb_postgres.specs.Messages as messages
use Rattle.sb_postgres.specs.Startup.{Started, SslRequest, GssEncRequest, CancelRequest, Startup}
use Rattle.sb_postgres.specs.Statements.{HasLines}
use Rattle.sb_frontend.specs.declared.phase.Phase.TheVariants as phase
use Rattle.sb_frontend.specs.declared.start.OpenError.{OpenError}
use Rattle.sb_frontend.specs.Demands.{Demanded, End, Enter, Play, Synchronize, Nothing, Extend, Misplaced, demand_of}
use Rattle.sb_frontend.specs.Extended.{Binds, Closes, Describes, Executes, Parses, Synchronizes}
use Rattle.sb_frontend.specs.Outputs.{error_of, written}
use Rattle.sb_frontend.specs.Plays.{Queries, Spot}
use Rattle.sb_frontend.specs.Portals.{nothing_prepared}
pub use Rattle.sb_frontend.specs.Standings.{Part, Standing, at_start, has_in, in_phase, ready, status_of}
use Rattle.sb_frontend.specs.Starts.{AreInUse, RefusesAll, Source, options_of, session_count, state_of, tenant_of, text_of}

-- an error ends it
abbrev pub TurnsAway : SqlState → List ℕ → Part
TurnsAway why message old ms new = (ms ≡ error_of why message ∷ []) × (new ≡ in_phase phase.Over old)

-- ---- a session is opened

-- a session of a tenant that has made no call
abbrev pub fresh : ℕ → ℕ → Spot
fresh tenant number = record { tenant = tenant; number = number; exchanges = []; has = false; own = false }

abbrev pub seated : ℕ → ℕ → Standing
seated tenant number = record { phase = phase.Ready; spot = Some (fresh tenant number); work = nothing_prepared }

-- what a client is told of it
abbrev pub welcome : ℕ → Option Spot → List Answered
welcome number spot = AuthenticationOk ∷ (map (λ s. ParameterStatus s.0.now s.1.now) REPORTED ++ BackendKeyData number 0 ∷ ready spot ∷ [])

-- the least free session of a tenant, or it is told why none is opened
abbrev pub Opens : Source → ℕ → Part
Opens source tenant old ms new =
    ((n : ℕ) × (n < session_count) × AreInUse source tenant n × (new ≡ seated tenant n) × (ms ≡ welcome n (Some (fresh tenant n))))
    ⊎ ((error : OpenError) × RefusesAll source tenant error × TurnsAway (state_of error) (text_of error) old ms new)

abbrev pub no_tenant_text : List ℕ
no_tenant_text = codes "the database does not exist"

-- of the tenant that is named
abbrev pub OpensNamed : Source → Option ℕ → Part
OpensNamed source None old ms new = TurnsAway state.InvalidCatalogName no_tenant_text old ms new
OpensNamed source (Some tenant) old ms new = Opens source tenant old ms new

abbrev pub AsksKey : Option ℕ → Part
AsksKey tenant old ms new = (ms ≡ AuthenticationCleartextPassword ∷ []) × (new ≡ in_phase (phase.AskingKey tenant) old)

-- at once, or a key is asked for first
abbrev pub Starts : Source → Option ℕ → Part
Starts source tenant old ms new = MatchBool source.keyed (AsksKey tenant old ms new) (OpensNamed source tenant old ms new)

abbrev pub wrong_key_text : List ℕ
wrong_key_text = codes "password authentication failed"

abbrev pub RefusesKey : Part
RefusesKey old ms new = TurnsAway state.InvalidPassword wrong_key_text old ms new

-- for whom its key lets in; nothing is told of the tenant to others
abbrev pub Enters : Source → Option ℕ → List ℕ → Part
Enters source None key old ms new = RefusesKey old ms new
Enters source (Some tenant) key old ms new = (source.admits tenant key × Opens source tenant old ms new) ⊎ RefusesKey old ms new

-- ---- the first packets

-- the newest minor version that is spoken, and the options that aren't known, where others are asked for
abbrev pub negotiated : ℕ → List (List ℕ) → List Answered
negotiated minor options = if minor == 0 && length options == 0 then [] else NegotiateProtocolVersion 0 options ∷ []

-- encryption isn't spoken, and a statement can't be cancelled
abbrev pub AnswersPacket : Source → Started → Standing → List ℕ → Standing → Type 0
AnswersPacket source SslRequest old text new = (text ≡ codes "N") × (new ≡ old)
AnswersPacket source GssEncRequest old text new = (text ≡ codes "N") × (new ≡ old)
AnswersPacket source (CancelRequest process key) old text new = (text ≡ []) × (new ≡ in_phase phase.Over old)
AnswersPacket source (Startup minor parameters) old text new =
    (ms : List Answered) × Starts source (tenant_of parameters) old ms new × (text ≡ written (negotiated minor (options_of parameters) ++ ms))

-- ---- messages

-- the statements of a text are played, and then the next query may come; without a session nothing is
abbrev pub PlaysIn : List ℕ → Option Spot → List Answered → Option Spot → Type 0
PlaysIn text None ms new = (ms ≡ []) × (new ≡ None)
PlaysIn text (Some old) ms new =
    (spot : Spot) × (told : List Answered) × (ls : Lines) × HasLines 0 text ls × Queries ls old told spot × (new ≡ Some spot) × (ms ≡ told ++ ready (Some spot) ∷ [])

abbrev pub PlaysHere : List ℕ → Part
PlaysHere text old ms new = (new.phase ≡ old.phase) × (new.work ≡ old.work) × PlaysIn text old.spot ms new.spot

abbrev pub misplaced_text : List ℕ
misplaced_text = codes "this message is not expected here"

-- a message of the extended query
abbrev pub ExtendsBy : Said → Part
ExtendsBy (messages.Parse name text types) old ms new = Parses name text types old ms new
ExtendsBy (messages.Bind portal statement formats values results) old ms new = Binds portal statement formats values results old ms new
ExtendsBy (messages.Describe t name) old ms new = Describes t name old ms new
ExtendsBy (messages.Execute portal rows) old ms new = Executes portal rows old ms new
ExtendsBy (messages.Close t name) old ms new = Closes t name old ms new
ExtendsBy m old ms new = TurnsAway state.ProtocolViolation misplaced_text old ms new

abbrev pub Meets : Source → Demanded → Part
Meets source End old ms new = (ms ≡ []) × (new ≡ in_phase phase.Over old)
Meets source (Enter tenant key) old ms new = Enters source tenant key old ms new
Meets source (Play text) old ms new = PlaysHere text old ms new
Meets source Synchronize old ms new = Synchronizes old ms new
Meets source Nothing old ms new = (ms ≡ []) × (new ≡ old)
Meets source (Extend m) old ms new = ExtendsBy m old ms new
Meets source Misplaced old ms new = TurnsAway state.ProtocolViolation misplaced_text old ms new

abbrev pub AnswersMessage : Source → Said → Part
AnswersMessage source m old ms new = Meets source (demand_of old.phase m) old ms new
