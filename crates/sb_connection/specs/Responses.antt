-- Machine: how a connection answers one line.
use Rattle.std.specs.Prelude.{◌≡◌, ◌⊎◌, ◌<◌, ℕ, Bool, true, false, List, [], ◌∷◌, ◌++◌, Option, Some, None, OnErr, OnOk, Result, Err, option_map}
use Rattle.sb_wire.specs.Lines.{Piece, line, too_long}
use Rattle.sb_wire.specs.Output.{ended_lines}
use Rattle.sb_wire.specs.Seen.{refusal_line}
use Rattle.sb_wire.specs.declared.refusal.WireRefusal.{WireRefusal}
use Rattle.sb_wire.specs.declared.refusal.WireRefusal.TheVariants as wire
use Rattle.sb_desk.specs.declared.desk.AttachError.{AttachError}
use Rattle.sb_desk.specs.Calls.{Attached, IsBehind, IsNumbered}
use Rattle.sb_tenant.specs.Limits.{session_count}
use Rattle.std.specs.Option.{option_map_or}
use Rattle.sb_connection.specs.Callers.{Caller, LeavesLast, Life, Stay, life_after}
use Rattle.sb_desk.specs.declared.stub.Stub.{Stub}
use Rattle.sb_connection.specs.Conversation.{Hosted, KeyHandshake, attach_lines, named_of, tenant_at, visitor_of, welcome}
use Rattle.sb_connection.specs.declared.first_line.SessionName.{SessionName}
use Rattle.sb_connection.specs.Policies.{Admits}
use Rattle.sb_connection.specs.Exchanges.{Exchange, line_in, said_text, transacts_behind}
use Rattle.sb_connection.specs.Exchanges as exchange

-- the session, once it is open; and whether the connection was turned away
abbrev pub State : Type 0
State = Option Life × Bool

-- a session's life, if there is one
abbrev pub life_in : Option Caller → Option Life
life_in caller = option_map (λ c. c.life) caller

-- with it
abbrev pub talk_of : Option Caller → Bool → State
talk_of caller away = (life_in caller, away)

abbrev pub is_over : Option Life → Bool → Bool
is_over None away = away
is_over (Some o) away = o.ended

abbrev pub over : State → Bool
over state = is_over state.0 state.1

-- an exchange moves a session on
abbrev pub Moves : Life → Exchange → Life → Type 0
Moves old exchange.overlong new = new ≡ old
Moves old (exchange.unbegun bytes) new = (old.ended ≡ false) × (new ≡ old)
Moves old (exchange.answered bytes answer has) new =
    (old.ended ≡ false) × IsNumbered answer × (new ≡ life_after old bytes answer new.has_transaction)
    × IsBehind old.tenant old.session bytes answer new.has_transaction

-- and tells whether the session has a transaction behind it
abbrev pub Exchanges : Life → Exchange → Life → Type 0
Exchanges old e new = Moves old e new × (new.has_transaction ≡ transacts_behind old.has_transaction e)

-- a session that was just opened
abbrev pub Opens : ℕ → ℕ → ℕ → Life → Type 0
Opens tenants t s o =
    (t < tenants) × (s < session_count)
    × (o ≡ record { tenant = t; session = s; calls = []; ended = false; has_transaction = false })

-- a first line opens a session, or the connection is turned away
abbrev pub GreetsNamed : Hosted → SessionName → List ℕ → Option Life → Bool → Type 0
GreetsNamed hosted named text None away = (away ≡ true) × (e : AttachError) × Attached hosted.tenants (tenant_at hosted named.tenant) named.session (Err e) × (text ≡ ended_lines (attach_lines e))
GreetsNamed hosted named text (Some o) away = Opens hosted.tenants (tenant_at hosted named.tenant) named.session o × (text ≡ welcome)

abbrev pub TurnsAwayBy : WireRefusal → List ℕ → Option Life → Bool → Type 0
TurnsAwayBy r text s away = (s ≡ None) × (away ≡ true) × (text ≡ ended_lines (refusal_line r ∷ []))

-- by what the line names
abbrev pub GreetsBy : Hosted → Option SessionName → List ℕ → Option Life → Bool → Type 0
GreetsBy hosted None text s away = TurnsAwayBy wire.BadLine text s away
GreetsBy hosted (Some named) text s away = GreetsNamed hosted named text s away

-- only whoever brings a key of the tenant
abbrev pub GreetsVisitor : Admits → Hosted → Option KeyHandshake → List ℕ → Option Life → Bool → Type 0
GreetsVisitor admits hosted None text s away = TurnsAwayBy wire.BadKey text s away
GreetsVisitor admits hosted (Some v) text s away =
    TurnsAwayBy wire.BadKey text s away ⊎ (admits v.named.tenant v.key × GreetsNamed hosted v.named text s away)

abbrev pub GreetsLine : Admits → Bool → Hosted → List ℕ → List ℕ → Option Life → Bool → Type 0
GreetsLine admits false hosted bytes text s away = GreetsBy hosted (named_of bytes) text s away
GreetsLine admits true hosted bytes text s away = GreetsVisitor admits hosted (visitor_of bytes) text s away

abbrev pub Greets : Admits → Hosted → Piece → List ℕ → Option Life → Bool → Type 0
Greets admits hosted too_long text s away = TurnsAwayBy wire.TooLong text s away
Greets admits hosted (line bytes) text s away = GreetsLine admits hosted.keyed hosted bytes text s away

-- the first line is greeted, and any other is an exchange of the session
abbrev pub RespondsBy : Admits → Hosted → Option Life → Piece → List ℕ → State → Type 0
RespondsBy admits hosted None p text new = Greets admits hosted p text new.0 new.1
RespondsBy admits hosted (Some s) p text new = (e : Exchange) × (after : Life) × (p ≡ line_in e) × (text ≡ said_text e) × Exchanges s e after × (new.0 ≡ Some after)

abbrev pub Responds : Admits → Hosted → State → Piece → List ℕ → State → Type 0
Responds admits hosted old p text new = RespondsBy admits hosted old.0 p text new

-- so does who knows the session, of which the line changes no volume
abbrev pub CallerState : Type 0
CallerState = Option Caller × Bool

abbrev pub stays_in : Option Caller → List Stay
stays_in caller = option_map_or (λ c. c.stays) caller []

abbrev pub waits_in : Option Caller → Bool
waits_in caller = option_map_or (λ c. c.waits) caller false

abbrev pub RespondsIn : Admits → Hosted → CallerState → Piece → List ℕ → CallerState → Type 0
RespondsIn admits hosted old p text new =
    Responds admits hosted (talk_of old.0 old.1) p text (talk_of new.0 new.1)
    × (stays_in new.0 ≡ stays_in old.0) × (waits_in new.0 ≡ waits_in old.0)

abbrev pub is_over_in : CallerState → Bool
is_over_in state = over (talk_of state.0 state.1)

-- such a text is written behind what there was, or nothing where memory runs out
abbrev pub WritesText : {T E : Type 0} → (List ℕ → Type 0) → List ℕ → Result T E → List ℕ → Type 0
WritesText Is old result new = (text : List ℕ) × Is text × OnOk result (new ≡ old ++ text) × OnErr result (new ≡ old)

-- a session is closed, if there is one
abbrev pub LeavesSome : Option Caller → Option Stub → Type 0
LeavesSome None stub = stub ≡ None
LeavesSome (Some c) stub = LeavesLast c stub
