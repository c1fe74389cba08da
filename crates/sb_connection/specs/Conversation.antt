-- Promise: a connection: its first line names a session, and the lines behind that are its calls.
use Rattle.std.specs.Prelude.{◌≡◌, ◌⊎◌, ◌<◌, ◌-◌, nat_lt, if◌then◌else◌, ℕ, Bool, true, false, List, [], ◌∷◌, ◌++◌, map, flat_map, codes, Option, Some, None, option_and_then, option_map, Err, IfSome}
use Rattle.std.specs.Io.KnownBytes.{Appends, Consumes}
use Rattle.sb_value.specs.declared.refusal.Refusal.TheVariants as refusal
use Rattle.sb_tenant.specs.declared.reply.Reply.TheVariants as told
use Rattle.sb_tenant.specs.Limits.{session_count}
use Rattle.sb_wire.specs.Lines.{Addressed, Piece, addressed_of, line, too_long, number_before, number_of}
use Rattle.sb_wire.specs.Output.{ended_lines}
use Rattle.sb_wire.specs.ReplyText.{reply_lines}
use Rattle.sb_wire.specs.Responses.{StopsBy}
use Rattle.sb_wire.specs.Seen.{refusal_line}
use Rattle.sb_wire.specs.declared.refusal.WireRefusal.TheVariants as wire
use Rattle.sb_desk.specs.declared.desk.AttachError.{AttachError}
use Rattle.sb_desk.specs.declared.desk.AttachError.TheVariants as attach
use Rattle.sb_desk.specs.Calls.{Attached}
use Rattle.sb_desk.specs.declared.stub.Stub.{Stub}
use Rattle.sb_connection.specs.declared.first_line.SessionName.{SessionName}
use Rattle.sb_connection.specs.declared.serve.Served.{Served}
use Rattle.sb_connection.specs.Policies.{Admits, anyone}
use Rattle.sb_desk.specs.declared.receipts.Receipt.{Receipt}
use Rattle.sb_connection.specs.Exchanges.{AreCalls, AreVolumes, Exchange, has_ended, line_in, said_text}

-- ---- the tenants of a host, as lines name them

-- the number of the first one, and how many there are; and whether a first line brings a key
pub record Hosted : Type 0 where
  pub first : ℕ
  pub tenants : ℕ
  pub keyed : Bool

abbrev pub hosting_by : Bool → ℕ → ℕ → Hosted
hosting_by keyed first tenants = record { first = first; tenants = tenants; keyed = keyed }

-- without keys
abbrev pub hosting : ℕ → ℕ → Hosted
hosting first tenants = hosting_by false first tenants

-- which of them a number names, counted from the first one; a lower number is none of them
abbrev pub tenant_at : Hosted → ℕ → ℕ
tenant_at hosted t = if nat_lt t hosted.first then hosted.tenants else t - hosted.first

-- ---- the first line

-- a tenant and a session: two numbers and one space between them
abbrev pub named_of : List ℕ → Option SessionName
named_of bytes = option_and_then (λ t. option_map (λ s. record { tenant = t.0; session = s }) (number_of t.1)) (number_before bytes)

-- whom a line with a key names
pub record KeyHandshake : Type 0 where
  pub named : SessionName
  pub key : List ℕ

abbrev pub visitor_by : Option Addressed → Option KeyHandshake
visitor_by a = option_map (λ (a : Addressed). record { named = record { tenant = a.tenant; session = a.session }; key = a.command }) a

-- the two numbers, a space, and the key
abbrev pub visitor_of : List ℕ → Option KeyHandshake
visitor_of bytes = visitor_by (addressed_of bytes)

-- the session that a first line names, with a key where there are keys
abbrev pub named_in : Bool → List ℕ → Option SessionName
named_in false bytes = named_of bytes
named_in true bytes = option_map (λ (v : KeyHandshake). v.named) (visitor_of bytes)

abbrev pub named_by : Bool → Piece → Option SessionName
named_by keyed too_long = None
named_by keyed (line bytes) = named_in keyed bytes

-- a first line that brings a key
abbrev pub visitor_in : Piece → Option KeyHandshake
visitor_in too_long = None
visitor_in (line bytes) = visitor_of bytes

-- it brings a key that opens the tenant which it names
pub record IsAdmitted (admits : Admits) (first : Piece) : Type 0 where
  pub handshake : KeyHandshake
  pub is : visitor_in first ≡ Some handshake
  pub admitted : admits handshake.named.tenant handshake.key

-- why no session was opened
abbrev pub attach_lines : AttachError → List (List ℕ)
attach_lines attach.NoTenant = refusal_line wire.NoTenant ∷ []
attach_lines attach.NoSession = refusal_line wire.NoSession ∷ []
attach_lines attach.AlreadyOpen = reply_lines (told.No refusal.AlreadyOpen)
attach_lines attach.TrailFull = reply_lines (told.No refusal.TrailFull)
attach_lines attach.NotBegun = refusal_line wire.NotBegun ∷ []

-- by what the line names: nothing, or a session that isn't opened
abbrev pub TurnsAwayFrom : Hosted → Option SessionName → List (List ℕ) → Type 0
TurnsAwayFrom hosted None said = said ≡ refusal_line wire.BadLine ∷ []
TurnsAwayFrom hosted (Some n) said = (e : AttachError) × Attached hosted.tenants (tenant_at hosted n.tenant) n.session (Err e) × (said ≡ attach_lines e)

-- with keys: its key is none of the tenant's, or it has none; or the session isn't opened
abbrev pub TurnsAwayVisitor : Hosted → Option KeyHandshake → List (List ℕ) → Type 0
TurnsAwayVisitor hosted None said = said ≡ refusal_line wire.BadKey ∷ []
TurnsAwayVisitor hosted (Some v) said = (said ≡ refusal_line wire.BadKey ∷ []) ⊎ TurnsAwayFrom hosted (Some v.named) said

abbrev pub TurnsAwayLine : Bool → Hosted → List ℕ → List (List ℕ) → Type 0
TurnsAwayLine false hosted bytes said = TurnsAwayFrom hosted (named_of bytes) said
TurnsAwayLine true hosted bytes said = TurnsAwayVisitor hosted (visitor_of bytes) said

-- the line that answers a first line which opens no session
abbrev pub TurnsAway : Hosted → Piece → List (List ℕ) → Type 0
TurnsAway hosted too_long said = said ≡ refusal_line wire.TooLong ∷ []
TurnsAway hosted (line bytes) said = TurnsAwayLine hosted.keyed hosted bytes said

-- the answer to one that does
abbrev pub welcome : List ℕ
welcome = ended_lines (codes "ok" ∷ [])

-- ---- all lines

-- the last volume's receipts, if some are left there
abbrev pub receipts_in : Option Stub → List (List Receipt)
receipts_in None = []
receipts_in (Some stub) = stub.receipts.items ∷ []

-- The session that the first line names was opened, with keys to whoever brings one of its tenant's, called with the lines behind, and closed; it
-- is over where one of them ended it. It left receipts in each volume of its tenant's trail that was ended meanwhile, and in the last one.
pub record Serves (admits : Admits) (hosted : Hosted) (first : Piece) (behind : List Piece) (text : List ℕ) (left : List (List Receipt)) (stub : Option Stub) (over : Bool) : Type 0 where
  pub named : SessionName
  pub is_named : named_by hosted.keyed first ≡ Some named
  pub admitted : hosted.keyed ≡ true → IsAdmitted admits first
  pub within : (tenant_at hosted named.tenant < hosted.tenants) × (named.session < session_count)
  pub exchanges : List Exchange
  pub are_calls : AreCalls exchanges
  pub lines_are : behind ≡ map line_in exchanges
  pub text_is : text ≡ welcome ++ flat_map said_text exchanges
  pub stub_of : IfSome stub (λ s. (s.tenant ≡ tenant_at hosted named.tenant) × (s.session ≡ named.session))
  pub receipts : AreVolumes exchanges (left ++ receipts_in stub)
  pub over_is : over ≡ has_ended exchanges

-- the first line opened no session, and is the last
abbrev pub TurnsAwayAlone : Hosted → Piece → List Piece → List ℕ → Bool → Type 0
TurnsAwayAlone hosted first behind text over =
    (behind ≡ []) × ((said : List (List ℕ)) × TurnsAway hosted first said × (text ≡ ended_lines said)) × (over ≡ true)

-- no line came; or the first one opened no session; or it did
abbrev pub Talks : Admits → Hosted → List Piece → List ℕ → List (List Receipt) → Option Stub → Bool → Type 0
Talks admits hosted [] text left stub over = (text ≡ []) × (left ≡ []) × (stub ≡ None) × (over ≡ false)
Talks admits hosted (first ∷ behind) text left stub over =
    (TurnsAwayAlone hosted first behind text over × (left ≡ []) × (stub ≡ None)) ⊎ Serves admits hosted first behind text left stub over

-- What a connection does until it is closed: it reads some bytes and answers some lines, the writer took a first part of the text, and
-- the rest is left.
pub record Conversation (hosted : Hosted) (input held rest holds : Option (List ℕ)) (stub : Option Stub) : Type 0 where
  pub seen : List ℕ
  pub reads : Consumes input rest seen
  pub pieces : List Piece
  pub text : List ℕ
  pub over : Bool
  pub talks : Talks anyone hosted pieces text [] stub over
  pub written : List ℕ
  pub left : List ℕ
  pub whole : text ≡ written ++ left
  pub appends : Appends held holds written

-- that of a host without keys over a reader and a writer, and how it ends
abbrev pub ServesOne : {R : Type 0} → ℕ → (R → Type 0) → (R → Option (List ℕ)) → R → R → Option (List ℕ) → Option (List ℕ) → Served → Type 0
ServesOne tenants fails remaining before after held holds served =
    (c : Conversation (hosting 0 tenants) (remaining before) held (remaining after) holds served.stub)
    × StopsBy fails remaining after c.over c.seen c.pieces c.left served.ended
