-- Machine: what holds of a connection between its steps.
use Rattle.std.specs.Option.{option_map_or}
use Rattle.std.specs.Prelude.{◌≡◌, ◌⊎◌, ◌<◌, ◌≤◌, ◌+◌, ⊤, ℕ, Bool, true, false, not, ◌&&◌, List, [], ◌∷◌, ◌++◌, length, map, flat_map, Option, Some, None, is_some}
use Rattle.sb_wire.specs.Lines.{Piece, last_piece, open_line, piece_of}
use Rattle.sb_wire.specs.Responses.{AreAnswered}
use Rattle.sb_connection.specs.declared.state.State.TheVariants.{Open, Answered, Over, Failed}
use Rattle.sb_connection.specs.declared.state.State as stands
use Rattle.sb_connection.specs.History.{History, IsSettled, SameStreams, Tells, after_resuming, after_suspending}
use Rattle.sb_connection.specs.Conversation.{Hosted, named_by, welcome}
use Rattle.sb_connection.specs.Policies.{Admits}
use Rattle.sb_desk.specs.declared.receipts.Receipt.{Receipt}
use Rattle.sb_desk.specs.Calls.{Session}
use Rattle.sb_desk.specs.declared.stub.Stub.{Stub}
use Rattle.sb_connection.specs.Callers.{Caller, IsNewcomer, Life, Stay, Suspends, calls_of, opening_receipt}
use Rattle.sb_connection.specs.Exchanges.{AreWithin, Exchange, closing_receipts, line_in, said_text, transacts_from}
use Rattle.sb_connection.specs.Responses.{Responds, State, life_in, over, stays_in, talk_of, waits_in}
use Rattle.sb_connection.specs.declared.first_line.SessionName.{SessionName}
use Rattle.sb_connection.specs.Admission.{LetsIn}

-- its history, the line that stands open, its session, and whether it was turned away
pub record Talking : Type 0 where
  pub history : History
  pub opened : Piece
  pub caller : Option Caller
  pub away : Bool

-- the session's life, if it has one
abbrev pub talk : Talking → State
talk k = talk_of k.caller k.away

-- what it left of volumes
abbrev pub stays : Talking → List Stay
stays k = stays_in k.caller

-- it waits for the next one
abbrev pub waits : Talking → Bool
waits k = waits_in k.caller

-- what the first of these lines names
abbrev pub named_first : Bool → List Piece → Option SessionName
named_first keyed [] = None
named_first keyed (p ∷ ps) = named_by keyed p

-- the session left the volume behind the calls before and these, whose receipts it left there
pub record LeavesBehind (before : List Receipt) (mid : State) (stay : Stay) : Type 0 where
  pub life : Life
  pub is : mid.0 ≡ Some life
  pub ended : life.ended ≡ stay.1
  pub calls : life.calls ≡ before ++ calls_of stay
  pub opening : ℕ
  pub closing : ℕ
  pub receipts : stay.0 ≡ opening_receipt opening ∷ (calls_of stay ++ closing_receipts stay.1 closing)

-- these lines are answered so; none, where the session waits for a volume
abbrev pub AreSaid : Admits → Hosted → State → List Piece → List ℕ → State → Type 0
AreSaid admits hosted old pieces text new = AreAnswered (Responds admits hosted) over old pieces text new

abbrev pub AreSaidNow : Admits → Hosted → Bool → State → List Piece → List ℕ → State → Type 0
AreSaidNow admits hosted true old pieces text new = (pieces ≡ []) × (text ≡ []) × (new ≡ old)
AreSaidNow admits hosted false old pieces text new = AreSaid admits hosted old pieces text new

-- The lines are answered, some in each volume that was ended, behind calls whose receipts stand in others, and the rest in the one that goes on,
-- unless the session waits for it. It is the last volume for a session that has ended.
abbrev pub AreTold : Admits → Hosted → Bool → List Receipt → State → List Stay → List Piece → List ℕ → State → Type 0
AreTold admits hosted waiting before old [] pieces text new = AreSaidNow admits hosted waiting old pieces text new
AreTold admits hosted waiting before old (stay ∷ more) pieces text new =
    (now behind : List Piece) × (said rest : List ℕ) × (mid : State) × (pieces ≡ now ++ behind) × (text ≡ said ++ rest)
    × AreSaid admits hosted old now said mid × LeavesBehind before mid stay × (stay.1 ≡ true → (more ≡ []) × (waiting ≡ true))
    × AreTold admits hosted waiting (before ++ calls_of stay) mid more behind rest new

-- ---- what binds

-- whether the session has a transaction, if there is one
abbrev pub has_in : Option Caller → Bool
has_in caller = option_map_or (λ c. c.life.has_transaction) caller false

-- behind a reply all that is to be sent binds, unless the session has a transaction
abbrev pub binding_after : Bool → ℕ → ℕ → ℕ
binding_after true old all = old
binding_after false old all = all

-- behind the replies to these lines
abbrev pub binding_behind : List Piece → Bool → ℕ → ℕ → ℕ
binding_behind [] has old all = old
binding_behind (p ∷ ps) has old all = binding_after has old all

-- the exchanges so far: those behind what was sent, binds or is lost leave the session in a transaction
pub record IsWithin (has : Bool) (pieces : List Piece) (text lost handed : List ℕ) (binding : ℕ) : Type 0 where
  pub first : Piece
  pub before : List Exchange
  pub behind : List Exchange
  pub lines_are : pieces ≡ first ∷ map line_in (before ++ behind)
  pub text_is : text ≡ welcome ++ flat_map said_text (before ++ behind)
  pub has_is : has ≡ transacts_from false (before ++ behind)
  pub within : AreWithin (transacts_from false before) behind
  pub sent : length (welcome ++ flat_map said_text before) ≤ (length handed + binding) + length lost

-- of a session that was opened
abbrev pub IsWithinBy : Option Life → List Piece → List ℕ → List ℕ → List ℕ → ℕ → Type 0
IsWithinBy None pieces text lost handed binding = ⊤
IsWithinBy (Some life) pieces text lost handed binding = IsWithin life.has_transaction pieces text lost handed binding

-- ---- a connection between its steps

-- the session answered the lines of the bytes that are looked at, and goes on behind them
pub record Holds (admits : Admits) (k : Talking) : Type 0 where
  pub pieces : List Piece
  pub text : List ℕ
  pub tells : Tells k.history pieces text (over (talk k))
  pub is_open : k.opened ≡ piece_of (open_line tells.taken)
  pub attached : k.history.attached ≡ (is_some k.caller && not (waits k))
  pub waiting : k.history.waits ≡ waits k
  pub left : k.history.left ≡ map (λ stay. stay.0) (stays k)
  pub told : AreTold admits k.history.hosted (waits k) [] (None, false) (stays k) pieces text (talk k)
  pub named : k.history.named ≡ named_first k.history.hosted.keyed pieces
  pub within : IsWithinBy (life_in k.caller) pieces text tells.lost k.history.handed k.history.binding
  pub few : k.history.binding ≤ length k.history.pending

-- A step keeps what holds, and receives and sends nothing. It opens a session only to whom it may, and loses none; where there may be more, it
-- took bytes.
pub record Steps (admits : Admits) (old : Talking) (more : Bool) (new : Talking) : Type 0 where
  pub holds : Holds admits old → Holds admits new
  pub lets : Holds admits old → LetsIn admits old.history new.history
  pub stays : Holds admits old → old.history.attached ≡ true → new.history.attached ≡ true
  pub goes : Holds admits old → more ≡ true → length new.history.waiting < length old.history.waiting
  pub streams : SameStreams old.history new.history
  pub settles : more ≡ false → IsSettled new.history

-- ---- volumes

-- its session leaves a volume
pub record SuspendsIn (old : Talking) (stub : Stub) (new : Talking) : Type 0 where
  pub before : Caller
  pub after : Caller
  pub was : old.caller ≡ Some before
  pub suspends : Suspends before stub after
  pub is : new ≡ record old { history = after_suspending old.history stub.receipts.items; caller = Some after }

-- a session that waits is in the next one; there is none, or it doesn't wait, or it has ended: then nothing changes
abbrev pub ResumesIn : Talking → Talking → Type 0
ResumesIn old new =
    ((new ≡ old) × ((waits old ≡ false) ⊎ (over (talk old) ≡ true)))
    ⊎ ((before : Caller) × (s : Session) × (old.caller ≡ Some before) × (before.waits ≡ true) × (before.life.ended ≡ false)
    × IsNewcomer before.life.tenant before.life.session s
    × (new ≡ record old { history = after_resuming old.history; caller = Some (record before { list = s.list; waits = false; last = s.last }) }))

-- ---- one line

-- before a session is opened, what the first of these lines names, if there is one
abbrev pub named_anew : Bool → Option SessionName → List Piece → Option SessionName
named_anew keyed named [] = named
named_anew keyed named (p ∷ ps) = named_by keyed p

-- a session keeps its name
abbrev pub named_after : Option Caller → Bool → Option SessionName → List Piece → Option SessionName
named_after None keyed named ps = named_anew keyed named ps
named_after (Some o) keyed named ps = named

-- the open line is the first one, unless a session is open
abbrev pub naming : Talking → Talking
naming k = record k { history = record k.history { named = named_after k.caller k.history.hosted.keyed k.history.named (k.opened ∷ []) } }

-- the text is to be sent behind the rest, unless memory ran out
abbrev pub Adds : stands.State → List ℕ → List ℕ → List ℕ → Bool → Type 0
Adds Open old text new is_over = (new ≡ old ++ text) × (is_over ≡ false)
Adds Answered old text new is_over = ⊥
Adds Over old text new is_over = (new ≡ old ++ text) × (is_over ≡ true)
Adds Failed old text new is_over = new ≡ old

-- it has the name that these lines give it
abbrev pub IsNamedBy : Talking → List Piece → Talking → Type 0
IsNamedBy old ps new = new.history.named ≡ named_after old.caller old.history.hosted.keyed old.history.named ps

-- the open line is answered, and all else stays
pub record Answers (admits : Admits) (old new : Talking) : Type 0 where
  pub text : List ℕ
  pub responds : Responds admits old.history.hosted (talk old) old.opened text (talk new)
  pub adds : Adds new.history.state old.history.pending text new.history.pending (over (talk new))
  pub binds : new.history.binding ≡ binding_after (has_in new.caller) old.history.binding (length new.history.pending)
  pub attached : new.history.attached ≡ (is_some new.caller && not (waits new))
  pub stays_are : stays new ≡ stays old
  pub waits_are : waits new ≡ waits old
  pub streams : SameStreams old.history new.history
  pub waiting : new.history.waiting ≡ old.history.waiting
  pub opened : new.opened ≡ old.opened

-- no line is answered any more: all are, unless memory ran out
abbrev pub last_state : stands.State → stands.State
last_state Failed = Failed
last_state other = Answered

abbrev pub ended : Talking → Talking
ended k = record k { history = record k.history { state = last_state k.history.state } }

-- as the lines are answered that there are: one or none
abbrev pub AddsLast : stands.State → List ℕ → List ℕ → List ℕ → Type 0
AddsLast Open old text new = ⊥
AddsLast Answered old text new = new ≡ old ++ text
AddsLast Over old text new = ⊥
AddsLast Failed old text new = new ≡ old

-- the line that stands open at the end is answered, if it has a byte, and no other one is
pub record Finishes (admits : Admits) (old new : Talking) : Type 0 where
  pub text : List ℕ
  pub answered : AreAnswered (Responds admits old.history.hosted) over (talk old) (last_piece old.opened) text (talk new)
  pub adds : AddsLast new.history.state old.history.pending text new.history.pending
  pub binds : new.history.binding ≡ binding_behind (last_piece old.opened) (has_in new.caller) old.history.binding (length new.history.pending)
  pub attached : new.history.attached ≡ (is_some new.caller && not (waits new))
  pub stays_are : stays new ≡ stays old
  pub waits_are : waits new ≡ waits old
  pub streams : SameStreams old.history new.history
  pub waiting : new.history.waiting ≡ old.history.waiting
  pub opened : new.opened ≡ old.opened
