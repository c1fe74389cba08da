-- Promise: a connection in messages, as a value over bytes: what came, what it is answered, and which calls its session made of it.
use Rattle.std.specs.Prelude.{◌≡◌, ◌⊎◌, ◌≤◌, ◌+◌, ◌&&◌, ℕ, Bool, true, false, not, nat_lt, List, [], ◌∷◌, ◌++◌, length, flat_map, drop, codes}
use Rattle.sb_postgres.specs.declared.told.sqlstate.SqlState.TheVariants as state
use Rattle.sb_postgres.specs.Answers.{Answered}
use Rattle.sb_postgres.specs.Frames.{Begins, BeginsPacket, frame, packet}
use Rattle.sb_postgres.specs.Messages.{Said, IsSaid}
use Rattle.sb_postgres.specs.Messages as messages
use Rattle.sb_postgres.specs.Startup.{Started, IsStarted}
use Rattle.sb_postgres.specs.Startup as startup
use Rattle.sb_frontend.specs.declared.phase.Phase.{Phase}
use Rattle.sb_frontend.specs.declared.phase.Phase.TheVariants as phase
use Rattle.sb_frontend.specs.Conversations.{AnswersMessage, AnswersPacket, Standing, TurnsAway, at_start, in_phase}
use Rattle.sb_frontend.specs.Outputs.{Outgoing, Sends, written}
use Rattle.sb_frontend.specs.Outputs as output
use Rattle.sb_frontend.specs.Starts.{Source}

-- ---- what comes

-- packets come before a session is named, messages then
abbrev pub is_starting : Phase → Bool
is_starting phase.Starting = true
is_starting p = false

abbrev pub is_over : Phase → Bool
is_over phase.Over = true
is_over p = false

-- a packet; a message; bytes that are neither, whatever follows; or those that are left where no more come
pub data Item : Type 0 where
  packet_of : (p : Started) → Item
  message_of : (m : Said) → Item
  unreadable : (bytes : List ℕ) → Item
  cut : (bytes : List ℕ) → Item

abbrev pub message_bytes : Said → List ℕ
message_bytes m = frame (messages.kind_of m) (messages.body_of m)

abbrev pub bytes_of : Item → List ℕ
bytes_of (packet_of p) = packet (startup.body_of p)
bytes_of (message_of m) = message_bytes m
bytes_of (unreadable bytes) = bytes
bytes_of (cut bytes) = bytes

-- no packet or no message stands there as a whole
abbrev pub IsPartial : Bool → List ℕ → Type 0
IsPartial true bytes = BeginsPacket bytes → ⊥
IsPartial false bytes = Begins bytes → ⊥

-- no packet has this body, and no message this first byte and this body
abbrev pub IsNoPacket : List ℕ → Type 0
IsNoPacket body = (p : Started) → IsStarted p → startup.body_of p ≡ body → ⊥

abbrev pub IsNoMessage : ℕ → List ℕ → Type 0
IsNoMessage kind body = (m : Said) → IsSaid m → messages.kind_of m ≡ kind → messages.body_of m ≡ body → ⊥

-- their length is none that the first one may have, or it has no meaning
abbrev pub IsUnreadable : Bool → List ℕ → Type 0
IsUnreadable true bytes = ((more : List ℕ) → BeginsPacket (bytes ++ more) → ⊥) ⊎ ((body rest : List ℕ) × (bytes ≡ packet body ++ rest) × IsNoPacket body)
IsUnreadable false bytes = ((more : List ℕ) → Begins (bytes ++ more) → ⊥) ⊎ ((kind : ℕ) × (body rest : List ℕ) × (bytes ≡ frame kind body ++ rest) × IsNoMessage kind body)

-- ---- what it is answered

abbrev pub unreadable_text : List ℕ
unreadable_text = codes "invalid frontend message"

-- by who opens sessions, and whether the client sends no more
abbrev pub Takes : Source → Bool → Item → Standing → List ℕ → Standing → Type 0
Takes source at_end (packet_of p) old text new = (old.phase ≡ phase.Starting) × IsStarted p × AnswersPacket source p old text new
Takes source at_end (message_of m) old text new = (is_starting old.phase ≡ false) × IsSaid m × (ms : List Answered) × AnswersMessage source m old ms new × (text ≡ written ms)
Takes source at_end (unreadable bytes) old text new =
    IsUnreadable (is_starting old.phase) bytes × (ms : List Answered) × TurnsAway state.ProtocolViolation unreadable_text old ms new × (text ≡ written ms)
Takes source at_end (cut bytes) old text new = (at_end ≡ true) × IsPartial (is_starting old.phase) bytes × (text ≡ []) × (new ≡ in_phase phase.Over old)

-- one behind the other
abbrev pub Talks : Source → Bool → List Item → Standing → List ℕ → Standing → Type 0
Talks source at_end [] old text new = (text ≡ []) × (new ≡ old)
Talks source at_end (i ∷ is) old text new =
    (said rest : List ℕ) × (mid : Standing) × Takes source at_end i old said mid × Talks source at_end is mid rest new × (text ≡ said ++ rest)

-- ---- a connection

pub record Dialogue : Type 0 where
  -- where it stands
  pub at : Standing
  -- the client sends no more
  pub at_end : Bool
  -- all bytes that came, and those of them that aren't answered yet
  pub received : List ℕ
  pub waiting : List ℕ
  -- so many bytes were sent, and these are to be sent next
  pub sent : ℕ
  pub out : Outgoing

abbrev pub nothing_yet : Dialogue
nothing_yet = record { at = at_start; at_end = false; received = []; waiting = []; sent = 0; out = output.nothing }

abbrev pub after_receiving : Dialogue → List ℕ → Dialogue
after_receiving d bytes = record d { received = d.received ++ bytes; waiting = d.waiting ++ bytes }

abbrev pub after_end : Dialogue → Dialogue
after_end d = record d { at_end = true }

abbrev pub after_sending : Dialogue → ℕ → Dialogue
after_sending d count = record d { sent = d.sent + count; out = record d.out { bytes = drop count d.out.bytes } }

-- behind so many bytes that wait to be sent nothing is answered, and nothing is read
abbrev pub pending_limit : ℕ
pending_limit = 65_536

abbrev pub has_room : Dialogue → Bool
has_room d = nat_lt (length d.out.bytes) pending_limit

abbrev pub may_receive : Dialogue → Bool
may_receive d = (not d.at_end && not (is_over d.at.phase)) && has_room d

-- nothing is received or sent
abbrev pub SameStreams : Dialogue → Dialogue → Type 0
SameStreams old new = (new.at_end ≡ old.at_end) × (new.received ≡ old.received) × (new.sent ≡ old.sent)

-- some of what came is answered, and all else stays
abbrev pub Answers : Source → Dialogue → Dialogue → Type 0
Answers source old new =
    (items : List Item) × (text : List ℕ) × (old.waiting ≡ flat_map bytes_of items ++ new.waiting) × Talks source old.at_end items old.at text new.at
    × Sends text old.out new.out × SameStreams old new

-- nothing is answered any more, memory has run out, something is to be sent first, or what came isn't whole
abbrev pub IsSettled : Dialogue → Type 0
IsSettled d = (is_over d.at.phase ≡ true) ⊎ ((d.out.failed ≡ true) ⊎ ((has_room d ≡ false) ⊎ IsPartial (is_starting d.at.phase) d.waiting))

-- A connection answered these from its first byte on, one behind the other; unless memory ran out, the first bytes of the text that
-- answers them were sent, and the others are to be sent.
pub record Converses (source : Source) (d : Dialogue) : Type 0 where
  pub items : List Item
  pub text : List ℕ
  pub bytes : d.received ≡ flat_map bytes_of items ++ d.waiting
  pub talks : Talks source d.at_end items at_start text d.at
  pub told : d.out.failed ≡ false → (d.sent ≤ length text) × (d.out.bytes ≡ drop d.sent text)
