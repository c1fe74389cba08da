-- Machine: what a connection has received and handed out, however both were cut, and which lines it has answered.
use Rattle.std.specs.Prelude.{◌≡◌, ◌⊎◌, ◌≤◌, ◌+◌, ◌-◌, ℕ, Bool, true, false, List, [], ◌++◌, length, take, drop, map, flat_map, Option, Some, None, ◌∷◌}
use Rattle.sb_wire.specs.Lines.{Piece, complete_pieces, last_piece, open_line, piece_of}
use Rattle.sb_desk.specs.declared.stub.Stub.{Stub}
use Rattle.sb_desk.specs.declared.receipts.Receipt.{Receipt}
use Rattle.sb_connection.specs.declared.state.State.{State}
use Rattle.sb_connection.specs.declared.state.State.TheVariants.{Open, Answered, Over, Failed}
use Rattle.sb_connection.specs.Conversation.{Hosted, Talks, named_by, welcome}
use Rattle.sb_connection.specs.Exchanges.{AreWithin, Exchange, line_in, said_text, transacts_from}
use Rattle.sb_connection.specs.Policies.{Admits}
use Rattle.sb_connection.specs.declared.first_line.SessionName.{SessionName}
use Rattle.sb_connection.specs.Standing.{is_open}

pub record History : Type 0 where
  -- those of the host
  pub hosted : Hosted
  pub state : State
  -- a session was opened, and doesn't wait for the next volume of its tenant's trail
  pub attached : Bool
  -- it does
  pub waits : Bool
  -- the receipts that it left in each volume that was ended
  pub left : List (List Receipt)
  -- what the first line names, once it is answered
  pub named : Option SessionName
  -- the client sends no more
  pub at_end : Bool
  -- all bytes that came, and those of them that aren't looked at yet
  pub received : List ℕ
  pub waiting : List ℕ
  -- all bytes that were sent, and those that are to be sent next
  pub handed : List ℕ
  pub pending : List ℕ
  -- so many of these bind: they end with the last reply behind whose line the session has no transaction
  pub binding : ℕ

-- ---- what is done from outside

abbrev pub nothing_yet : Hosted → History
nothing_yet hosted = record { hosted = hosted; state = Open; attached = false; waits = false; left = []; named = None; at_end = false; received = []; waiting = []; handed = []; pending = []; binding = 0 }

abbrev pub after_receiving : History → List ℕ → History
after_receiving h bytes = record h { received = h.received ++ bytes; waiting = h.waiting ++ bytes }

abbrev pub after_end : History → History
after_end h = record h { at_end = true }

abbrev pub after_sending : History → ℕ → History
after_sending h count = record h { handed = h.handed ++ take count h.pending; pending = drop count h.pending; binding = h.binding - count }

-- behind so many bytes that wait to be sent no line is answered, and none is read
abbrev pub pending_limit : ℕ
pending_limit = 65_536

-- lines are answered, more bytes may come, and all that came are looked at
abbrev pub MayReceive : History → Type 0
MayReceive h = (is_open h.state ≡ true) × (h.at_end ≡ false) × (h.waiting ≡ []) × (h.waits ≡ false)

-- ---- a turn

-- nothing is received or sent, and no volume is left
abbrev pub SameStreams : History → History → Type 0
SameStreams old new =
    (new.hosted ≡ old.hosted) × (new.at_end ≡ old.at_end) × (new.received ≡ old.received) × (new.handed ≡ old.handed)
    × (new.left ≡ old.left) × (new.waits ≡ old.waits)

-- no line is answered any more, or something is to be sent first, or all that came are looked at and more may come, or the session waits for a volume
abbrev pub IsSettled : History → Type 0
IsSettled h = (is_open h.state ≡ false) ⊎ ((h.pending ≡ [] → ⊥) ⊎ (((h.waiting ≡ []) × (h.at_end ≡ false)) ⊎ (h.waits ≡ true)))

-- its session leaves the volume, with these receipts
abbrev pub after_suspending : History → List Receipt → History
after_suspending h receipts = record h { attached = false; waits = true; left = h.left ++ receipts ∷ [] }

-- it is in the next one
abbrev pub after_resuming : History → History
after_resuming h = record h { attached = true; waits = false }

-- ---- what was answered

-- the lines that are complete in these bytes
abbrev pub AreComplete : List ℕ → List Piece → Type 0
AreComplete taken pieces = pieces ≡ complete_pieces taken

-- all lines: what stands behind the last newline is one if it has a byte
abbrev pub AreAll : List ℕ → List Piece → Type 0
AreAll received pieces = pieces ≡ complete_pieces received ++ last_piece (piece_of (open_line received))

-- Which lines were answered. What is lost of their replies: nothing, unless memory ran out.
abbrev pub Stands : State → History → List ℕ → List Piece → List ℕ → Bool → Type 0
Stands Open h taken pieces lost over = AreComplete taken pieces × (lost ≡ []) × (over ≡ false)
Stands Answered h taken pieces lost over = AreAll h.received pieces × (lost ≡ []) × (h.at_end ≡ true)
Stands Over h taken pieces lost over = AreComplete taken pieces × (lost ≡ []) × (over ≡ true)
Stands Failed h taken pieces lost over = AreComplete taken pieces ⊎ AreAll h.received pieces

-- the lines of the bytes that are looked at, and the text that answers them: it was sent, it is to be sent, or it is lost
pub record Tells (h : History) (pieces : List Piece) (text : List ℕ) (over : Bool) : Type 0 where
  pub taken : List ℕ
  pub split : h.received ≡ taken ++ h.waiting
  pub lost : List ℕ
  pub whole : text ≡ (h.handed ++ h.pending) ++ lost
  pub stands : Stands h.state h taken pieces lost over

-- these are the first lines of all that came
abbrev pub AreFirstLines : History → List Piece → Type 0
AreFirstLines h pieces = ((taken rest : List ℕ) × (h.received ≡ taken ++ rest) × AreComplete taken pieces) ⊎ AreAll h.received pieces

-- the session that the first line names
pub record IsSessionOf (h : History) (named : SessionName) : Type 0 where
  pub first : Piece
  pub behind : List Piece
  pub are_first : AreFirstLines h (first ∷ behind)
  pub is : named_by h.hosted.keyed first ≡ Some named

-- whether its session has a transaction, as its calls told with the answers to the lines behind the first one
pub record Transacts (h : History) (has : Bool) : Type 0 where
  pub first : Piece
  pub exchanges : List Exchange
  pub over : Bool
  pub tells : Tells h (first ∷ map line_in exchanges) (welcome ++ flat_map said_text exchanges) over
  pub is : has ≡ transacts_from false exchanges

-- Behind the bytes that bind stand replies to lines behind each of which the session has a transaction. What stands before these was sent, binds, or is lost.
pub record BindsAtMost (h : History) : Type 0 where
  pub first : Piece
  pub before : List Exchange
  pub behind : List Exchange
  pub over : Bool
  pub tells : Tells h (first ∷ map line_in (before ++ behind)) (welcome ++ flat_map said_text (before ++ behind)) over
  pub within : AreWithin (transacts_from false before) behind
  pub sent : length (welcome ++ flat_map said_text before) ≤ (length h.handed + h.binding) + length tells.lost

-- what a connection did until it was closed
pub record Converses (admits : Admits) (h : History) (stub : Option Stub) : Type 0 where
  pub pieces : List Piece
  pub text : List ℕ
  pub over : Bool
  pub tells : Tells h pieces text over
  pub talks : Talks admits h.hosted pieces text h.left stub over
