-- Promise: what a cell answers to lines, and how a stream of them ends.
use Rattle.std.specs.Prelude.{◌≡◌, ◌⊎◌, ◌*◌, ◌<◌, ◌≤◌, nat_lt, ℕ, List, [], ◌∷◌, ◌++◌, length, Option, Result, Ok, Err, ⊤}
use Rattle.std.specs.Io.KnownBytes.{Appends, Consumes, IsAtEnd, Keeps}
use Rattle.sb_tenant.specs.declared.bound.Bound.{Bound}
use Rattle.sb_tenant.specs.State.{State, opening}
use Rattle.sb_tenant.specs.Trail.{state_of}
use Rattle.sb_cell.specs.Tenants.{Cell, hosts, trails, IsSame}
use Rattle.sb_wire.specs.Lines.{Piece, pieces_of, complete_pieces}
use Rattle.sb_wire.specs.Output.{IsAnswer, AreAnswers, IsOutput, TellsNoWant, output}
use Rattle.sb_wire.specs.Apart.{MetNoWant, RunsApart, own_lines, tenant_lines}
use Rattle.sb_wire.specs.Counts.{Adds, Response, response_text}
use Rattle.sb_wire.specs.declared.fault.StreamError.{StreamError}
use Rattle.sb_wire.specs.declared.fault.StreamError.TheVariants.{ReadFault, WriteFault, NoMemory}
use Rattle.sb_wire.specs.declared.summary.Summary.{Summary}

-- the states that the tenants' trails give
abbrev pub states : Cell → ℕ → State
states c t = state_of t c.bound (trails c t)

-- the text answers a piece of an input, and the cell goes on from there
abbrev pub AnswersPiece : Cell → Piece → List ℕ → Cell → Type 0
AnswersPiece old piece text new = IsAnswer (hosts old) old.bound (states old) piece text (states new)

-- the text answers a piece, the cell goes on with its bound and its tenants, and the summary counts the response
abbrev pub AnswersCounted : Cell × Summary → Piece → List ℕ → Cell × Summary → Type 0
AnswersCounted old piece text new =
    (response : Response) × (text ≡ response_text response) × AnswersPiece old.0 piece text new.0 × IsSame old.0 new.0 × Adds old.1 (response ∷ []) new.1

-- the text answers the pieces in order, each tenant as if it were alone, and the cell goes on from there, with its bound and its tenants
pub record AnswersPieces (old : Cell) (pieces : List Piece) (text : List ℕ) (new : Cell) : Type 0 where
  pub answers : AreAnswers (hosts old) old.bound (states old) pieces text (states new)
  pub apart : RunsApart (hosts old) old.bound (states old) pieces text (states new)
  pub same : IsSame old new

-- The text answers the lines of an input in order, and the cell goes on from there. Where it doesn't say that memory ran out, it is what is
-- written for the input; and where it doesn't say so of a tenant, that tenant's lines are what it would be told alone.
pub record AnswersInput (old : Cell) (input text : List ℕ) (new : Cell) : Type 0 where
  pub answers : IsOutput (hosts old) old.bound (states old) input text (states new)
  pub exact : TellsNoWant text → text ≡ output (hosts old) old.bound (states old) input
  pub apart : RunsApart (hosts old) old.bound (states old) (pieces_of input) text (states new)
  pub same : IsSame old new

-- A stream is answered on a fresh cell of the tenants below a number: all begin without tables and rules, and no session is open.
pub record AnswersFresh (tenants : ℕ) (bound : Bound) (input text : List ℕ) : Type 0 where
  pub after : ℕ → State
  pub answers : IsOutput (λ t. nat_lt t tenants) bound (λ t. opening) input text after
  pub exact : TellsNoWant text → text ≡ output (λ t. nat_lt t tenants) bound (λ t. opening) input
  pub apart : RunsApart (λ t. nat_lt t tenants) bound (λ t. opening) (pieces_of input) text after

-- Two inputs with the same lines of a tenant, on fresh cells that have it: where it met no want of memory, its lines of output are the same,
-- whatever the other tenants sent and however many there are.
abbrev pub SameLinesAreToldTheSame : Bound → Type 0
SameLinesAreToldTheSame bound =
    (tenants others : ℕ) (input text another told : List ℕ) (one : AnswersFresh tenants bound input text) (two : AnswersFresh others bound another told)
    → (t : ℕ) → t < tenants → t < others → MetNoWant t one.apart.lines → MetNoWant t two.apart.lines
    → own_lines t (pieces_of input) ≡ own_lines t (pieces_of another)
    → (tenant_lines t one.apart.lines ≡ tenant_lines t two.apart.lines) × (one.after t ≡ two.after t)

-- the pieces are answered behind a text that waits; the writer took a first part of all this, and the rest is left
pub record Replies (old : Cell) (held : Option (List ℕ)) (waiting : List ℕ) (pieces : List Piece) (new : Cell) (holds : Option (List ℕ)) (left : List ℕ) : Type 0 where
  pub text : List ℕ
  pub answered : AnswersPieces old pieces text new
  pub written : List ℕ
  pub whole : waiting ++ text ≡ written ++ left
  pub appends : Appends held holds written

-- what holds where a writer is at fault
abbrev pub OnWriteFault : {T : Type 0} → Result T StreamError → Type 0 → Type 0
OnWriteFault (Ok value) P = ⊤
OnWriteFault (Err ReadFault) P = ⊤
OnWriteFault (Err WriteFault) P = P
OnWriteFault (Err NoMemory) P = ⊤

-- in a state with the same known bytes a call may fail
abbrev pub MayFail : {S : Type 0} → (S → Type 0) → (S → Option (List ℕ)) → S → Type 0
MayFail {S} fails known now = (s : S) × fails s × Keeps (known s) (known now)

-- the most reads of a stream, and the most bytes of one
abbrev pub read_limit : ℕ
read_limit = 4294967296

abbrev pub piece_limit : ℕ
piece_limit = 65536

-- no more than so many reads see
abbrev pub IsSeenInTime : List ℕ → Type 0
IsSeenInTime seen = length seen ≤ piece_limit * read_limit

-- What a stream does until it ends: it reads some bytes and answers some lines, and what isn't written is left.
pub record Streams (old : Cell) (input held : Option (List ℕ)) (new : Cell) (rest holds : Option (List ℕ)) : Type 0 where
  pub seen : List ℕ
  pub reads : Consumes input rest seen
  pub in_time : IsSeenInTime seen
  pub pieces : List Piece
  pub left : List ℕ
  pub replies : Replies old held [] pieces new holds left

-- the lines are the first ones of these bytes
abbrev pub AreFirst : List Piece → List ℕ → Type 0
AreFirst pieces bytes = (more : List Piece) × (pieces_of bytes ≡ pieces ++ more)

-- How it ends. Ok: all bytes are read, and all lines are answered and written. ReadFault: the complete lines are, and a read may fail
-- or there were too many. WriteFault, NoMemory: the first lines are answered, and a part of the text may be left.
abbrev pub EndsBy : {R : Type 0} → (R → Type 0) → (R → Option (List ℕ)) → R → List ℕ → List Piece → List ℕ → Result (Unit {0}) StreamError → Type 0
EndsBy fails remaining reader seen pieces left (Ok value) = IsAtEnd (remaining reader) × (pieces ≡ pieces_of seen) × (left ≡ [])
EndsBy fails remaining reader seen pieces left (Err ReadFault) =
    (pieces ≡ complete_pieces seen) × (left ≡ []) × (MayFail fails remaining reader ⊎ (read_limit ≤ length seen))
EndsBy fails remaining reader seen pieces left (Err WriteFault) = AreFirst pieces seen
EndsBy fails remaining reader seen pieces left (Err NoMemory) = AreFirst pieces seen
