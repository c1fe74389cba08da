-- Promise: the lines of a stream, answered one after another by whatever answers a line.
use Rattle.std.specs.Prelude.{◌≡◌, ◌⊎◌, ◌≤◌, ℕ, Bool, true, false, List, [], ◌∷◌, ◌++◌, length, Option, Result, Ok, Err}
use Rattle.std.specs.Io.KnownBytes.{Appends, Consumes, IsAtEnd}
use Rattle.sb_wire.specs.Lines.{Piece, pieces_of, complete_pieces, Completes}
use Rattle.sb_wire.specs.Stream.{AreFirst, IsSeenInTime, MayFail, read_limit}
use Rattle.sb_wire.specs.declared.fault.StreamError.{StreamError}
use Rattle.sb_wire.specs.declared.fault.StreamError.TheVariants.{ReadFault, WriteFault, NoMemory}

-- What answers a line: from a state, the text that it gives to a line and its state after it; and whether the stream is over.
abbrev pub Answering : Type 0 → Type 1
Answering State = State → Piece → List ℕ → State → Type 0

-- the text answers the lines in order, and none once the stream is over
abbrev pub AreAnswered : {State : Type 0} → Answering State → (State → Bool) → State → List Piece → List ℕ → State → Type 0
AreAnswered responds over old [] text new = (text ≡ []) × (new ≡ old)
AreAnswered {State} responds over old (p ∷ ps) text new =
    (first rest : List ℕ) × (mid : State) × (text ≡ first ++ rest) × (over old ≡ false) × responds old p first mid × AreAnswered responds over mid ps rest new

-- the lines are answered behind a text that waits; the writer took a first part of all this, and the rest is left
pub record AnswersLines {State : Type 0} (responds : Answering State) (over : State → Bool) (old : State) (held : Option (List ℕ)) (waiting : List ℕ) (pieces : List Piece) (new : State) (holds : Option (List ℕ)) (left : List ℕ) : Type 0 where
  pub text : List ℕ
  pub answered : AreAnswered responds over old pieces text new
  pub written : List ℕ
  pub whole : waiting ++ text ≡ written ++ left
  pub appends : Appends held holds written

-- so are the lines that a first part of the bytes completes, behind an open line
pub record AnswersBytes {State : Type 0} (responds : Answering State) (over : State → Bool) (old : State) (held : Option (List ℕ)) (waiting : List ℕ) (start : Piece) (bytes : List ℕ) (new : State) (holds : Option (List ℕ)) (left : List ℕ) : Type 0 where
  pub taken : List ℕ
  pub ahead : List ℕ
  pub split : bytes ≡ taken ++ ahead
  pub pieces : List Piece
  pub opened : Piece
  pub completes : Completes start taken pieces opened
  pub lines : AnswersLines responds over old held waiting pieces new holds left

-- What a stream does until it ends: it reads some bytes and answers some lines, and what isn't written is left.
pub record AnswersStream {State : Type 0} (responds : Answering State) (over : State → Bool) (old : State) (input held : Option (List ℕ)) (new : State) (rest holds : Option (List ℕ)) : Type 0 where
  pub seen : List ℕ
  pub reads : Consumes input rest seen
  pub in_time : IsSeenInTime seen
  pub pieces : List Piece
  pub left : List ℕ
  pub lines : AnswersLines responds over old held [] pieces new holds left

-- How it ends. Ok: all that was answered is written, and either the stream is over, or all bytes are read and all lines are answered.
-- ReadFault: the complete lines are, and a read may fail or there were too many. WriteFault, NoMemory: the first lines are answered, and a
-- part of the text may be left.
abbrev pub StopsBy : {R : Type 0} → (R → Type 0) → (R → Option (List ℕ)) → R → Bool → List ℕ → List Piece → List ℕ → Result (Unit {0}) StreamError → Type 0
StopsBy fails remaining reader is_over seen pieces left (Ok value) =
    (left ≡ []) × (((is_over ≡ true) × AreFirst pieces seen) ⊎ (IsAtEnd (remaining reader) × (pieces ≡ pieces_of seen)))
StopsBy fails remaining reader is_over seen pieces left (Err ReadFault) =
    (pieces ≡ complete_pieces seen) × (left ≡ []) × (is_over ≡ false) × (MayFail fails remaining reader ⊎ (read_limit ≤ length seen))
StopsBy fails remaining reader is_over seen pieces left (Err WriteFault) = AreFirst pieces seen
StopsBy fails remaining reader is_over seen pieces left (Err NoMemory) = AreFirst pieces seen
