-- Promise: which lines the statements of a query make, one after the other, by whether there is a transaction and by what is replied; and what is told.
use Rattle.std.specs.Prelude.{◌≡◌, ℕ, Bool, true, false, not, ◌&&◌, MatchBool, List, [], ◌∷◌, ◌++◌, codes, Option, Some, None, is_some, Result, Ok, Err, ⊤}
use Rattle.sb_postgres.specs.declared.query.kind.StatementKind.{StatementKind}
use Rattle.sb_postgres.specs.declared.query.kind.StatementKind.TheVariants as k
use Rattle.sb_postgres.specs.declared.query.error.QueryError.{QueryError}
use Rattle.sb_postgres.specs.declared.query.error.QueryError.TheVariants as errors
use Rattle.sb_postgres.specs.Answers.{Answered, EmptyQueryResponse}
use Rattle.sb_postgres.specs.Kinds.{kind_of}
use Rattle.sb_postgres.specs.Lines.{Lines, end, refused, line, ending}
use Rattle.sb_frontend.specs.declared.form.Form.{Form}
use Rattle.sb_frontend.specs.Columns.{with_columns}
use Rattle.sb_frontend.specs.Outputs.{completed}
use Rattle.sb_frontend.specs.Replies.{Exchange, Replied, exchange, goes_well}
use Rattle.sb_frontend.specs.Scripts.{TellsUnread}
use Rattle.sb_frontend.specs.Stepless.{TellsWithout, without_tag}
use Rattle.sb_frontend.specs.Tellings.{TellsOwn, TellsReply, reply_tag}

-- a session: its tenant and its number there, its calls, whether it has a transaction behind them, and whether that was begun unasked
pub record Spot : Type 0 where
  pub tenant : ℕ
  pub number : ℕ
  pub exchanges : List Exchange
  pub has : Bool
  pub own : Bool

-- a call with this line
abbrev pub Calls : List ℕ → Replied → Spot → Spot → Type 0
Calls bytes reply old new = new ≡ record old { exchanges = old.exchanges ++ exchange bytes reply new.has ∷ []; has = new.has }

-- its transaction is the client's, or not
abbrev pub owned : Bool → Spot → Spot
owned own spot = record spot { own = own }

-- ---- one statement

abbrev pub needs_transaction : StatementKind → Bool
needs_transaction k.Process = true
needs_transaction k.Statement = true
needs_transaction kind = false

-- its line, by whether there is a transaction
abbrev pub line_for : StatementKind → Bool → List ℕ → Option (List ℕ)
line_for k.Begin false bytes = Some (codes "begin")
line_for k.Commit true bytes = Some (codes "commit")
line_for k.Rollback true bytes = Some (codes "rollback")
line_for k.Definition has bytes = Some bytes
line_for k.Process has bytes = Some bytes
line_for k.Statement has bytes = Some bytes
line_for kind has bytes = None

-- what names the begin or the end of a transaction makes it the client's
abbrev pub own_after : StatementKind → Bool → Bool
own_after k.Begin own = false
own_after k.Commit own = false
own_after k.Rollback own = false
own_after kind own = own

-- `begin`, where it is needed; and whether it went well
abbrev pub Begins : Bool → Spot → List Answered → Bool → Spot → Type 0
Begins false old ms well new = (new ≡ old) × (ms ≡ []) × (well ≡ true)
Begins true old ms well new = (reply : Replied) × Calls (codes "begin") reply (owned true old) new × TellsOwn reply ms × (well ≡ goes_well reply)

-- a transaction that was begun unasked is committed; and whether that went well
abbrev pub Commits : Spot → List Answered → Bool → Spot → Type 0
Commits old ms well new =
    MatchBool (old.own && old.has) ((reply : Replied) × Calls (codes "commit") reply (owned false old) new × TellsOwn reply ms × (well ≡ goes_well reply))
    ((new ≡ owned false old) × (ms ≡ []) × (well ≡ true))

-- behind what went wrong it is rolled back, and nothing is told of that
abbrev pub GivesUp : Spot → Spot → Type 0
GivesUp old new = MatchBool (old.own && old.has) ((reply : Replied) × Calls (codes "rollback") reply (owned false old) new) (new ≡ owned false old)

-- the statement's line is sent, if it has one, and what came of it is told; it went well where there is a tag
abbrev pub Sends : Form → StatementKind → List ℕ → Option (List ℕ) → Spot → List Answered → Option (List ℕ) → Spot → Type 0
Sends form kind bytes (Some sent) old ms tag new = (reply : Replied) × Calls sent reply old new × TellsReply form kind reply ms × (tag ≡ reply_tag kind bytes reply)
Sends form kind bytes None old ms tag new = (new ≡ old) × TellsWithout form kind bytes old.has old.own ms × (tag ≡ without_tag kind bytes)

abbrev pub Runs : Form → List ℕ → Spot → List Answered → Option (List ℕ) → Spot → Type 0
Runs form bytes old ms tag new =
    (sent : Spot) × Sends form (kind_of bytes) bytes (line_for (kind_of bytes) old.has bytes) old ms tag sent
    × MatchBool (is_some tag) (new ≡ owned (own_after (kind_of bytes) sent.own) sent) (GivesUp sent new)

-- a statement: its transaction, then its line
abbrev pub PlaysOne : Form → List ℕ → Spot → List Answered → Option (List ℕ) → Spot → Type 0
PlaysOne form bytes old ms tag new =
    (begun : Spot) × (before : List Answered) × (begins : Bool) × Begins (needs_transaction (kind_of bytes) && not old.has) old before begins begun
    × MatchBool begins ((behind : List Answered) × Runs form bytes begun behind tag new × (ms ≡ before ++ behind)) (GivesUp begun new × (tag ≡ None) × (ms ≡ before))

-- ---- all statements of a query

abbrev pub kept : Bool → Option (List ℕ) → Option (List ℕ)
kept true tag = tag
kept false tag = None

-- the next line can't be read, by this refusal, or for want of memory
abbrev pub IsEndedBy : QueryError → Lines → Type 0
IsEndedBy errors.Memory ls = ⊤
IsEndedBy (errors.Refused r) ls = ls ≡ refused r

-- so can't some line
abbrev pub EndsBy : QueryError → Lines → Type 0
EndsBy errors.Memory ls = ⊤
EndsBy (errors.Refused r) ls = ending ls ≡ Some r

-- They are one transaction, unless they name its begin or its end. The tag of one is told when the next one begins, or when all are committed. The
-- first that goes wrong is the last.
pub data PlaysAll : Option (List ℕ) → Lines → Spot → List Answered → Spot → Type 0 where
  finished : {tag : Option (List ℕ)} {old new : Spot} {all : List Answered} (ms : List Answered) (well : Bool) → Commits old ms well new
      → all ≡ ms ++ completed (kept well tag) → PlaysAll tag end old all new
  goes_on : {tag : Option (List ℕ)} {bytes places : List ℕ} {lines : Lines} {old new : Spot} {all : List Answered} (next : Option (List ℕ)) (mid : Spot) (ms more : List Answered)
      → PlaysOne with_columns bytes old ms next mid → is_some next ≡ true → PlaysAll next lines mid more new → all ≡ completed tag ++ (ms ++ more) → PlaysAll tag (line bytes places lines) old all new
  stops : {tag : Option (List ℕ)} {bytes places : List ℕ} {lines : Lines} {old new : Spot} {all : List Answered} (ms : List Answered)
      → PlaysOne with_columns bytes old ms None new → all ≡ completed tag ++ ms → PlaysAll tag (line bytes places lines) old all new
  breaks : {tag : Option (List ℕ)} {lines : Lines} {old new : Spot} {all : List Answered} (error : QueryError) (ms : List Answered)
      → IsEndedBy error lines → TellsUnread error ms → GivesUp old new → all ≡ completed tag ++ ms → PlaysAll tag lines old all new

-- one statement of a query is played, and it goes on behind that, with this tag and these lines; or it is over
abbrev pub GoesOn : Option (List ℕ) → Lines → Spot → List Answered → Bool → (Option (List ℕ) → Lines → Type 0) → Spot → Type 0
GoesOn tag ls old ms true Left mid =
    (next : Option (List ℕ)) × (more : Lines) × Left next more
    × ((behind : List Answered) (new : Spot) → PlaysAll next more mid behind new → PlaysAll tag ls old (ms ++ behind) new)
GoesOn tag ls old ms false Left new = PlaysAll tag ls old ms new

-- a text has a statement or not, or can't be read
abbrev pub IsLookedAt : Lines → Result Bool QueryError → Type 0
IsLookedAt ls (Ok true) = ending ls ≡ None
IsLookedAt ls (Ok false) = ls ≡ end
IsLookedAt ls (Err error) = EndsBy error ls

-- Of a text that can't be read nothing is played; so it is where memory runs out before. A text without a statement is told as such.
pub data Queries : Lines → Spot → List Answered → Spot → Type 0 where
  unread : {lines : Lines} {old : Spot} {ms : List Answered} (error : QueryError) → EndsBy error lines → TellsUnread error ms → Queries lines old ms old
  empty : {old : Spot} → Queries end old (EmptyQueryResponse ∷ []) old
  played : {lines : Lines} {old new : Spot} {ms : List Answered} → ending lines ≡ None → PlaysAll None lines old ms new → Queries lines old ms new
