-- Promise: what a client is told of the reply to a line: messages, and the tag of one that went well.
use Rattle.std.specs.Prelude.{◌≡◌, ◌⊎◌, ℕ, Bool, true, false, List, [], ◌++◌, length, map, codes, Option, Some, None}
use Rattle.sb_value.specs.declared.refusal.Refusal.{Refusal}
use Rattle.sb_value.specs.declared.refusal.Refusal.TheVariants as refusal
use Rattle.sb_value.specs.declared.value.Value.{Value}
use Rattle.sb_postgres.specs.declared.query.kind.StatementKind.{StatementKind}
use Rattle.sb_postgres.specs.declared.query.kind.StatementKind.TheVariants as k
use Rattle.sb_postgres.specs.declared.told.sqlstate.SqlState.TheVariants as state
use Rattle.sb_postgres.specs.declared.told.tag.Effect.TheVariants as effect
use Rattle.sb_postgres.specs.Answers.{Answered, SeenColumn}
use Rattle.sb_postgres.specs.SqlStates.{state_of}
use Rattle.sb_postgres.specs.Tags.{tag_of}
use Rattle.sb_postgres.specs.Wordings.{message_of}
use Rattle.sb_frontend.specs.declared.form.Form.{Form}
use Rattle.sb_frontend.specs.Columns.{heads}
use Rattle.sb_frontend.specs.Considerations.{notices}
use Rattle.sb_frontend.specs.Outputs.{FailsBy}
use Rattle.sb_frontend.specs.Replies.{Replied, Done, Changed, Found, Processed, ByRule, ByError, ByLimit, Refused, NotBegun}
use Rattle.sb_frontend.specs.Rows.{RowsAreInRange, data_row}

-- ---- a line that did nothing, or whose transaction was rolled back

abbrev pub by_rule_text : List ℕ → List ℕ
by_rule_text rule = (codes "rule \"" ++ rule ++ codes "\"") ++ codes " rolled the transaction back"

abbrev pub by_limit_text : List ℕ
by_limit_text = codes "a rule is still triggered behind the last consideration that is allowed"

abbrev pub unbegun_text : List ℕ
unbegun_text = codes "out of memory: the step was not begun"

abbrev pub end_text : List ℕ
end_text = codes "syntax error at end of input"

-- the message of a refusal may name what it is about; a syntax error may be at the end of the line
abbrev pub IsMessageOf : Refusal → List ℕ → Type 0
IsMessageOf r message = ((about : Option (List ℕ)) × (message ≡ message_of r about)) ⊎ ((r ≡ refusal.Syntax) × (message ≡ end_text))

-- a refusal has its state and its message
abbrev pub Refuses : Bool → Refusal → List Answered → Type 0
Refuses defines r ms = (message : List ℕ) × IsMessageOf r message × FailsBy (state_of defines r) message ms

-- why a line did nothing, or a transaction was rolled back
abbrev pub TellsFailure : Bool → Replied → List Answered → Type 0
TellsFailure defines (ByRule rule rules) ms = FailsBy state.RaiseException (by_rule_text rule) ms
TellsFailure defines (ByError rule error rules) ms = Refuses false error ms
TellsFailure defines (ByLimit rules) ms = FailsBy state.StatementTooComplex by_limit_text ms
TellsFailure defines (Refused r) ms = Refuses defines r ms
TellsFailure defines NotBegun ms = FailsBy state.OutOfMemory unbegun_text ms
TellsFailure defines other ms = ⊥

-- ---- the reply to a line that a client wrote

abbrev pub defines : StatementKind → Bool
defines k.Definition = true
defines kind = false

-- the columns of a query's rows
abbrev pub AreColumns : Form → List Answered → Type 0
AreColumns form ms = (columns : List SeenColumn) × (ms ≡ heads form columns)

-- these, and a message for each row
abbrev pub TellsRows : Form → List (List Value) → List Answered → Type 0
TellsRows form rows ms = (columns : List SeenColumn) × (RowsAreInRange rows → ms ≡ heads form columns ++ map data_row rows)

abbrev pub TellsReply : Form → StatementKind → Replied → List Answered → Type 0
TellsReply form kind Done ms = ms ≡ []
TellsReply form kind (Changed count) ms = ms ≡ []
TellsReply form kind (Found rows) ms = TellsRows form rows ms
TellsReply form kind (Processed rules) ms = ms ≡ notices rules
TellsReply form kind reply ms = TellsFailure (defines kind) reply ms

-- the tag of a line that went well
abbrev pub reply_tag : StatementKind → List ℕ → Replied → Option (List ℕ)
reply_tag kind bytes Done = Some (tag_of kind bytes effect.Done)
reply_tag kind bytes (Changed count) = Some (tag_of kind bytes (effect.Changed count))
reply_tag kind bytes (Found rows) = Some (tag_of kind bytes (effect.Found (length rows)))
reply_tag kind bytes (Processed rules) = Some (tag_of kind bytes effect.Done)
reply_tag kind bytes reply = None

-- ---- the reply to a `begin` or a `commit` that no client wrote

abbrev pub TellsOwn : Replied → List Answered → Type 0
TellsOwn Done ms = ms ≡ []
TellsOwn (Changed count) ms = ms ≡ []
TellsOwn (Found rows) ms = ms ≡ []
TellsOwn (Processed rules) ms = ms ≡ notices rules
TellsOwn reply ms = TellsFailure false reply ms
