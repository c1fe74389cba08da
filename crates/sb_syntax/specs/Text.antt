-- Promise: texts and commands.
use Rattle.std.specs.Prelude.{◌≡◌, ◌≤◌, ◌<◌, ◌^◌, ℕ, pos, negsuc, List, [], length, Option, Some, None, Result, Ok, Err}
use Rattle.std.specs.List.{AllPass}
use Rattle.sb_value.specs.Literal.{value_text}
use Rattle.sb_value.specs.Printable.{is_printable}
use Rattle.sb_value.specs.declared.value.Value.{Value}
use Rattle.sb_value.specs.declared.value.Value.TheVariants.{Int, Text}
use Rattle.sb_syntax.specs.declared.cursor.Token.{Token}
use Rattle.sb_syntax.specs.declared.error.ParseError.{ParseError}
use Rattle.sb_syntax.specs.declared.error.ParseError.TheVariants.{Syntax, NoMemory}
use Rattle.sb_syntax.specs.Cursor.{lexemes}
use Rattle.sb_syntax.specs.Lex.{AreTokens}
use Rattle.sb_syntax.specs.Tree.{Command}
use Rattle.sb_syntax.specs.Grammar.{IsCommand, IsLiteral}
use Rattle.sb_syntax.specs.Input.{Input, same_kind}
use Rattle.sb_syntax.specs.Lex as l
use Rattle.sb_syntax.specs.Scan as s
use Rattle.sb_syntax.specs.Scan.{scan}
use Rattle.sb_syntax.specs.Reading as r
use Rattle.sb_syntax.specs.Reading.{command}

-- the most bytes of a command's text
abbrev pub text_limit : ℕ
text_limit = 4096

-- the text is made of tokens and spaces, and the tokens spell the command
pub record Spells (text : List ℕ) (s : Command) : Type 0 where
  pub tokens : List Token
  pub are : AreTokens 0 text tokens
  pub spell : IsCommand s (lexemes text tokens)

abbrev pub read_by : Option (Command × Input) → Option Command
read_by None = None
read_by (Some p) = Some p.0

abbrev pub command_by : List ℕ → Option (List Token) → Option Command
command_by text None = None
command_by text (Some tokens) = read_by (command (lexemes text tokens))

-- The command that a text spells, as a reader finds it. To unfold it is to unfold all that it uses, so that it computes.
unfoldable pub command_of : List ℕ → Option Command
unfolding same_kind l.word_kind l.transition s.word_at s.integer_at s.text_at s.symbol_at s.token_at s.scan r.kind_at r.sees r.next r.expect r.bytes_of r.chain r.separated r.separated_to r.name r.integer r.minus r.text r.literal_value r.table_by r.table r.column_from r.column_after r.column_by r.column r.factor r.term r.expr r.all_columns r.count_rows r.sum_rows r.expressions r.items r.alias r.source r.sources_after r.sources r.conj r.cond r.group r.subquery r.operand r.member r.compared_by r.predicate r.neg_with r.inner_neg r.neg r.filter r.query_with r.inner_query r.query_to r.tuple r.inserts_rows r.inserts_into r.inserts r.assignment r.updates r.deletes r.change r.names r.updated_of r.updated r.word r.trigger r.condition_if r.action r.actions r.listed r.name_after r.rule_head r.rule_body r.rule r.column_type r.definition r.columns r.creates_table r.creates r.drops r.processes r.adds_rules r.removes_rules r.alters_from r.alters_ruleset r.actions_then r.alteration r.alters r.activates r.deactivates r.leading_command r.command
command_of text = command_by text (scan 0 0 text)

-- what the error says of a text
abbrev pub NoTokens : List ℕ → ParseError → Type 0
NoTokens text NoMemory = Unit {0}
NoTokens text (Syntax place) = (place ≤ length text) × ((tokens : List Token) → AreTokens 0 text tokens → ⊥)

abbrev pub NoCommand : List ℕ → ParseError → Type 0
NoCommand text NoMemory = Unit {0}
NoCommand text (Syntax place) = (place ≤ length text) × ((s : Command) → Spells text s → ⊥) × (command_of text ≡ None)

-- what a function gives: what is read of a text of this length, seen by view, unless memory runs out
abbrev pub Reading : {X A : Type 0} → (X → A) → Option A → ℕ → Result X ParseError → Type 0
Reading view read limit (Ok x) = read ≡ Some (view x)
Reading view read limit (Err NoMemory) = Unit {0}
Reading view read limit (Err (Syntax place)) = (read ≡ None) × (place ≤ limit)

-- a value that a column may hold
abbrev pub CanBeHeld : Value → Type 0
CanBeHeld (Int (pos n)) = n < 2 ^ 63
CanBeHeld (Int (negsuc n)) = n < 2 ^ 63
CanBeHeld (Text bytes) = (length bytes ≤ 255) × AllPass is_printable bytes

-- the text of the value, as replies have it, is made of tokens, and they are a literal of the value
pub record SpellsItself (v : Value) : Type 0 where
  pub tokens : List Token
  pub are : AreTokens 0 (value_text v) tokens
  pub spell : IsLiteral v (lexemes (value_text v) tokens) []
