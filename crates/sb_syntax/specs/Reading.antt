-- Promise: reading, as functions on tokens. Each answers what it read and the tokens after it, or None.
use Rattle.std.specs.Prelude.{◌≡◌, ◌≤◌, ℕ, zero, suc, ◌^◌, Bool, true, false, List, [], ◌∷◌, ◌++◌, length, Option, Some, None, Result, Ok, Err, nat_lt, nat_le, if◌then◌else◌, pos, ◌&&◌}
use Rattle.std.specs.List.{list_all}
use Rattle.sb_value.specs.Printable.{is_printable}
use Rattle.sb_value.specs.declared.value.Value.{Value}
use Rattle.sb_value.specs.declared.value.Value.TheVariants.{Int, Text}
use Rattle.sb_value.specs.declared.value.ColumnType.{ColumnType}
use Rattle.sb_value.specs.declared.value.ColumnType.TheVariants as t
use Rattle.sb_value.specs.declared.value.ColumnDefinition.{ColumnDefinition}
use Rattle.sb_syntax.specs.declared.kind.TokenKind.{TokenKind}
use Rattle.sb_syntax.specs.declared.kind.TokenKind.TheVariants as k
use Rattle.sb_syntax.specs.declared.error.Fault.{Fault}
use Rattle.sb_syntax.specs.declared.error.Fault.TheVariants.{Refused, NoMemory}
use Rattle.sb_syntax.specs.declared.tree.Arithmetic.TheVariants.{Add, Subtract, Multiply}
use Rattle.sb_syntax.specs.declared.tree.Comparison.{Comparison}
use Rattle.sb_syntax.specs.declared.tree.Comparison.TheVariants as c
use Rattle.sb_syntax.specs.declared.tree.TableReference.{TableReference}
use Rattle.sb_syntax.specs.declared.tree.TableReference.TheVariants.{Named, Inserted, Deleted, OldUpdated, NewUpdated}
use Rattle.sb_syntax.specs.declared.tree.ColumnReference.{ColumnReference}
use Rattle.sb_syntax.specs.declared.tree.ColumnReference.TheVariants.{Plain, Qualified}
use Rattle.sb_syntax.specs.declared.tree.SourceReference.{SourceReference}
use Rattle.sb_syntax.specs.Input.{Input, same_kind}
use Rattle.sb_syntax.specs.Literal.{decimal, negative, unquoted}
use Rattle.sb_syntax.specs.Grammar.{max_nesting, max_depth}
use Rattle.sb_syntax.specs.Tree as tree
use Rattle.sb_syntax.specs.Tree.{Name, Expression, Items, Condition, Operand, Filter, Query, Assignment, Statement, Action, Trigger, RuleText, AlterationText, Command}

abbrev pub Reader : Type 0 → Type 0
Reader A = Input → Option (A × Input)

abbrev pub and_then : {A B : Type 0} → Option (A × Input) → (A → Reader B) → Option (B × Input)
and_then (Some p) f = f p.0 p.1
and_then None f = None

infixl 10 ◌>>=◌
abbrev pub ◌>>=◌ : {A B : Type 0} → Reader A → (A → Reader B) → Reader B
p >>= f = λ ts. and_then (p ts) f

infixl 10 ◌>>◌
abbrev pub ◌>>◌ : {A B : Type 0} → Reader A → Reader B → Reader B
p >> q = p >>= (λ _. q)

abbrev pub pure : {A : Type 0} → A → Reader A
pure a = λ ts. Some (a, ts)

abbrev pub refuse : {A : Type 0} → Reader A
refuse = λ ts. None

-- a refusal, and not want of memory, says that nothing is read
abbrev pub Fails : {A : Type 0} → Fault → Option (A × Input) → Type 0
Fails NoMemory read = Unit {0}
Fails Refused read = read ≡ None

-- What a function that reads gives, seen by view: what the reader gives, unless memory runs out.
abbrev pub Gives : {X A : Type 0} → (X → A) → Option (A × Input) → Result X Fault → Input → Input → Type 0
Gives view read (Ok x) old new = (read ≡ Some (view x, new)) × (length new ≤ length old)
Gives view read (Err e) old new = Fails e read

-- ---- tokens

unfoldable pub kind_at : Input → Option TokenKind
kind_at [] = None
kind_at (t ∷ ts) = Some t.kind

unfoldable pub sees : TokenKind → Input → Bool
sees k [] = false
sees k (t ∷ ts) = same_kind t.kind k

unfoldable pub next : Input → Input
next [] = []
next (t ∷ ts) = ts

abbrev pub after : TokenKind → Input → Input
after k ts = if sees k ts then next ts else ts

abbrev pub eat : TokenKind → Reader Bool
eat k = λ ts. Some (sees k ts, after k ts)

unfoldable pub expect : TokenKind → Reader (Unit {0})
expect k ts = if sees k ts then Some (tt, next ts) else None

-- the bytes of a token of this kind
unfoldable pub bytes_of : TokenKind → Reader (List ℕ)
bytes_of k [] = None
bytes_of k (t ∷ ts) = if same_kind t.kind k then Some (t.text, ts) else None

-- ---- repetition: what the token's kind joins to what was read so far. The number bounds the turns.

abbrev pub Joins : Type 0 → Type 0 → Type 0
Joins B A = Option TokenKind → Option (B → A → B)

abbrev pub turn : {A B : Type 0} → Option (B → A → B) → Reader A → (B → Reader B) → B → Reader B
turn None item more acc ts = Some (acc, ts)
turn (Some join) item more acc ts = and_then (item (next ts)) (λ x. more (join acc x))

unfoldable pub chain : {A B : Type 0} → Joins B A → Reader A → ℕ → B → Reader B
chain joins item zero acc ts = Some (acc, ts)
chain joins item (suc n) acc ts = turn (joins (kind_at ts)) item (chain joins item n) acc ts

-- the first, and what it is joined to
abbrev pub chained : {A : Type 0} → Joins A A → Reader A → Reader A
chained joins item = item >>= λ first. λ ts. chain joins item (length ts) first ts

abbrev pub pushes : {A : Type 0} → TokenKind → Joins (List A) A
pushes sep None = None
pushes sep (Some kind) = if same_kind kind sep then Some (λ xs x. xs ++ x ∷ []) else None

-- a list with separators, and one of at most `more` items behind the first
unfoldable pub separated : {A : Type 0} → TokenKind → Reader A → Reader (List A)
separated sep item = item >>= λ first. λ ts. chain (pushes sep) item (length ts) (first ∷ []) ts

unfoldable pub separated_to : {A : Type 0} → ℕ → TokenKind → Reader A → Reader (List A)
separated_to more sep item = item >>= λ first. chain (pushes sep) item more (first ∷ [])

-- ---- names, literals, tables and columns

unfoldable pub name : Reader Name
name = bytes_of k.Name >>= λ n. λ ts. if nat_lt 0 (length n) && nat_le (length n) 32 then Some (n, ts) else None

unfoldable pub integer : Reader Value
integer = bytes_of k.Integer >>= λ digits. λ ts. if nat_lt (decimal digits) (2 ^ 63) then Some (Int (pos (decimal digits)), ts) else None

unfoldable pub minus : Reader Value
minus = expect k.Minus >> bytes_of k.Integer >>= λ digits. λ ts. if nat_le (decimal digits) (2 ^ 63) then Some (Int (negative (decimal digits)), ts) else None

unfoldable pub text : Reader Value
text = bytes_of k.Text >>= λ quoted. λ ts. if nat_le (length (unquoted quoted)) 255 && list_all is_printable (unquoted quoted) then Some (Text (unquoted quoted), ts) else None

unfoldable pub literal_value : Reader Value
literal_value ts = if sees k.Integer ts then integer ts else (if sees k.Minus ts then minus ts else text ts)

abbrev pub transition_of : Option TokenKind → Option TableReference
transition_of (Some k.Inserted) = Some Inserted
transition_of (Some k.Deleted) = Some Deleted
transition_of (Some k.OldUpdated) = Some OldUpdated
transition_of (Some k.NewUpdated) = Some NewUpdated
transition_of _ = None

unfoldable pub table_by : Option TableReference → Reader TableReference
table_by (Some table) = λ ts. Some (table, next ts)
table_by None = do n ← name; pure (Named n)

unfoldable pub table : Reader TableReference
table ts = table_by (transition_of (kind_at ts)) ts

-- behind a table's name
unfoldable pub column_from : TableReference → Reader ColumnReference
column_from q = do
  expect k.Dot
  n ← name
  pure (Qualified q n)

unfoldable pub column_after : Name → Reader ColumnReference
column_after n ts = if sees k.Dot ts then column_from (Named n) ts else Some (Plain n, ts)

unfoldable pub column_by : Option TableReference → Reader ColumnReference
column_by (Some q) = λ ts. column_from q (next ts)
column_by None = do n ← name; column_after n

unfoldable pub column : Reader ColumnReference
column ts = column_by (transition_of (kind_at ts)) ts

-- ---- expressions

abbrev pub is_literal : Option TokenKind → Bool
is_literal (Some k.Integer) = true
is_literal (Some k.Minus) = true
is_literal (Some k.Text) = true
is_literal _ = false

unfoldable pub factor : Reader Expression
factor ts = if is_literal (kind_at ts) then (do v ← literal_value; pure (tree.literal v)) ts else (do c ← column; pure (tree.column c)) ts

abbrev pub multiplies : Joins Expression Expression
multiplies (Some k.Star) = Some (λ a b. tree.binary a Multiply b)
multiplies _ = None

abbrev pub adds : Joins Expression Expression
adds (Some k.Plus) = Some (λ a b. tree.binary a Add b)
adds (Some k.Minus) = Some (λ a b. tree.binary a Subtract b)
adds _ = None

unfoldable pub term : Reader Expression
term = chained multiplies factor

unfoldable pub expr : Reader Expression
expr = chained adds term

-- ---- what a query lists, and from where

unfoldable pub all_columns : Reader Items
all_columns = do
  expect k.Star
  pure tree.all

unfoldable pub count_rows : Reader Items
count_rows = do
  expect k.Count
  expect k.LeftParen
  expect k.Star
  expect k.RightParen
  pure tree.count

unfoldable pub sum_rows : Reader Items
sum_rows = do
  expect k.Sum
  expect k.LeftParen
  e ← expr
  expect k.RightParen
  pure (tree.sum_of e)

-- at most 16
unfoldable pub expressions : Reader (List Expression)
expressions = separated_to 15 k.Comma expr

abbrev pub items_by : Option TokenKind → Reader Items
items_by (Some k.Star) = all_columns
items_by (Some k.Count) = count_rows
items_by (Some k.Sum) = sum_rows
items_by _ = do es ← expressions; pure (tree.each_of es)

unfoldable pub items : Reader Items
items ts = items_by (kind_at ts) ts

unfoldable pub alias : Reader (Option Name)
alias ts = if sees k.Name ts then (do n ← name; pure (Some n)) ts else Some (None, ts)

unfoldable pub source : Reader SourceReference
source = do
  t ← table
  a ← alias
  pure (record { table = t; alias = a })

unfoldable pub sources_after : SourceReference → Reader (List SourceReference)
sources_after first ts = if sees k.Comma ts then (do expect k.Comma; second ← source; pure (first ∷ second ∷ [])) ts else Some (first ∷ [], ts)

-- one or two
unfoldable pub sources : Reader (List SourceReference)
sources = do
  first ← source
  sources_after first

-- ---- conditions

abbrev pub comparison_of : Option TokenKind → Option Comparison
comparison_of (Some k.Equal) = Some c.Equal
comparison_of (Some k.NotEqual) = Some c.NotEqual
comparison_of (Some k.Less) = Some c.Less
comparison_of (Some k.LessEqual) = Some c.LessEqual
comparison_of (Some k.Greater) = Some c.Greater
comparison_of (Some k.GreaterEqual) = Some c.GreaterEqual
comparison_of _ = None

abbrev pub ors : Joins Condition Condition
ors (Some k.Or) = Some tree.disjunction
ors _ = None

abbrev pub ands : Joins Condition Condition
ands (Some k.And) = Some tree.conjunction
ands _ = None

unfoldable pub conj : Reader Condition → Reader Condition
conj neg = chained ands neg

unfoldable pub cond : Reader Condition → Reader Condition
cond neg = chained ors (conj neg)

-- a condition in parentheses
unfoldable pub group : Reader Condition → Reader Condition
group deeper = do
  expect k.LeftParen
  a ← cond deeper
  expect k.RightParen
  pure a

-- sub reads a query one deeper
module _ (sub : Reader Query) where
  unfoldable pub subquery : Reader Query
  subquery = do
    expect k.LeftParen
    q ← sub
    expect k.RightParen
    pure q

  unfoldable pub operand : Reader Operand
  operand ts = if sees k.LeftParen ts then (do q ← subquery; pure (tree.scalar_subquery q)) ts else (do e ← expr; pure (tree.expression e)) ts

  unfoldable pub member : Expression → Reader Condition
  member e = do
    is_negated ← eat k.Not
    expect k.In
    q ← subquery
    pure (tree.is_in e is_negated q)

  unfoldable pub compared_by : Expression → Option Comparison → Reader Condition
  compared_by e (Some op) = λ ts. and_then (operand (next ts)) (λ s. pure (tree.compare e op s))
  compared_by e None = member e

  unfoldable pub predicate : Reader Condition
  predicate ts =
      if sees k.Exists ts then (do expect k.Exists; q ← subquery; pure (tree.exists q)) ts
      else (do e ← expr; (λ ts. compared_by e (comparison_of (kind_at ts)) ts)) ts

  -- deeper reads what nests one deeper
  unfoldable pub neg_with : Reader Condition → Reader Condition
  neg_with deeper ts =
      if sees k.Not ts then (do expect k.Not; a ← deeper; pure (tree.negation a)) ts
      else (if sees k.LeftParen ts then group deeper ts else predicate ts)

  -- the number bounds how deep `not` and parentheses nest
  unfoldable pub inner_neg : ℕ → Reader Condition
  inner_neg zero = refuse
  inner_neg (suc nesting) = neg_with (inner_neg nesting)

  unfoldable pub neg : ℕ → Reader Condition
  neg nesting = neg_with (inner_neg nesting)

  unfoldable pub filter : Reader Filter
  filter ts = if sees k.Where ts then (do expect k.Where; a ← cond (neg max_nesting); pure (tree.those a)) ts else Some (tree.everything, ts)

  unfoldable pub query_with : Reader Query
  query_with = do
    expect k.Select
    i ← items
    expect k.From
    ss ← sources
    f ← filter
    pure (tree.select i ss f)

-- the number bounds how deep subqueries nest
unfoldable pub inner_query : ℕ → Reader Query
inner_query zero = refuse
inner_query (suc depth) = query_with (inner_query depth)

unfoldable pub query_to : ℕ → Reader Query
query_to depth = query_with (inner_query depth)

-- ---- changes

unfoldable pub tuple : Reader (List Value)
tuple = do
  expect k.LeftParen
  vs ← separated k.Comma literal_value
  expect k.RightParen
  pure vs

unfoldable pub inserts_rows : Name → Reader Statement
inserts_rows n = do
  expect k.Values
  tuples ← separated k.Comma tuple
  pure (tree.insert_rows n tuples)

-- behind the table's name
unfoldable pub inserts_into : Name → Reader Statement
inserts_into n ts = if sees k.Values ts then inserts_rows n ts else (do q ← query_to max_depth; pure (tree.insert_query n q)) ts

unfoldable pub inserts : Reader Statement
inserts = do
  expect k.Insert
  expect k.Into
  n ← name
  inserts_into n

unfoldable pub assignment : Reader Assignment
assignment = do
  n ← name
  expect k.Equal
  s ← operand (inner_query max_depth)
  pure (record { column = n; operand = s })

unfoldable pub updates : Reader Statement
updates = do
  expect k.Update
  n ← name
  expect k.Set
  all ← separated k.Comma assignment
  f ← filter (inner_query max_depth)
  pure (tree.update n all f)

unfoldable pub deletes : Reader Statement
deletes = do
  expect k.Delete
  expect k.From
  n ← name
  f ← filter (inner_query max_depth)
  pure (tree.delete n f)

-- by the kind of the first token
abbrev pub change_by : Option TokenKind → Reader Statement
change_by (Some k.Insert) = inserts
change_by (Some k.Delete) = deletes
change_by (Some k.Update) = updates
change_by _ = refuse

unfoldable pub change : Reader Statement
change ts = change_by (kind_at ts) ts

-- ---- rules

unfoldable pub names : Reader (List Name)
names = separated k.Comma name

-- behind `updated`
unfoldable pub updated_of : Reader Trigger
updated_of ts = if sees k.LeftParen ts then (do expect k.LeftParen; ns ← names; expect k.RightParen; pure (tree.on_update_of ns)) ts else Some (tree.on_update, ts)

unfoldable pub updated : Reader Trigger
updated = do
  expect k.Updated
  updated_of

-- a word alone
unfoldable pub word : {A : Type 0} → TokenKind → A → Reader A
word kind x = do
  expect kind
  pure x

abbrev pub trigger_by : Option TokenKind → Reader Trigger
trigger_by (Some k.Inserted) = word k.Inserted tree.on_insert
trigger_by (Some k.Deleted) = word k.Deleted tree.on_delete
trigger_by _ = updated

unfoldable pub trigger : Reader Trigger
trigger ts = trigger_by (kind_at ts) ts

unfoldable pub condition_if : Reader (Option Query)
condition_if ts = if sees k.If ts then (do expect k.If; q ← query_to max_depth; pure (Some q)) ts else Some (None, ts)

unfoldable pub action : Reader Action
action ts = if sees k.Rollback ts then word k.Rollback tree.rolls_back ts else (do c ← change; pure (tree.changes c)) ts

-- at most eight
unfoldable pub actions : Reader (List Action)
actions = separated_to 7 k.Semicolon action

unfoldable pub listed : TokenKind → Reader (List Name)
listed kind ts = if sees kind ts then (do expect kind; names) ts else Some ([], ts)

unfoldable pub name_after : TokenKind → Reader Name
name_after kind = do
  expect kind
  name

abbrev pub RuleHead : Type 0
RuleHead = Name × Name × List Trigger

unfoldable pub rule_head : Reader RuleHead
rule_head = do
  n ← name_after k.Rule
  on ← name_after k.On
  expect k.When
  all ← separated k.Comma trigger
  pure (n, on, all)

abbrev pub rule_of : RuleHead → Option Query → List Action → List Name → List Name → RuleText
rule_of head query steps before after = record { name = head.0; table = head.1; triggers = head.2; condition = query; actions = steps; precedes = before; follows = after }

unfoldable pub rule_body : RuleHead → Reader RuleText
rule_body head = do
  query ← condition_if
  expect k.Then
  steps ← actions
  before ← listed k.Precedes
  after ← listed k.Follows
  pure (rule_of head query steps before after)

unfoldable pub rule : Reader RuleText
rule = do
  head ← rule_head
  rule_body head

unfoldable pub actions_then : Reader (Option (List Action))
actions_then ts = if sees k.Then ts then (do expect k.Then; all ← actions; pure (Some all)) ts else Some (None, ts)

abbrev pub alteration_of : Name → Option Query → Option (List Action) → List Name → List Name → List Name → AlterationText
alteration_of n query steps before after apart = record { name = n; condition = query; actions = steps; precedes = before; follows = after; nopriority = apart }

-- behind `alter`
unfoldable pub alteration : Reader AlterationText
alteration = do
  n ← name_after k.Rule
  query ← condition_if
  steps ← actions_then
  before ← listed k.Precedes
  after ← listed k.Follows
  apart ← listed k.NoPriority
  pure (alteration_of n query steps before after apart)

-- ---- commands

unfoldable pub column_type : Reader ColumnType
column_type ts = if sees k.IntType ts then (do expect k.IntType; pure t.Int) ts else (do expect k.TextType; pure t.Text) ts

unfoldable pub definition : Reader ColumnDefinition
definition = do
  n ← name
  type ← column_type
  pure (record { name = n; of = type })

-- at most eight
unfoldable pub columns : Reader (List ColumnDefinition)
columns = separated_to 7 k.Comma definition

unfoldable pub creates_table : Reader Command
creates_table = do
  expect k.Table
  n ← name
  expect k.LeftParen
  cs ← columns
  expect k.RightParen
  pure (tree.create_table n cs)

abbrev pub creates_by : Option TokenKind → Reader Command
creates_by (Some k.Table) = creates_table
creates_by (Some k.Ruleset) = do n ← name_after k.Ruleset; pure (tree.create_ruleset n)
creates_by _ = do r ← rule; pure (tree.create_rule r)

unfoldable pub creates : Reader Command
creates = do
  expect k.Create
  (λ ts. creates_by (kind_at ts) ts)

abbrev pub drops_by : Option TokenKind → Reader Command
drops_by (Some k.Table) = do n ← name_after k.Table; pure (tree.drop_table n)
drops_by (Some k.Rule) = do n ← name_after k.Rule; pure (tree.drop_rule n)
drops_by _ = do n ← name_after k.Ruleset; pure (tree.drop_ruleset n)

unfoldable pub drops : Reader Command
drops = do
  expect k.Drop
  (λ ts. drops_by (kind_at ts) ts)

abbrev pub processes_by : Option TokenKind → Reader Command
processes_by (Some k.Rules) = word k.Rules tree.process_rules
processes_by (Some k.Rule) = do n ← name_after k.Rule; pure (tree.process_rule n)
processes_by _ = do n ← name_after k.Ruleset; pure (tree.process_ruleset n)

unfoldable pub processes : Reader Command
processes = do
  expect k.Process
  (λ ts. processes_by (kind_at ts) ts)

unfoldable pub adds_rules : Name → Reader Command
adds_rules n = do
  expect k.AddRules
  ns ← names
  pure (tree.add_rules n ns)

unfoldable pub removes_rules : Name → Reader Command
removes_rules n = do
  expect k.DelRules
  ns ← names
  pure (tree.del_rules n ns)

unfoldable pub alters_from : Name → Reader Command
alters_from n ts = if sees k.AddRules ts then adds_rules n ts else removes_rules n ts

unfoldable pub alters_ruleset : Reader Command
alters_ruleset = do
  n ← name_after k.Ruleset
  alters_from n

abbrev pub alters_by : Option TokenKind → Reader Command
alters_by (Some k.Rule) = do r ← alteration; pure (tree.alter_rule r)
alters_by _ = alters_ruleset

unfoldable pub alters : Reader Command
alters = do
  expect k.Alter
  (λ ts. alters_by (kind_at ts) ts)

unfoldable pub activates : Reader Command
activates = do
  expect k.Activate
  n ← name_after k.Rule
  pure (tree.activate_rule n)

unfoldable pub deactivates : Reader Command
deactivates = do
  expect k.Deactivate
  n ← name_after k.Rule
  pure (tree.deactivate_rule n)

abbrev pub leading_command_by : Option TokenKind → Reader Command
leading_command_by (Some k.Open) = word k.Open tree.open_session
leading_command_by (Some k.End) = word k.End tree.end_session
leading_command_by (Some k.Begin) = word k.Begin tree.begin
leading_command_by (Some k.Commit) = word k.Commit tree.commit
leading_command_by (Some k.Rollback) = word k.Rollback tree.rollback
leading_command_by (Some k.Create) = creates
leading_command_by (Some k.Drop) = drops
leading_command_by (Some k.Alter) = alters
leading_command_by (Some k.Activate) = activates
leading_command_by (Some k.Deactivate) = deactivates
leading_command_by (Some k.Process) = processes
leading_command_by (Some k.Select) = do q ← query_to max_depth; pure (tree.query q)
leading_command_by _ = do c ← change; pure (tree.change c)

unfoldable pub leading_command : Reader Command
leading_command ts = leading_command_by (kind_at ts) ts

-- nothing follows
abbrev pub ended : Command → Reader Command
ended s [] = Some (s, [])
ended s (t ∷ ts) = None

unfoldable pub command : Reader Command
command = leading_command >>= ended
