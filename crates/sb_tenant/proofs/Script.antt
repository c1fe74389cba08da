-- Scripts of commands, each in its session.
use Rattle.std.specs.Prelude.{ℕ, List, [], ◌∷◌, map, Option, Some, None, pos, codes}
use Rattle.sb_tenant.specs.declared.bound.Bound.{Bound}
use Rattle.sb_value.specs.declared.value.Value.{Value}
use Rattle.sb_value.specs.declared.value.Value.TheVariants.{Int}
use Rattle.sb_value.specs.declared.value.ColumnType.TheVariants as type
use Rattle.sb_value.specs.declared.value.ColumnDefinition.{ColumnDefinition}
use Rattle.sb_value.specs.declared.refusal.Refusal.{Refusal}
use Rattle.sb_value.specs.declared.refusal.Verdict.{Verdict}
use Rattle.sb_value.specs.declared.refusal.Verdict.TheVariants as verdict
use Rattle.sb_syntax.specs.declared.tree.Arithmetic.TheVariants.{Add}
use Rattle.sb_syntax.specs.declared.tree.Comparison.TheVariants.{Equal, Less}
use Rattle.sb_syntax.specs.declared.tree.TableReference.{TableReference}
use Rattle.sb_syntax.specs.declared.tree.TableReference.TheVariants.{Named}
use Rattle.sb_syntax.specs.declared.tree.ColumnReference.TheVariants.{Plain, Qualified}
use Rattle.sb_syntax.specs.declared.tree.SourceReference.{SourceReference}
use Rattle.sb_syntax.specs.Tree.{Name, Expression, literal, column, binary, all, each_of, compare, expression, Filter, everything, those, Query, select, Statement, insert_rows, insert_query, delete, update, Action, changes, Trigger, on_insert, Command, open_session, begin, commit, create_table, create_rule, query, change}
use Rattle.sb_tenant.specs.declared.reply.Reply.{Reply}
use Rattle.sb_tenant.specs.declared.reply.Reply.TheVariants as reply
use Rattle.sb_tenant.specs.State.{State, opening}
use Rattle.sb_tenant.specs.Step.{reply_to_command}

-- ---- running a script

-- so many considerations, and any work
abbrev pub most : ℕ → Bound
most considerations = record { considerations = considerations; work = None }

-- the replies to commands of sessions, from a state on
abbrev replies_from : Bound → State → List (ℕ × Command) → List Reply
replies_from bound state [] = []
replies_from bound state (c ∷ cs) = let r = reply_to_command 0 bound state c.0 c.1 in r.1 ∷ replies_from bound r.0 cs

-- from the opening state
abbrev pub replies_in_sessions : ℕ → List (ℕ × Command) → List Reply
replies_in_sessions considerations script = replies_from (most considerations) opening script

-- the replies to commands of one session
abbrev pub replies : ℕ → List Command → List Reply
replies considerations script = replies_in_sessions considerations (map (λ c. (0, c)) script)

-- ---- values, names and expressions

abbrev pub int : ℕ → Value
int n = Int (pos n)

abbrev pub row : ℕ → List Value
row n = int n ∷ []

abbrev pub t : Name
t = codes "t"

abbrev pub h : Name
h = codes "h"

abbrev pub a : Name
a = codes "a"

abbrev pub b : Name
b = codes "b"

abbrev pub integer_column : Name → ColumnDefinition
integer_column name = record { name = name; of = type.Int }

abbrev pub text_column : Name → ColumnDefinition
text_column name = record { name = name; of = type.Text }

abbrev pub named : Name → Expression
named name = column (Plain name)

abbrev pub of_table : Name → Name → Expression
of_table table name = column (Qualified (Named table) name)

abbrev pub number : ℕ → Expression
number n = literal (int n)

abbrev pub equals : Expression → Expression → Filter
equals x y = those (compare x Equal (expression y))

abbrev pub below : Expression → ℕ → Filter
below x n = those (compare x Less (expression (number n)))

-- ---- queries and statements

abbrev pub source : TableReference → SourceReference
source table = record { table = table; alias = None }

abbrev pub aliased : Name → Name → SourceReference
aliased table alias = record { table = Named table; alias = Some alias }

abbrev pub all_of : TableReference → Filter → Query
all_of table filter = select all (source table ∷ []) filter

abbrev pub a_of : TableReference → Query
a_of table = select (each_of (named a ∷ [])) (source table ∷ []) everything

abbrev pub columns_of : List Name → List Name → Query
columns_of names tables = select (each_of (map named names)) (map (λ n. source (Named n)) tables) everything

abbrev pub show : Name → Command
show table = query (all_of (Named table) everything)

abbrev pub insert : Name → List (List Value) → Command
insert table rows = change (insert_rows table rows)

abbrev pub set : Name → Name → Expression → Filter → Statement
set table name e filter = update table (record { column = name; operand = expression e } ∷ []) filter

abbrev pub plus_one : Expression
plus_one = binary (named a) Add (number 1)

-- ---- two tables of one column, and rules on the first

abbrev pub start : List Command
start = open_session ∷ create_table t (integer_column a ∷ []) ∷ create_table h (integer_column a ∷ []) ∷ []

abbrev pub started : List Reply
started = reply.Ok ∷ reply.Ok ∷ reply.Ok ∷ []

abbrev pub rule : Name → List Trigger → Option Query → List Action → List Name → List Name → Command
rule name triggers condition actions precedes follows = create_rule (record {
  name = name;
  table = t;
  triggers = triggers;
  condition = condition;
  actions = actions;
  precedes = precedes;
  follows = follows;
})

-- `insert into h select a from` a table
abbrev pub copies : TableReference → Action
copies table = changes (insert_query h (a_of table))

-- when inserted then delete from h
abbrev pub empties_h : Name → List Name → List Name → Command
empties_h name precedes follows = rule name (on_insert ∷ []) None (changes (delete h everything) ∷ []) precedes follows

-- ---- replies

abbrev pub no : Refusal → Reply
no r = reply.No r

abbrev pub considered : Name → List ℕ × Verdict
considered name = (name, verdict.True)

abbrev pub not_true : Name → List ℕ × Verdict
not_true name = (name, verdict.False)

abbrev pub refused : Name → List ℕ × Verdict
refused name = (name, verdict.Error)

abbrev pub done : List (List ℕ × Verdict) → Reply
done trace = reply.Done trace

-- begin, insert into t values (n)
abbrev pub inserts : ℕ → List Command
inserts n = begin ∷ insert t (row n ∷ []) ∷ []

abbrev pub transaction : List Command
transaction = begin ∷ insert t (row 1 ∷ []) ∷ commit ∷ []
