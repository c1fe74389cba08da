-- What the choices come to, from bytes to bytes, by computation.
use Rattle.std.specs.Prelude.{◌≡◌, ℕ, List, [], ◌∷◌, ◌++◌, refl, codes}
use Rattle.std.specs.Fmt.{digits}
use Rattle.sb_syntax.specs.Text.{command_of}
use Rattle.sb_wire.specs.Output.{prefixed}
use Rattle.sb_wire.proofs.Script.{answered_by}

abbrev opened : List (List ℕ)
opened = codes "open" ∷ codes "create table t (a int)" ∷ codes "create table h (a int)" ∷ []

abbrev opened_replies : List (List ℕ)
opened_replies = codes "ok" ∷ codes "ok" ∷ codes "ok" ∷ []

-- behind them these lines are told these replies
abbrev Tells : List (List ℕ) → List (List ℕ) → Type 0
Tells lines replies = answered_by (opened ++ lines) ≡ prefixed (codes "0 0") (opened_replies ++ replies)

-- items are evaluated for `exists`, where their values don't matter
pub items_count_for_exists : Tells (codes "begin" ∷ codes "insert into t values (9223372036854775807)" ∷ codes "select * from t where exists (select a + 1 from t)" ∷ codes "select * from t where exists (select a from t)" ∷ [])
    (codes "ok" ∷ codes "ok 1" ∷ codes "no 30 Overflow" ∷ codes "rows 1" ∷ codes "9223372036854775807" ∷ [])
items_count_for_exists = unfold digits command_of in refl

-- an update's operands are evaluated on the rows that pass, its condition on all
pub operands_of_passing_rows : Tells (codes "begin" ∷ codes "insert into t values (9223372036854775807), (1)" ∷ codes "update t set a = a + 1 where a = 1" ∷ codes "update t set a = 0 where a + 1 > 0" ∷ codes "select * from t" ∷ [])
    (codes "ok" ∷ codes "ok 2" ∷ codes "ok 1" ∷ codes "no 30 Overflow" ∷ codes "rows 2" ∷ codes "9223372036854775807" ∷ codes "2" ∷ [])
operands_of_passing_rows = unfold digits command_of in refl

-- a rule's condition that counts is true, since it gives one row
pub count_is_a_row : Tells (codes "create rule r on t when inserted if select count(*) from h then insert into h values (7)" ∷ codes "begin" ∷ codes "insert into t values (1)" ∷ codes "commit" ∷ codes "begin" ∷ codes "select * from h" ∷ [])
    (codes "ok" ∷ codes "ok" ∷ codes "ok 1" ∷ codes "done 1" ∷ codes "r true" ∷ codes "ok" ∷ codes "rows 1" ∷ codes "7" ∷ [])
count_is_a_row = unfold digits command_of in refl

-- both operands are walked before their types are looked at, and an item's type before the condition
pub walk_goes_left_to_right : Tells (codes "begin" ∷ codes "select * from t where 'x' + nocol = 1" ∷ codes "select * from t where 'x' * 2 + nocol = 1" ∷ codes "select sum('x') from t where nocol = 1" ∷ codes "select * from t where nocol in (select z from t)" ∷ codes "select * from t where 'x' in (select a, a from t)" ∷ codes "select * from t where 'x' in (select a from t)" ∷ codes "select inserted.a from t" ∷ [])
    (codes "ok" ∷ codes "no 22 NoColumn" ∷ codes "no 23 BadType" ∷ codes "no 23 BadType" ∷ codes "no 22 NoColumn" ∷ codes "no 25 WrongCount" ∷ codes "no 23 BadType" ∷ codes "no 22 NoColumn" ∷ [])
walk_goes_left_to_right = unfold digits command_of in refl

-- leading zeros and an own sign; a `-` after a term is the operator
pub numbers_as_written : Tells (codes "begin" ∷ codes "insert into t values (007), (- 5)" ∷ codes "select a - -1 from t" ∷ codes "select a - 9223372036854775808 from t" ∷ codes "select a - -9223372036854775808 from h" ∷ [])
    (codes "ok" ∷ codes "ok 2" ∷ codes "rows 2" ∷ codes "8" ∷ codes "-4" ∷ codes "no 10 Syntax" ∷ codes "rows 0" ∷ [])
numbers_as_written = unfold digits command_of in refl

-- a rule uses its sources and targets, active or not; an alias that is spelled like a table doesn't use it
pub what_uses_a_table : Tells (codes "create rule r on t when inserted then delete from t where a in (select h.a from t h)" ∷ codes "drop table h" ∷ codes "create table h (a int)" ∷ codes "create rule q on t when inserted then delete from h" ∷ codes "deactivate rule q" ∷ codes "drop table h" ∷ codes "drop table t" ∷ codes "drop rule q" ∷ codes "drop table h" ∷ [])
    (codes "ok" ∷ codes "ok" ∷ codes "ok" ∷ codes "ok" ∷ codes "ok" ∷ codes "no 57 TableInUse" ∷ codes "no 57 TableInUse" ∷ codes "ok" ∷ codes "ok" ∷ [])
what_uses_a_table = unfold digits command_of in refl

-- triggers and columns may be named twice; with `updated` all net updated tuples are shown
pub repeated_triggers : Tells (codes "create rule r on t when updated, updated, updated(a, a) then insert into h select a from new-updated" ∷ codes "begin" ∷ codes "insert into t values (1), (2)" ∷ codes "process rules" ∷ codes "commit" ∷ codes "begin" ∷ codes "update t set a = a + 10 where a = 1" ∷ codes "commit" ∷ codes "begin" ∷ codes "select * from h" ∷ [])
    (codes "ok" ∷ codes "ok" ∷ codes "ok 2" ∷ codes "done 0" ∷ codes "done 0" ∷ codes "ok" ∷ codes "ok 1" ∷ codes "done 1" ∷ codes "r true" ∷ codes "ok" ∷ codes "rows 1" ∷ codes "11" ∷ [])
repeated_triggers = unfold digits command_of in refl

-- a rule that names itself names no rule yet; a transition table needs its trigger
pub names_before_limits : Tells (codes "create rule r on t when inserted then rollback precedes r" ∷ codes "create rule r on t when inserted then insert into h select a from deleted" ∷ codes "create rule r on t when updated(a) then insert into h select old-updated.a from old-updated" ∷ codes "create rule r on u when inserted then rollback" ∷ codes "create rule q on t when updated(b) then rollback" ∷ [])
    (codes "no 50 NoRule" ∷ codes "no 26 BadTransition" ∷ codes "ok" ∷ codes "no 51 RuleExists" ∷ codes "no 22 NoColumn" ∷ [])
names_before_limits = unfold digits command_of in refl

-- a `rollback` undoes the transaction and ends processing; the actions after it don't run
pub rollback_action : Tells (codes "create rule r on t when inserted then insert into h values (1); rollback; insert into h values (2)" ∷ codes "begin" ∷ codes "insert into t values (1)" ∷ codes "commit" ∷ codes "commit" ∷ codes "begin" ∷ codes "select * from t" ∷ codes "select * from h" ∷ [])
    (codes "ok" ∷ codes "ok" ∷ codes "ok 1" ∷ codes "rolledback rule r 1" ∷ codes "r true" ∷ codes "no 42 NoTransaction" ∷ codes "ok" ∷ codes "rows 0" ∷ codes "rows 0" ∷ [])
rollback_action = unfold digits command_of in refl

-- a statement reads its tables as they stood before it; no rows are no changes
pub rows_of_an_insert : Tells (codes "begin" ∷ codes "insert into t select a from t" ∷ codes "insert into t values (1), (2)" ∷ codes "insert into t select a + 10 from t" ∷ codes "select * from t where a > 1 and not a = 11" ∷ codes "delete from t where a in (select x.a from t x, t y where x.a = y.a + 10)" ∷ codes "select count(*) from t" ∷ [])
    (codes "ok" ∷ codes "ok 0" ∷ codes "ok 2" ∷ codes "ok 2" ∷ codes "rows 2" ∷ codes "2" ∷ codes "12" ∷ codes "ok 2" ∷ codes "rows 1" ∷ codes "2" ∷ [])
rows_of_an_insert = unfold digits command_of in refl

-- what has no command is Syntax even on a closed session
pub closed_and_open_sessions : Tells (codes "end" ∷ codes "selec" ∷ codes "begin" ∷ codes "end" ∷ codes "open" ∷ codes "begin" ∷ codes "open" ∷ [])
    (codes "ok" ∷ codes "no 10 Syntax" ∷ codes "no 44 NotOpen" ∷ codes "no 44 NotOpen" ∷ codes "ok" ∷ codes "ok" ∷ codes "no 45 AlreadyOpen" ∷ [])
closed_and_open_sessions = unfold digits command_of in refl
