-- Limits, the order of locks, overflow, a full trail and an abort, by computation.
use Rattle.std.specs.Prelude.{◌≡◌, ℕ, zero, suc, ◌+◌, true, false, List, [], ◌∷◌, ◌++◌, map, drop, Some, None, refl, codes, pos, negsuc}
use Rattle.sb_value.specs.declared.refusal.Refusal.TheVariants as refusal
use Rattle.sb_value.specs.declared.lock.LockMode.TheVariants.{Write}
use Rattle.sb_value.specs.declared.value.Value.{Value}
use Rattle.sb_value.specs.declared.value.Value.TheVariants.{Int}
use Rattle.sb_syntax.specs.declared.tree.Comparison.TheVariants.{Equal, Greater}
use Rattle.sb_syntax.specs.declared.tree.TableReference.TheVariants.{Named}
use Rattle.sb_syntax.specs.Text.{command_of}
use Rattle.sb_syntax.specs.Tree.{Name, all, count, sum_of, everything, those, compare, disjunction, expression, scalar_subquery, select, update, insert_query, delete, is_in, Command, open_session, begin, rollback, create_table, create_ruleset, query, change}
use Rattle.sb_tenant.specs.declared.reply.Answer.{Answer}
use Rattle.sb_tenant.specs.declared.reply.Entry.{Entry}
use Rattle.sb_tenant.specs.declared.reply.Reply.TheVariants as reply
use Rattle.sb_tenant.specs.State.{State, idle, opening, session_at, has_transaction, is_open, with_session}
use Rattle.sb_tenant.specs.Limits.{trail_limit}
use Rattle.sb_tenant.specs.Step.{step}
use Rattle.sb_tenant.specs.Trail.{entry_of, state_of}
use Rattle.sb_tenant.proofs.Script.{most, replies, replies_in_sessions, row, t, h, a, integer_column, named, number, source, a_of, show, insert, b, aliased, plus_one, start, no}

-- ---- limits of the catalog

-- commands for the names that are the numbers from k on
abbrev each_from : ℕ → ℕ → (Name → Command) → List Command
each_from zero k form = []
each_from (suc n) k form = form (k ∷ []) ∷ each_from n (k + 1) form

pub sixteen_tables : drop 17 (replies 1000 (open_session ∷ each_from 17 0 (λ name. create_table name (integer_column a ∷ [])))) ≡ no refusal.TooManyTables ∷ []
sixteen_tables = refl

pub sixteen_rulesets : drop 17 (replies 1000 (open_session ∷ each_from 17 0 create_ruleset)) ≡ no refusal.TooManyRulesets ∷ []
sixteen_rulesets = refl

-- ---- locks in the order of mention

-- session 0 holds t and session 2 holds h: an insert mentions its target first, a query its first source, an update its assignments before its condition
pub first_table_mentioned : drop 10 (replies_in_sessions 1000 (map (λ c. (0, c)) (start ++ create_table (codes "u") (integer_column a ∷ []) ∷ []) ++ (1, open_session) ∷ (2, open_session)
    ∷ (0, begin) ∷ (0, insert t (row 1 ∷ [])) ∷ (2, begin) ∷ (2, insert h (row 2 ∷ []))
    ∷ (1, begin) ∷ (1, change (insert_query t (a_of (Named h)))) ∷ (1, change (insert_query h (a_of (Named t))))
    ∷ (1, query (select all (source (Named h) ∷ source (Named t) ∷ []) everything))
    ∷ (1, change (update (codes "u") (record { column = a; operand = scalar_subquery (select (sum_of (named a)) (source (Named t) ∷ []) everything) } ∷ []) (those (is_in (named a) false (a_of (Named h))))))
    ∷ (1, change (delete (codes "u") (those (is_in (named a) false (a_of (Named h)))))) ∷ (1, show (codes "u")) ∷ []))
    ≡ reply.Ok ∷ no (refusal.Locked t) ∷ no (refusal.Locked h) ∷ no (refusal.Locked h) ∷ no (refusal.Locked t) ∷ no (refusal.Locked h) ∷ reply.Rows [] ∷ []
first_table_mentioned = refl

-- ---- overflow

-- both sides of `or` are evaluated; a sum is exact before it is looked at; the refused statements change nothing
pub overflow : drop 3 (replies 1000 (start ++ begin ∷ insert t ((Int (pos 9223372036854775807) ∷ []) ∷ row 1 ∷ [])
    ∷ change (update t (record { column = a; operand = expression (number 0) } ∷ []) (those (disjunction (compare (named a) Equal (expression (number 9223372036854775807))) (compare plus_one Greater (expression (number 0))))))
    ∷ query (select count (source (Named t) ∷ []) (those (compare (named a) Greater (expression (number 0)))))
    ∷ query (select (sum_of (named a)) (source (Named t) ∷ []) everything)
    ∷ insert t ((Int (negsuc 9223372036854775807) ∷ []) ∷ [])
    ∷ query (select (sum_of (named a)) (source (Named t) ∷ []) everything) ∷ rollback ∷ []))
    ≡ reply.Ok ∷ reply.Count 2 ∷ no refusal.Overflow ∷ reply.Rows (row 2 ∷ []) ∷ no refusal.Overflow ∷ reply.Count 1 ∷ reply.Rows (row 0 ∷ []) ∷ reply.Ok ∷ []
overflow = refl

-- ---- a limit on rows

abbrev rows_to : ℕ → List (List Value)
rows_to zero = []
rows_to (suc n) = row n ∷ rows_to n

-- 16 rows three times over are 4,096, which a select command may give; 17 rows are too many
pub too_many_rows : drop 6 (replies 1000 (start ++ begin ∷ insert t (rows_to 17)
    ∷ query (select count (source (Named t) ∷ aliased t h ∷ aliased t b ∷ []) everything) ∷ query (select all (source (Named t) ∷ aliased t h ∷ aliased t b ∷ []) everything) ∷ []))
    ≡ no refusal.TooManyRows ∷ []
too_many_rows = refl

-- ---- a full trail

abbrev full : State
full = record (with_session opening 0 idle) { steps = trail_limit }

abbrev answer_to : State → List ℕ → Answer
answer_to state line = (step 0 (most 1000) state 0 line).1

abbrev refused_by_full : Answer
refused_by_full = record { number = None; reply = no refusal.TrailFull }

pub full_trail_refuses : answer_to full (codes "begin") ≡ refused_by_full
full_trail_refuses = refl

pub full_trail_refuses_end_with_a_space : answer_to full (codes "end ") ≡ refused_by_full
full_trail_refuses_end_with_a_space = refl

pub full_trail_ends_the_session : answer_to full (codes "end") ≡ record { number = Some (trail_limit + 1); reply = reply.Ok }
unfolding command_of
full_trail_ends_the_session = refl

pub full_trail_refuses_end_of_closed : answer_to (step 0 (most 1000) full 0 (codes "end")).0 (codes "end") ≡ refused_by_full
unfolding command_of
full_trail_refuses_end_of_closed = refl

-- ---- an abort

abbrev entries : List Entry
entries = entry_of 0 (codes "open") reply.Ok ∷ entry_of 0 (codes "create table t (a int)") reply.Ok ∷ entry_of 0 (codes "begin") reply.Ok
    ∷ entry_of 0 (codes "insert into t values (1)") (reply.Count 1) ∷ entry_of 0 (codes "insert into t values (1)") (no refusal.NoMemory) ∷ []

-- after an aborted insert
abbrev aborted : State
aborted = state_of 0 (most 1000) entries

pub abort_ends_the_transaction : has_transaction (session_at aborted 0) ≡ false
unfolding command_of
abort_ends_the_transaction = refl

pub abort_keeps_the_session : is_open (session_at aborted 0) ≡ true
unfolding command_of
abort_keeps_the_session = refl

pub abort_releases_locks : aborted.locks 0 0 Write ≡ false
unfolding command_of
abort_releases_locks = refl

pub abort_is_a_step : aborted.steps ≡ 5
unfolding command_of
abort_is_a_step = refl
