-- Promise: what a resolved command does, and its reply.
use Rattle.std.specs.Prelude.{ℕ, Bool, true, false, ◌&&◌, ◌==◌, List, [], ◌++◌, map, length, Option, Some, None, Result, Ok, Err}
use Rattle.sb_tenant.specs.declared.bound.Bound.{Bound}
use Rattle.sb_value.specs.declared.value.Value.{Value}
use Rattle.sb_value.specs.declared.change.Change.{Change}
use Rattle.sb_value.specs.declared.lock.LockMode.{LockMode}
use Rattle.sb_value.specs.declared.refusal.Verdict.{Verdict}
use Rattle.sb_value.specs.declared.refusal.Refusal.{Refusal}
use Rattle.sb_value.specs.declared.refusal.Refusal.TheVariants.{Locked}
use Rattle.sb_value.specs.Table.{name_at}
use Rattle.sb_value.specs.Locks.{first_conflict, with_locks}
use Rattle.sb_check.specs.Condition.{Query}
use Rattle.sb_check.specs.declared.tree.Statement.{Statement}
use Rattle.sb_eval.specs.Seen.{no_transition}
use Rattle.sb_eval.specs.Statement.{query_locks, statement_locks}
use Rattle.sb_process.specs.Consider.{statement_effect, select_within}
use Rattle.sb_process.specs.Setting.{Progress, seen_with}
use Rattle.sb_process.specs.Process.{Processing, Standing, goes_on, taken_back, process, standing}
use Rattle.sb_process.specs.declared.Outcome.{Outcome}
use Rattle.sb_process.specs.declared.Outcome.TheVariants.{Done, ByRule, ByError, ByLimit}
use Rattle.sb_catalog.specs.Definitions.{is_member}
use Rattle.sb_catalog.specs.Rules.{is_active}
use Rattle.sb_tenant.specs.declared.reply.Reply.{Reply}
use Rattle.sb_tenant.specs.declared.reply.Reply.TheVariants as reply
use Rattle.sb_tenant.specs.State.{State, closed, idle, active, Catalog, with_session, setting_of, progress_of, with_progress, rolled_back, committed}
use Rattle.sb_tenant.specs.Catalog.{with_table, without_table, with_rule, with_altered, without_rule, with_active, with_ruleset, without_ruleset, with_members, without_members, rule_name}
use Rattle.sb_tenant.specs.Resolved.{Resolved, open_session, end_session, begin, commit, rollback, process_rules, process_ruleset, process_rule, create_table, drop_table, create_rule, alter_rule, drop_rule, activate_rule, deactivate_rule, create_ruleset, drop_ruleset, add_rules, del_rules, query, change}

-- ---- statements

-- the rows of a select, or its refusal
abbrev pub reply_rows : Result (List (List Value)) Refusal → Reply
reply_rows (Err refusal) = reply.No refusal
reply_rows (Ok rows) = reply.Rows rows

-- a select with its locks taken
abbrev pub select_seen : ℕ → State → ℕ → Query → Progress → State × Reply
select_seen tenant state s q progress =
    (with_progress state s progress, reply_rows (select_within (seen_with (setting_of tenant state s) no_transition progress) q progress.left))

-- a refused statement keeps its locks
abbrev pub change_seen : State → ℕ → Progress → Result (List Change × Option ℕ) Refusal → State × Reply
change_seen state s progress (Err refusal) = (with_progress state s progress, reply.No refusal)
change_seen state s progress (Ok effect) =
    (with_progress state s (record progress { changes = progress.changes ++ effect.0 }), reply.Count (length effect.0))

-- the locks are asked for first; a conflict takes none
abbrev pub with_request : Bound → State → ℕ → List (ℕ × LockMode) → (Progress → State × Reply) → State × Reply
with_request bound state s request next =
    elim (first_conflict state.locks s request) [
      | Some table ↦ (state, reply.No (Locked (name_at state.catalog.tables table)))
      | None ↦ next (record (progress_of bound.work state s) { locks = with_locks state.locks s request })
    ]

-- a statement with its locks taken
abbrev pub perform_change : ℕ → State → ℕ → Statement → Progress → State × Reply
perform_change tenant state s statement progress =
    change_seen state s progress (statement_effect (setting_of tenant state s) no_transition statement progress)

-- ---- assertion points

-- the trace with the rules' names
abbrev pub named : Catalog → List (ℕ × Verdict) → List (List ℕ × Verdict)
named catalog trace = map (λ v. (rule_name catalog v.0, v.1)) trace

-- the reply of an assertion point
abbrev pub reply_of : Catalog → Outcome → List (List ℕ × Verdict) → Reply
reply_of catalog Done trace = reply.Done trace
reply_of catalog (ByRule r) trace = reply.ByRule (rule_name catalog r) trace
reply_of catalog (ByError r refusal) trace = reply.ByError (rule_name catalog r) refusal trace
reply_of catalog ByLimit trace = reply.ByLimit trace

-- the state by what the transaction has come to: it goes on and is finished so, or all of it is taken back
abbrev pub stands_as : State → ℕ → (State → State) → Standing → State
stands_as state s finish (goes_on progress) = finish (with_progress state s progress)
stands_as state s finish taken_back = rolled_back state s

-- what stands after processing, and the reply
abbrev pub after_processing : State → ℕ → (State → State) → Processing → State × Reply
after_processing state s finish p =
    (stands_as state s finish (standing p), reply_of state.catalog p.outcome (named state.catalog p.trace))

-- the rules that are eligible here are processed
abbrev pub process_at : ℕ → Bound → State → ℕ → (ℕ → Bool) → (State → State) → State × Reply
process_at tenant bound state s eligible finish =
    after_processing state s finish (process bound.considerations (setting_of tenant state s) eligible (progress_of bound.work state s))

-- after `process` the transaction goes on
abbrev pub stays : State → State
stays state = state

-- ---- all commands

-- a command that defines something is answered `ok`
abbrev pub defined : State → Catalog → State × Reply
defined state catalog = (record state { catalog = catalog }, reply.Ok)

-- what each command does
abbrev pub perform : ℕ → Bound → State → ℕ → Resolved → State × Reply
perform tenant bound state s open_session = (with_session state s idle, reply.Ok)
perform tenant bound state s end_session = (with_session (rolled_back state s) s closed, reply.Ok)
perform tenant bound state s begin = (with_session state s (active [] (λ id. 0)), reply.Ok)
perform tenant bound state s commit = process_at tenant bound state s (is_active state.catalog.rules) (λ after. committed after s)
perform tenant bound state s rollback = (rolled_back state s, reply.Ok)
perform tenant bound state s process_rules = process_at tenant bound state s (is_active state.catalog.rules) stays
perform tenant bound state s (process_ruleset name) = process_at tenant bound state s (λ id. is_active state.catalog.rules id && is_member state.catalog.rulesets name id) stays
perform tenant bound state s (process_rule r) = process_at tenant bound state s (λ id. (id == r) && is_active state.catalog.rules id) stays
perform tenant bound state s (create_table name columns) = defined state (with_table state.catalog name columns)
perform tenant bound state s (drop_table id) = defined state (without_table state.catalog id)
perform tenant bound state s (create_rule new) = defined state (with_rule state.catalog new)
perform tenant bound state s (alter_rule new) = defined state (with_altered state.catalog new)
perform tenant bound state s (drop_rule id) = defined state (without_rule state.catalog id)
perform tenant bound state s (activate_rule id) = defined state (with_active state.catalog id true)
perform tenant bound state s (deactivate_rule id) = defined state (with_active state.catalog id false)
perform tenant bound state s (create_ruleset name) = defined state (with_ruleset state.catalog name)
perform tenant bound state s (drop_ruleset name) = defined state (without_ruleset state.catalog name)
perform tenant bound state s (add_rules name ids) = defined state (with_members state.catalog name ids)
perform tenant bound state s (del_rules name ids) = defined state (without_members state.catalog name ids)
perform tenant bound state s (query q) = with_request bound state s (query_locks q) (select_seen tenant state s q)
perform tenant bound state s (change statement) = with_request bound state s (statement_locks statement) (perform_change tenant state s statement)
