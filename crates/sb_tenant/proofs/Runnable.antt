-- Rules that can run: the tables that they name are there, whatever else the catalog has.
use Rattle.std.proofs.lemmas.Bool.{or_parts}
use Rattle.std.proofs.Common.{◌≡◌, ◌∙◌, ℕ, ◌≤◌, Bool, true, false, not, ◌||◌, cond, nat_eq, List, [], ◌∷◌, ◌++◌, map, length, refl, sym, ap, subst}
use Rattle.std.specs.Prelude.{filter_map, Option, None, Some, unwrap_or, IsTrue, IsFalse, ◌==◌}
use Rattle.std.specs.List.{list_any}
use Rattle.std.proofs.lemmas.List.Folds.{list_any-append}
use Rattle.sb_value.specs.declared.lock.LockMode.{LockMode}
use Rattle.sb_value.specs.declared.lock.LockMode.TheVariants.{Write}
use Rattle.sb_value.specs.Table.{has_table}
use Rattle.sb_check.specs.Condition.{Query}
use Rattle.sb_check.specs.Mentions.{sources_of, query_sources, assignment_sources}
use Rattle.sb_check.specs.RuleParts.{Parts, NewParts}
use Rattle.sb_check.specs.There as check
use Rattle.sb_check.specs.declared.tree.Action.{Action}
use Rattle.sb_check.specs.declared.tree.Action.TheVariants as action
use Rattle.sb_check.specs.declared.tree.Source.{Source}
use Rattle.sb_check.specs.declared.tree.Source.TheVariants.{Table, Inserted, Deleted, OldUpdated, NewUpdated}
use Rattle.sb_check.specs.declared.tree.Statement.{Statement}
use Rattle.sb_check.specs.declared.tree.Statement.TheVariants.{InsertRows, InsertQuery, Delete, Update}
use Rattle.sb_syntax.specs.Tree.{RuleText}
use Rattle.sb_syntax.specs.Tree as text
use Rattle.sb_eval.specs.Statement.{read_of, write_of, query_locks, statement_locks}
use Rattle.sb_tables.specs.Held.{Held, entries, has_number}
use Rattle.sb_catalog.specs.Rules.{rule_of, without_rule, with_active, written_or, set_parts, with_parts}
use Rattle.sb_catalog.specs.Uses.{is_table, has_source, statement_names, action_names, condition_names, rule_names, is_used}
use Rattle.sb_catalog.specs.declared.rule.Rule.{Rule}
use Rattle.sb_process.specs.Request.{AreThere}
use Rattle.sb_process.specs.Work.{IsConditionThere, AreActionsThere, CanRun}

-- ---- what the walk finds is there

pub has_entry : (tables : List Held) (id : ℕ) → has_table (entries tables) id ≡ has_number tables id
has_entry [] id = refl
has_entry (h ∷ tables) id = ap (λ (b : Bool). nat_eq h.id id || b) (has_entry tables id)

pub reads_there : (tables : List Held) (sources : List Source) → check.AreThere (entries tables) sources → AreThere tables (filter_map read_of sources)
reads_there tables [] h = tt
reads_there tables (Table id ∷ sources) h = (sym (has_entry tables id) ∙ h.0, reads_there tables sources h.1)
reads_there tables (Inserted ∷ sources) h = reads_there tables sources h.1
reads_there tables (Deleted ∷ sources) h = reads_there tables sources h.1
reads_there tables (OldUpdated ∷ sources) h = reads_there tables sources h.1
reads_there tables (NewUpdated ∷ sources) h = reads_there tables sources h.1

written_there : (tables : List Held) (target : ℕ) (r : ℕ × LockMode) (b : Bool) → IsTrue (has_number tables target) → IsTrue (has_number tables r.0) → IsTrue (has_number tables (cond b (target, Write) r).0)
written_there tables target r true h k = h
written_there tables target r false h k = k

writes_there : (tables : List Held) (target : ℕ) (request : List (ℕ × LockMode)) → IsTrue (has_number tables target) → AreThere tables request → AreThere tables (map (write_of target) request)
writes_there tables target [] h k = tt
writes_there tables target (r ∷ request) h k = (written_there tables target r (r.0 == target) h k.0, writes_there tables target request h k.1)

target_there : (tables : List Held) (id : ℕ) (sources : List Source) → check.IsTable (entries tables) id → check.AreThere (entries tables) sources
    → AreThere tables ((id, Write) ∷ map (write_of id) (filter_map read_of sources))
target_there tables id sources h k =
    let there : IsTrue (has_number tables id) = sym (has_entry tables id) ∙ h in
    (there, writes_there tables id (filter_map read_of sources) there (reads_there tables sources k))

pub statement_there : (tables : List Held) (s : Statement) → check.IsStatementThere (entries tables) s → AreThere tables (statement_locks s)
statement_there tables (InsertRows id rows) h = target_there tables id [] h tt
statement_there tables (InsertQuery id q) h = target_there tables id (query_sources q) h.0 h.1
statement_there tables (Delete id c) h = target_there tables id (sources_of c) h.0 h.1
statement_there tables (Update id assignments c) h = target_there tables id (assignment_sources assignments ++ sources_of c) h.0 h.1

condition_there : (tables : List Held) (q : Option Query) → check.IsConditionThere (entries tables) q → IsConditionThere tables q
condition_there tables None h = tt
condition_there tables (Some q) h = reads_there tables (query_sources q) h

actions_there : (tables : List Held) (actions : List Action) → check.AreActionsThere (entries tables) actions → AreActionsThere tables actions
actions_there tables [] h = tt
actions_there tables (action.Rollback ∷ actions) h = actions_there tables actions h
actions_there tables (action.Change s ∷ actions) h = (statement_there tables s h.0, actions_there tables actions h.1)

-- ---- more rules, and fewer

runs_last : (tables : List Held) (rules : List Rule) (rule : Rule) → CanRun tables rules → CanRun tables (rule ∷ []) → CanRun tables (rules ++ rule ∷ [])
runs_last tables [] rule h k = k
runs_last tables (r ∷ rules) rule h k = (h.0, runs_last tables rules rule h.1 k)

pub new_rule_runs : (tables : List Held) (rules : List Rule) (id : ℕ) (text : RuleText) (parts : Parts) → CanRun tables rules → check.ArePartsThere (entries tables) text parts → length text.actions ≤ 8
    → CanRun tables (rules ++ rule_of id text.name parts ∷ [])
new_rule_runs tables rules id text parts h there few =
    let count : length parts.3 ≤ 8 = subst (λ (n : ℕ). n ≤ 8) (sym there.count) few in
    runs_last tables rules (rule_of id text.name parts) h ((condition_there tables parts.2 there.condition, actions_there tables parts.3 there.actions, count), tt)

pub others_run : (tables : List Held) (rules : List Rule) (id : ℕ) → CanRun tables rules → CanRun tables (without_rule rules id)
others_run tables [] id h = tt
others_run tables (r ∷ rules) id h = by (r.id == id) (others_run tables rules id h.1)
  where
    by : (b : Bool) → CanRun tables (without_rule rules id) → CanRun tables (cond (not b) (r ∷ without_rule rules id) (without_rule rules id))
    by true rest = rest
    by false rest = (h.0, rest)

pub run_active : (tables : List Held) (rules : List Rule) (id : ℕ) (active : Bool) → CanRun tables rules → CanRun tables (with_active rules id active)
run_active tables [] id active h = tt
run_active tables (r ∷ rules) id active h = (by (r.id == id), run_active tables rules id active h.1)
  where
    by : (b : Bool) → IsConditionThere tables (cond b (record r { active = active }) r).condition × AreActionsThere tables (cond b (record r { active = active }) r).actions × (length (cond b (record r { active = active }) r).actions ≤ 8)
    by true = h.0
    by false = h.0

module _ (tables : List Held) where
  condition_written : (new old : Option Query) → check.IsConditionThere (entries tables) new → IsConditionThere tables old → IsConditionThere tables (written_or new old)
  condition_written None old h k = k
  condition_written (Some q) old h k = condition_there tables (Some q) h

  actions_written : (written : Option (List text.Action)) (new : Option (List Action)) (old : List Action) → check.AreNewActionsThere (entries tables) written new → length (unwrap_or written []) ≤ 8
      → AreActionsThere tables old × (length old ≤ 8) → AreActionsThere tables (unwrap_or new old) × (length (unwrap_or new old) ≤ 8)
  actions_written written None old h few k = k
  actions_written None (Some new) old h few k = absurd h
  actions_written (Some written) (Some new) old h few k = (actions_there tables new h.0, subst (λ (n : ℕ). n ≤ 8) (sym h.1) few)

  pub altered_rule_runs : (rules : List Rule) (id : ℕ) (r : text.AlterationText) (parts : NewParts) → CanRun tables rules → check.AreNewPartsThere (entries tables) r parts → length (unwrap_or r.actions []) ≤ 8
      → CanRun tables (with_parts rules id parts)
  altered_rule_runs [] id r parts h there few = tt
  altered_rule_runs (x ∷ rules) id r parts h there few = (by (x.id == id), altered_rule_runs rules id r parts h.1 there few)
    where
      by : (b : Bool) → IsConditionThere tables (cond b (set_parts parts x) x).condition × AreActionsThere tables (cond b (set_parts parts x) x).actions × (length (cond b (set_parts parts x) x).actions ≤ 8)
      by true = let k = actions_written r.actions parts.1 x.actions there.actions few (h.0.1, h.0.2) in (condition_written parts.0 x.condition there.condition h.0.0, k.0, k.1)
      by false = h.0

-- ---- more tables, and fewer

-- the tables of a request are among others
module _ (old new : List Held) (stays : (id : ℕ) → IsTrue (has_number old id) → IsTrue (has_number new id)) where
  there_more : (request : List (ℕ × LockMode)) → AreThere old request → AreThere new request
  there_more [] h = tt
  there_more (r ∷ request) h = (stays r.0 h.0, there_more request h.1)

  condition_more : (q : Option Query) → IsConditionThere old q → IsConditionThere new q
  condition_more None h = tt
  condition_more (Some q) h = there_more (query_locks q) h

  actions_more : (actions : List Action) → AreActionsThere old actions → AreActionsThere new actions
  actions_more [] h = tt
  actions_more (action.Rollback ∷ actions) h = actions_more actions h
  actions_more (action.Change s ∷ actions) h = (there_more (statement_locks s) h.0, actions_more actions h.1)

  pub run_more : (rules : List Rule) → CanRun old rules → CanRun new rules
  run_more [] h = tt
  run_more (r ∷ rules) h = ((condition_more r.condition h.0.0, actions_more r.actions h.0.1, h.0.2), run_more rules h.1)

-- the tables of a request but for one that it doesn't name
module _ (old new : List Held) (id : ℕ) (stays : (k : ℕ) → IsFalse (k == id) → IsTrue (has_number old k) → IsTrue (has_number new k)) where
  abbrev Lacks : List (ℕ × LockMode) → Type 0
  Lacks request = list_any (λ (r : ℕ × LockMode). r.0 == id) request ≡ false

  there_less : (request : List (ℕ × LockMode)) → Lacks request → AreThere old request → AreThere new request
  there_less [] l h = tt
  there_less (r ∷ request) l h =
      let p = or_parts (r.0 == id) (list_any (λ (r : ℕ × LockMode). r.0 == id) request) l in
      (stays r.0 p.0 h.0, there_less request p.1 h.1)

  reads_lack : (sources : List Source) → has_source id sources ≡ false → Lacks (filter_map read_of sources)
  reads_lack [] h = refl
  reads_lack (Table t ∷ sources) h =
      let p = or_parts (t == id) (has_source id sources) h in
      ap (λ (b : Bool). b || list_any (λ (r : ℕ × LockMode). r.0 == id) (filter_map read_of sources)) p.0 ∙ reads_lack sources p.1
  reads_lack (Inserted ∷ sources) h = reads_lack sources h
  reads_lack (Deleted ∷ sources) h = reads_lack sources h
  reads_lack (OldUpdated ∷ sources) h = reads_lack sources h
  reads_lack (NewUpdated ∷ sources) h = reads_lack sources h

  written_lacks : (target : ℕ) (r : ℕ × LockMode) (b : Bool) → (target == id) ≡ false → (r.0 == id) ≡ false → ((cond b (target, Write) r).0 == id) ≡ false
  written_lacks target r true t h = t
  written_lacks target r false t h = h

  writes_lack : (target : ℕ) (request : List (ℕ × LockMode)) → (target == id) ≡ false → Lacks request → Lacks (map (write_of target) request)
  writes_lack target [] t h = refl
  writes_lack target (r ∷ request) t h =
      let p = or_parts (r.0 == id) (list_any (λ (r : ℕ × LockMode). r.0 == id) request) h in
      ap (λ (b : Bool). b || list_any (λ (r : ℕ × LockMode). r.0 == id) (map (write_of target) request)) (written_lacks target r (r.0 == target) t p.0) ∙ writes_lack target request t p.1

  target_less : (target : ℕ) (sources : List Source) → (target == id) ≡ false → has_source id sources ≡ false
      → AreThere old ((target, Write) ∷ map (write_of target) (filter_map read_of sources)) → AreThere new ((target, Write) ∷ map (write_of target) (filter_map read_of sources))
  target_less target sources t l h =
      (stays target t h.0, there_less (map (write_of target) (filter_map read_of sources)) (writes_lack target (filter_map read_of sources) t (reads_lack sources l)) h.1)

  sources_lack : (xs ys : List Source) → has_source id xs ≡ false → has_source id ys ≡ false → has_source id (xs ++ ys) ≡ false
  sources_lack xs ys h k = list_any-append (is_table id) xs ys ∙ ap (λ (b : Bool). b || has_source id ys) h ∙ k

  statement_less : (s : Statement) → statement_names id s ≡ false → AreThere old (statement_locks s) → AreThere new (statement_locks s)
  statement_less (InsertRows t rows) l h = target_less t [] l refl h
  statement_less (InsertQuery t q) l h = let p = or_parts (t == id) (has_source id (query_sources q)) l in target_less t (query_sources q) p.0 p.1 h
  statement_less (Delete t c) l h = let p = or_parts (t == id) (has_source id (sources_of c)) l in target_less t (sources_of c) p.0 p.1 h
  statement_less (Update t assignments c) l h =
      let p = or_parts (t == id) (has_source id (assignment_sources assignments) || has_source id (sources_of c)) l in
      let q = or_parts (has_source id (assignment_sources assignments)) (has_source id (sources_of c)) p.1 in
      target_less t (assignment_sources assignments ++ sources_of c) p.0 (sources_lack (assignment_sources assignments) (sources_of c) q.0 q.1) h

  condition_less : (q : Option Query) → condition_names id q ≡ false → IsConditionThere old q → IsConditionThere new q
  condition_less None l h = tt
  condition_less (Some q) l h = there_less (query_locks q) (reads_lack (query_sources q) l) h

  actions_less : (actions : List Action) → list_any (action_names id) actions ≡ false → AreActionsThere old actions → AreActionsThere new actions
  actions_less [] l h = tt
  actions_less (action.Rollback ∷ actions) l h = actions_less actions l h
  actions_less (action.Change s ∷ actions) l h =
      let p = or_parts (statement_names id s) (list_any (action_names id) actions) l in
      (statement_less s p.0 h.0, actions_less actions p.1 h.1)

  pub run_less : (rules : List Rule) → is_used rules id ≡ false → CanRun old rules → CanRun new rules
  run_less [] l h = tt
  run_less (r ∷ rules) l h =
      let p = or_parts (rule_names id r) (is_used rules id) l in
      let q = or_parts (r.table == id) (condition_names id r.condition || list_any (action_names id) r.actions) p.0 in
      let s = or_parts (condition_names id r.condition) (list_any (action_names id) r.actions) q.1 in
      ((condition_less r.condition s.0 h.0.0, actions_less r.actions s.1 h.0.1, h.0.2), run_less rules p.1 h.1)
