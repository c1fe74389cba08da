-- What the walk resolves is there.
use Rattle.std.proofs.lemmas.Bool.{or_right}
use Rattle.std.proofs.Common.{ℕ, suc, ◌≡◌, refl, ap, subst, Bool, true, false, List, [], ◌∷◌, ◌++◌, map, length, eq-eqb}
use Rattle.std.specs.Prelude.{find, if◌then◌else◌, ◌==◌, ◌||◌, None, Some, Option, Result, Ok, Err}
use Rattle.std.specs.List.{list_any}
use Rattle.sb_value.specs.declared.refusal.Refusal.{Refusal}
use Rattle.sb_value.specs.declared.refusal.Refusal.TheVariants as refusal
use Rattle.sb_value.specs.declared.net.Triggers.{Triggers}
use Rattle.sb_value.specs.declared.value.ColumnDefinition.{ColumnDefinition}
use Rattle.sb_value.specs.declared.value.ColumnType.{ColumnType}
use Rattle.sb_value.specs.declared.value.ColumnType.TheVariants.{Int}
use Rattle.sb_value.specs.Name.{same_name}
use Rattle.sb_value.specs.Table.{Entry}
use Rattle.sb_syntax.specs.Tree.{Name, RuleText, AlterationText}
use Rattle.sb_syntax.specs.Tree as text
use Rattle.sb_syntax.specs.declared.tree.SourceReference.{SourceReference}
use Rattle.sb_syntax.specs.declared.tree.TableReference.{TableReference}
use Rattle.sb_syntax.specs.declared.tree.TableReference.TheVariants.{Named, Inserted, Deleted, OldUpdated, NewUpdated}
use Rattle.sb_check.specs.declared.tree.Action.{Action}
use Rattle.sb_check.specs.declared.tree.Action.TheVariants as action
use Rattle.sb_check.specs.declared.tree.Assignment.{Assignment}
use Rattle.sb_check.specs.declared.tree.Source.{Source}
use Rattle.sb_check.specs.declared.tree.Source.TheVariants as source
use Rattle.sb_check.specs.declared.tree.Statement.{Statement}
use Rattle.sb_check.specs.declared.tree.Statement.TheVariants.{InsertRows, InsertQuery, Delete, Update}
use Rattle.sb_check.specs.Condition.{Condition, always, disjunction, conjunction, negation, compare, is_in, exists, Operand, expression, scalar_subquery, Query}
use Rattle.sb_check.specs.Mentions.{sources_of, operand_sources, query_sources, assignment_sources}
use Rattle.sb_check.specs.Names.{and_then, in_order, required, same_type, Visible, Scope}
use Rattle.sb_check.specs.RuleParts.{Parts, NewParts, in_rule, condition_parts, actions_parts, walk_parts, walk_alteration}
use Rattle.sb_check.specs.There.{IsTable, IsThere, AreThere, IsStatementThere, IsConditionThere, AreActionsThere, ArePartsThere, AreNewActionsThere, AreNewPartsThere}
use Rattle.sb_check.specs.Triggers.{walk_triggers}
use Rattle.sb_check.specs.Walk.{Schema, Walked, type_of, table_named, has_updates, walk_table, visible_name, walk_sources, walk_expression, has_aggregate, in_type, with_not, fitting, walk_condition, walk_operand, walk_filter, walk_query, visible_table, walk_assignments, walk_statement, walk_action}
use Rattle.sb_check.proofs.Fitting.{then_ok, both_ok, required_ok, some_ok, selected, sourced, assigned, acted}

-- ---- a table that is found

found_first : (b : Bool) (d : Entry) (x : Option Entry) (e : Entry) (rest : Bool) → (x ≡ Some e → rest ≡ true) → (if b then Some d else x) ≡ Some e → ((d.id == e.id) || rest) ≡ true
found_first true d x e rest ih h = let same : d ≡ e = cc h in ap (λ c. c || rest) (eq-eqb d.id e.id (ap (λ (f : Entry). f.id) same))
found_first false d x e rest ih h = or_right (d.id == e.id) rest (ih h)

found_there : (tables : List Entry) (name : Name) (e : Entry) → find (λ f. same_name f.name name) tables ≡ Some e → IsTable tables e.id
found_there [] name e h = absurd (cc h)
found_there (d ∷ tables) name e h =
    found_first (same_name d.name name) d (find (λ f. same_name f.name name) tables) e (list_any (λ f. f.id == e.id) tables) (found_there tables name e) h

both_there : (tables : List Entry) (xs ys : List Source) → AreThere tables xs → AreThere tables ys → AreThere tables (xs ++ ys)
both_there tables [] ys h k = k
both_there tables (x ∷ xs) ys h k = (h.0, both_there tables xs ys h.1 k)

module _ (schema : Schema) where
  abbrev There : List Source → Type 0
  There sources = AreThere schema.tables sources

  table_there : (name : Name) (e : Entry) → table_named schema name ≡ Ok e → IsTable schema.tables e.id
  table_there name e h = found_there schema.tables name e (some_ok refusal.NoTable (find (λ f. same_name f.name name) schema.tables) e h)

  -- ---- sources

  abbrev by_rule : Option (List ColumnDefinition × Triggers) → (Triggers → Bool) → Source → Result (Source × List ColumnDefinition) Refusal
  by_rule rule has form = elim rule [ None ↦ Err refusal.BadTransition | Some r ↦ required (has r.1) refusal.BadTransition (Ok (form, r.0)) ]

  transition_there : (rule : Option (List ColumnDefinition × Triggers)) (has : Triggers → Bool) (form : Source) (s : Source × List ColumnDefinition)
      → IsThere schema.tables form → by_rule rule has form ≡ Ok s → IsThere schema.tables s.0
  transition_there None has form s there h = absurd (cc h)
  transition_there (Some r) has form s there h =
      let p = required_ok (has r.1) refusal.BadTransition (Ok (form, r.0)) s h in
      let is : (form, r.0) ≡ s = cc p.1 in
      subst (λ s. IsThere schema.tables s.0) is there

  source_there : (r : TableReference) (s : Source × List ColumnDefinition) → walk_table schema r ≡ Ok s → IsThere schema.tables s.0
  source_there (Named name) s h =
      let e = then_ok (table_named schema name) (λ e. Ok (source.Table e.id, e.table.columns)) s h in
      let is : (source.Table e.0.id, e.0.table.columns) ≡ s = cc e.2 in
      subst (λ s. IsThere schema.tables s.0) is (table_there name e.0 e.1)
  source_there Inserted s h = transition_there schema.rule (λ t. t.inserted) source.Inserted s tt h
  source_there Deleted s h = transition_there schema.rule (λ t. t.deleted) source.Deleted s tt h
  source_there OldUpdated s h = transition_there schema.rule has_updates source.OldUpdated s tt h
  source_there NewUpdated s h = transition_there schema.rule has_updates source.NewUpdated s tt h

  abbrev SourcesThere : List (Source × Visible) → Type 0
  SourcesThere ss = There (map (λ s. s.0) ss)

  sources_there : (taken : List TableReference) (refs : List SourceReference) (ss : List (Source × Visible)) → walk_sources schema taken refs ≡ Ok ss → SourcesThere ss
  sources_there taken [] ss h = let e : [] ≡ ss = cc h in subst SourcesThere e tt
  sources_there taken (r ∷ refs) ss h =
      let p = sourced schema taken r refs ss h in
      subst SourcesThere p.4 (source_there r.table p.0 p.1, sources_there (visible_name r ∷ taken) refs p.2 p.3)

  -- ---- conditions, operands and queries

  abbrev ConditionThere : Condition → Type 0
  ConditionThere c = There (sources_of c)

  abbrev OperandThere : Operand × ColumnType → Type 0
  OperandThere o = There (operand_sources o.0)

  abbrev QueryThere : Walked → Type 0
  QueryThere w = There (query_sources w.0)

  not_there : (b : Bool) (c : Condition) → ConditionThere c → ConditionThere (with_not b c)
  not_there true c h = h
  not_there false c h = h

  mutual
    condition_there : (c : text.Condition) (scope : Scope) (x : Condition) → walk_condition schema c scope ≡ Ok x → ConditionThere x
    condition_there (text.disjunction a b) scope x h =
        let p = both_ok (walk_condition schema a scope) (walk_condition schema b scope) disjunction x h in
        subst ConditionThere p.4 (both_there schema.tables (sources_of p.0) (sources_of p.2) (condition_there a scope p.0 p.1) (condition_there b scope p.2 p.3))
    condition_there (text.conjunction a b) scope x h =
        let p = both_ok (walk_condition schema a scope) (walk_condition schema b scope) conjunction x h in
        subst ConditionThere p.4 (both_there schema.tables (sources_of p.0) (sources_of p.2) (condition_there a scope p.0 p.1) (condition_there b scope p.2 p.3))
    condition_there (text.negation a) scope x h =
        let p = then_ok (walk_condition schema a scope) (λ x. Ok (negation x)) x h in
        let e : negation p.0 ≡ x = cc p.2 in
        subst ConditionThere e (condition_there a scope p.0 p.1)
    condition_there (text.compare a op b) scope x h =
        let p = then_ok (walk_expression scope a) (λ x. and_then (walk_operand schema b scope) (λ y. required (same_type x.1 y.1) refusal.BadType (Ok (compare x.0 op y.0)))) x h in
        let q = then_ok (walk_operand schema b scope) (λ y. required (same_type p.0.1 y.1) refusal.BadType (Ok (compare p.0.0 op y.0))) x p.2 in
        let r = required_ok (same_type p.0.1 q.0.1) refusal.BadType (Ok (compare p.0.0 op q.0.0)) x q.2 in
        let e : compare p.0.0 op q.0.0 ≡ x = cc r.1 in
        subst ConditionThere e (operand_there b scope q.0 q.1)
    condition_there (text.is_in a has_not q) scope x h =
        let p = then_ok (walk_expression scope a) (λ x. and_then (walk_query schema q scope) (λ w. and_then (in_type x.1 w.1) (λ _. Ok (with_not has_not (is_in x.0 w.0))))) x h in
        let w = then_ok (walk_query schema q scope) (λ w. and_then (in_type p.0.1 w.1) (λ _. Ok (with_not has_not (is_in p.0.0 w.0)))) x p.2 in
        let t = then_ok (in_type p.0.1 w.0.1) (λ _. Ok (with_not has_not (is_in p.0.0 w.0.0))) x w.2 in
        let e : with_not has_not (is_in p.0.0 w.0.0) ≡ x = cc t.2 in
        subst ConditionThere e (not_there has_not (is_in p.0.0 w.0.0) (query_there q scope w.0 w.1))
    condition_there (text.exists q) scope x h =
        let w = then_ok (walk_query schema q scope) (λ w. Ok (exists w.0)) x h in
        let e : exists w.0.0 ≡ x = cc w.2 in
        subst ConditionThere e (query_there q scope w.0 w.1)

    operand_there : (o : text.Operand) (scope : Scope) (x : Operand × ColumnType) → walk_operand schema o scope ≡ Ok x → OperandThere x
    operand_there (text.expression a) scope x h =
        let p = then_ok (walk_expression scope a) (λ x. Ok (expression x.0, x.1)) x h in
        let e : (expression p.0.0, p.0.1) ≡ x = cc p.2 in
        subst OperandThere e tt
    operand_there (text.scalar_subquery q) scope x h =
        let w = then_ok (walk_query schema q scope) (λ w. required (has_aggregate q) refusal.WrongCount (Ok (scalar_subquery w.0, Int))) x h in
        let r = required_ok (has_aggregate q) refusal.WrongCount (Ok (scalar_subquery w.0.0, Int)) x w.2 in
        let e : (scalar_subquery w.0.0, Int) ≡ x = cc r.1 in
        subst OperandThere e (query_there q scope w.0 w.1)

    filter_there : (f : text.Filter) (scope : Scope) (x : Condition) → walk_filter schema f scope ≡ Ok x → ConditionThere x
    filter_there text.everything scope x h = let e : always ≡ x = cc h in subst ConditionThere e tt
    filter_there (text.those c) scope x h = condition_there c scope x h

    pub query_there : (q : text.Query) (scope : Scope) (w : Walked) → walk_query schema q scope ≡ Ok w → QueryThere w
    query_there (text.select its refs filter) scope w h =
        let s = selected schema its refs (walk_filter schema filter) scope w h in
        let scope_here = map (λ s. s.1) s.0 ∷ scope in
        subst QueryThere s.6 (both_there schema.tables (map (λ s. s.0) s.0) (sources_of s.4) (sources_there [] refs s.0 s.1) (filter_there filter scope_here s.4 s.5))

  -- ---- statements

  abbrev AssignmentsThere : List Assignment → Type 0
  AssignmentsThere done = There (assignment_sources done)

  assignments_there : (e : Entry) (taken : List ℕ) (xs : List text.Assignment) (done : List Assignment) → walk_assignments schema e taken xs ≡ Ok done → AssignmentsThere done
  assignments_there e taken [] done h = let is : [] ≡ done = cc h in subst AssignmentsThere is tt
  assignments_there e taken (x ∷ xs) done h =
      let a = assigned schema e taken x xs done h in
      subst AssignmentsThere a.7
      (both_there schema.tables (operand_sources a.2.0) (assignment_sources a.5) (operand_there x.operand (visible_table schema e) a.2 a.3) (assignments_there e (a.0.0 ∷ taken) xs a.5 a.6))

  pub statement_there : (c : text.Statement) (s : Statement) → walk_statement schema c ≡ Ok s → IsStatementThere schema.tables s
  statement_there (text.insert_rows name rows) s h =
      let e = then_ok (table_named schema name) (λ e. and_then (in_order (λ row. fitting (map type_of row) e.table.columns) rows) (λ _. Ok (InsertRows e.id rows))) s h in
      let r = then_ok (in_order (λ row. fitting (map type_of row) e.0.table.columns) rows) (λ _. Ok (InsertRows e.0.id rows)) s e.2 in
      let is : InsertRows e.0.id rows ≡ s = cc r.2 in
      subst (IsStatementThere schema.tables) is (table_there name e.0 e.1)
  statement_there (text.insert_query name q) s h =
      let e = then_ok (table_named schema name) (λ e. and_then (walk_query schema q []) (λ w. and_then (fitting w.1 e.table.columns) (λ _. Ok (InsertQuery e.id w.0)))) s h in
      let w = then_ok (walk_query schema q []) (λ w. and_then (fitting w.1 e.0.table.columns) (λ _. Ok (InsertQuery e.0.id w.0))) s e.2 in
      let f = then_ok (fitting w.0.1 e.0.table.columns) (λ _. Ok (InsertQuery e.0.id w.0.0)) s w.2 in
      let is : InsertQuery e.0.id w.0.0 ≡ s = cc f.2 in
      subst (IsStatementThere schema.tables) is (table_there name e.0 e.1, query_there q [] w.0 w.1)
  statement_there (text.delete name filter) s h =
      let e = then_ok (table_named schema name) (λ e. and_then (walk_filter schema filter (visible_table schema e)) (λ c. Ok (Delete e.id c))) s h in
      let c = then_ok (walk_filter schema filter (visible_table schema e.0)) (λ c. Ok (Delete e.0.id c)) s e.2 in
      let is : Delete e.0.id c.0 ≡ s = cc c.2 in
      subst (IsStatementThere schema.tables) is (table_there name e.0 e.1, filter_there filter (visible_table schema e.0) c.0 c.1)
  statement_there (text.update name assignments filter) s h =
      let e = then_ok (table_named schema name) (λ e. and_then (walk_assignments schema e [] assignments) (λ places. and_then (walk_filter schema filter (visible_table schema e)) (λ c. Ok (Update e.id places c)))) s h in
      let a = then_ok (walk_assignments schema e.0 [] assignments) (λ places. and_then (walk_filter schema filter (visible_table schema e.0)) (λ c. Ok (Update e.0.id places c))) s e.2 in
      let c = then_ok (walk_filter schema filter (visible_table schema e.0)) (λ c. Ok (Update e.0.id a.0 c)) s a.2 in
      let is : Update e.0.id a.0 c.0 ≡ s = cc c.2 in
      subst (IsStatementThere schema.tables) is
      (table_there name e.0 e.1, both_there schema.tables (assignment_sources a.0) (sources_of c.0) (assignments_there e.0 [] assignments a.0 a.1) (filter_there filter (visible_table schema e.0) c.0 c.1))

  -- ---- rules

  abbrev Counted : List text.Action → List Action → Type 0
  Counted xs done = AreActionsThere schema.tables done × (length done ≡ length xs)

  pub actions_there : (xs : List text.Action) (done : List Action) → in_order (walk_action schema) xs ≡ Ok done → Counted xs done
  actions_there [] done h = let is : [] ≡ done = cc h in subst (Counted []) is (tt, refl)
  actions_there (text.rolls_back ∷ xs) done h =
      let q = then_ok (in_order (walk_action schema) xs) (λ ys. Ok (action.Rollback ∷ ys)) done h in
      let is : action.Rollback ∷ q.0 ≡ done = cc q.2 in
      let rest = actions_there xs q.0 q.1 in
      subst (Counted (text.rolls_back ∷ xs)) is (rest.0, ap (λ n. suc n) rest.1)
  actions_there (text.changes c ∷ xs) done h =
      let a = acted schema c xs done h in
      let rest = actions_there xs a.2 a.3 in
      subst (Counted (text.changes c ∷ xs)) a.4 ((statement_there c a.0 a.1, rest.0), ap (λ n. suc n) rest.1)

  pub rule_condition_there : (q : Option text.Query) (x : Option Query) → condition_parts schema q ≡ Ok x → IsConditionThere schema.tables x
  rule_condition_there None x h = let is : None ≡ x = cc h in subst (IsConditionThere schema.tables) is tt
  rule_condition_there (Some q) x h =
      let w = then_ok (walk_query schema q []) (λ w. Ok (Some w.0)) x h in
      let is : Some w.0.0 ≡ x = cc w.2 in
      subst (IsConditionThere schema.tables) is (query_there q [] w.0 w.1)

-- the table, the triggers, the condition and the actions of a rule
abbrev pub PartsWalked : Schema → RuleText → Parts → Type 0
PartsWalked schema r parts = (e : Entry) × (table_named schema r.table ≡ Ok e)
    × (triggers : Triggers) × (walk_triggers e.table.columns r.triggers ≡ Ok triggers)
    × (condition : Option Query) × (condition_parts (in_rule schema e.table.columns triggers) r.condition ≡ Ok condition)
    × (actions : List Action) × (in_order (walk_action (in_rule schema e.table.columns triggers)) r.actions ≡ Ok actions)
    × ((e.id, triggers, condition, actions) ≡ parts)

pub parts_walked : (schema : Schema) (r : RuleText) (parts : Parts) → walk_parts schema r ≡ Ok parts → PartsWalked schema r parts
parts_walked schema r parts h =
    let e = then_ok (table_named schema r.table) (λ e.
    and_then (walk_triggers e.table.columns r.triggers) (λ triggers.
    and_then (condition_parts (in_rule schema e.table.columns triggers) r.condition) (λ condition.
    and_then (in_order (walk_action (in_rule schema e.table.columns triggers)) r.actions) (λ actions.
    Ok (e.id, triggers, condition, actions))))) parts h in
    let columns = e.0.table.columns in
    let t = then_ok (walk_triggers columns r.triggers) (λ triggers.
    and_then (condition_parts (in_rule schema columns triggers) r.condition) (λ condition.
    and_then (in_order (walk_action (in_rule schema columns triggers)) r.actions) (λ actions.
    Ok (e.0.id, triggers, condition, actions)))) parts e.2 in
    let inside = in_rule schema columns t.0 in
    let p = both_ok (condition_parts inside r.condition) (in_order (walk_action inside) r.actions) (λ condition actions. (e.0.id, t.0, condition, actions)) parts t.2 in
    (e.0, e.1, t.0, t.1, p.0, p.1, p.2, p.3, p.4)

pub parts_there : (schema : Schema) (r : RuleText) (parts : Parts) → walk_parts schema r ≡ Ok parts → ArePartsThere schema.tables r parts
parts_there schema r parts h =
    let w = parts_walked schema r parts h in
    let inside = in_rule schema w.0.table.columns w.2 in
    let actions = actions_there inside r.actions w.6 w.7 in
    subst (ArePartsThere schema.tables r) w.8
    (record { table = table_there schema r.table w.0 w.1; condition = rule_condition_there inside r.condition w.4 w.5; actions = actions.0; count = actions.1 })

new_actions_there : (schema : Schema) (written : Option (List text.Action)) (x : Option (List Action)) → actions_parts schema written ≡ Ok x → AreNewActionsThere schema.tables written x
new_actions_there schema None x h = let is : None ≡ x = cc h in subst (AreNewActionsThere schema.tables None) is tt
new_actions_there schema (Some written) x h =
    let all = then_ok (in_order (walk_action schema) written) (λ all. Ok (Some all)) x h in
    let is : Some all.0 ≡ x = cc all.2 in
    subst (AreNewActionsThere schema.tables (Some written)) is (actions_there schema written all.0 all.1)

pub alteration_there : (schema : Schema) (columns : List ColumnDefinition) (triggers : Triggers) (r : AlterationText) (parts : NewParts) → walk_alteration schema columns triggers r ≡ Ok parts → AreNewPartsThere schema.tables r parts
alteration_there schema columns triggers r parts h =
    let inside = in_rule schema columns triggers in
    let c = then_ok (condition_parts inside r.condition) (λ condition. and_then (actions_parts inside r.actions) (λ actions. Ok (condition, actions))) parts h in
    let a = then_ok (actions_parts inside r.actions) (λ actions. Ok (c.0, actions)) parts c.2 in
    let is : (c.0, a.0) ≡ parts = cc a.2 in
    subst (AreNewPartsThere schema.tables r) is (record { condition = rule_condition_there inside r.condition c.0 c.1; actions = new_actions_there inside r.actions a.0 a.1 })
