-- The walk looks at the tables' numbers, names and columns, and not at their rows.
use Rattle.std.proofs.Common.{ℕ, ◌≡◌, refl, sym, ap, ◌∙◌, Bool, true, false, List, [], ◌∷◌, map}
use Rattle.std.specs.Prelude.{find, if◌then◌else◌, not, ◌==◌, None, Some, Option, Result, Ok, Err}
use Rattle.std.specs.List.{list_any}
use Rattle.sb_value.specs.declared.refusal.Refusal.{Refusal}
use Rattle.sb_value.specs.declared.refusal.Refusal.TheVariants as refusal
use Rattle.sb_value.specs.declared.net.Triggers.{Triggers}
use Rattle.sb_value.specs.declared.value.ColumnType.TheVariants.{Int}
use Rattle.sb_value.specs.Name.{same_name}
use Rattle.sb_value.specs.Table.{Entry}
use Rattle.sb_syntax.specs.Tree.{Name}
use Rattle.sb_syntax.specs.Tree as text
use Rattle.sb_syntax.specs.declared.tree.SourceReference.{SourceReference}
use Rattle.sb_syntax.specs.declared.tree.TableReference.{TableReference}
use Rattle.sb_syntax.specs.declared.tree.TableReference.TheVariants.{Named, Inserted, Deleted, OldUpdated, NewUpdated}
use Rattle.sb_check.specs.declared.tree.Source.{Source}
use Rattle.sb_check.specs.declared.tree.Source.TheVariants as source
use Rattle.sb_check.specs.declared.tree.Statement.TheVariants.{InsertRows, InsertQuery, Delete, Update}
use Rattle.sb_check.specs.Statements.{entry_of, table_scope}
use Rattle.sb_check.specs.Condition.{disjunction, conjunction, negation, compare, is_in, exists, scalar_subquery, select}
use Rattle.sb_check.specs.Lent.{SeenTable, table_seen}
use Rattle.sb_check.specs.Names.{and_then, in_order, required, some_or, same_table, same_type, column_in, Scope}
use Rattle.sb_check.specs.Sees.{SeeTheSame}
use Rattle.sb_check.specs.Walk.{Schema, type_of, table_named, transition_source, has_updates, walk_table, visible_name, walk_sources, walk_expression, walk_items, has_aggregate, in_type, with_not, fitting, walk_condition, walk_operand, walk_filter, walk_query, walk_assignments, walk_statement}
use Rattle.sb_check.proofs.StatementWalk.{assignments-seen}

-- ---- a table that is looked for

abbrev named : Name → SeenTable → Bool
named name s = same_name s.1 name

found_first : {B : Type 0} (next : SeenTable → Result B Refusal) (b : Bool) (e : Entry) (x : Option Entry) (y : Option SeenTable)
    → and_then (some_or refusal.NoTable x) (λ f. next (table_seen f)) ≡ and_then (some_or refusal.NoTable y) next
    → and_then (some_or refusal.NoTable (if b then Some e else x)) (λ f. next (table_seen f)) ≡ and_then (some_or refusal.NoTable (if b then Some (table_seen e) else y)) next
found_first next true e x y rest = refl
found_first next false e x y rest = rest

-- what follows the look-up asks of the table only what is seen of it
found_seen : {B : Type 0} (next : SeenTable → Result B Refusal) (tables : List Entry) (name : Name)
    → and_then (some_or refusal.NoTable (find (λ e. same_name e.name name) tables)) (λ e. next (table_seen e))
    ≡ and_then (some_or refusal.NoTable (find (named name) (map table_seen tables))) next
found_seen next [] name = refl
found_seen next (e ∷ tables) name =
    found_first next (same_name e.name name) e (find (λ e. same_name e.name name) tables) (find (named name) (map table_seen tables)) (found_seen next tables name)

module _ (a b : Schema) (same : SeeTheSame a b) where
  look_same : {B : Type 0} (next : SeenTable → Result B Refusal) (name : Name)
      → and_then (table_named a name) (λ e. next (table_seen e)) ≡ and_then (table_named b name) (λ e. next (table_seen e))
  look_same next name =
      found_seen next a.tables name ∙ ap (λ ts. and_then (some_or refusal.NoTable (find (named name) ts)) next) same.tables ∙ sym (found_seen next b.tables name)

  transitions_same : (has : Triggers → Bool) (form : Source) → transition_source a has form ≡ transition_source b has form
  transitions_same has form = λ i.
      elim (same.rule i) [
        | None ↦ Err refusal.BadTransition
        | Some rule ↦ required (has rule.1) refusal.BadTransition (Ok (form, rule.0))
      ]

  tables_same : (r : TableReference) → walk_table a r ≡ walk_table b r
  tables_same (Named name) = look_same (λ s. Ok (source.Table s.0, s.2)) name
  tables_same Inserted = transitions_same (λ t. t.inserted) source.Inserted
  tables_same Deleted = transitions_same (λ t. t.deleted) source.Deleted
  tables_same OldUpdated = transitions_same has_updates source.OldUpdated
  tables_same NewUpdated = transitions_same has_updates source.NewUpdated

  sources_same : (taken : List TableReference) (refs : List SourceReference) → walk_sources a taken refs ≡ walk_sources b taken refs
  sources_same taken [] = refl
  sources_same taken (r ∷ refs) = λ i.
      and_then (tables_same r.table i) (λ t.
      required (not (list_any (same_table (visible_name r)) taken)) refusal.Ambiguous
      (and_then (sources_same (visible_name r ∷ taken) refs i) (λ rest.
      Ok ((t.0, record { name = visible_name r; columns = t.1 }) ∷ rest))))

  mutual
    conditions_same : (c : text.Condition) (scope : Scope) → walk_condition a c scope ≡ walk_condition b c scope
    conditions_same (text.disjunction x y) scope = λ i. and_then (conditions_same x scope i) (λ x. and_then (conditions_same y scope i) (λ y. Ok (disjunction x y)))
    conditions_same (text.conjunction x y) scope = λ i. and_then (conditions_same x scope i) (λ x. and_then (conditions_same y scope i) (λ y. Ok (conjunction x y)))
    conditions_same (text.negation x) scope = λ i. and_then (conditions_same x scope i) (λ x. Ok (negation x))
    conditions_same (text.compare x op y) scope = λ i.
        and_then (walk_expression scope x) (λ x. and_then (operands_same y scope i) (λ y. required (same_type x.1 y.1) refusal.BadType (Ok (compare x.0 op y.0))))
    conditions_same (text.is_in x has_not q) scope = λ i.
        and_then (walk_expression scope x) (λ x. and_then (queries_same q scope i) (λ w. and_then (in_type x.1 w.1) (λ _. Ok (with_not has_not (is_in x.0 w.0)))))
    conditions_same (text.exists q) scope = λ i. and_then (queries_same q scope i) (λ w. Ok (exists w.0))

    operands_same : (o : text.Operand) (scope : Scope) → walk_operand a o scope ≡ walk_operand b o scope
    operands_same (text.expression e) scope = refl
    operands_same (text.scalar_subquery q) scope = λ i. and_then (queries_same q scope i) (λ w. required (has_aggregate q) refusal.WrongCount (Ok (scalar_subquery w.0, Int)))

    filters_same : (f : text.Filter) (scope : Scope) → walk_filter a f scope ≡ walk_filter b f scope
    filters_same text.everything scope = refl
    filters_same (text.those c) scope = conditions_same c scope

    pub queries_same : (q : text.Query) (scope : Scope) → walk_query a q scope ≡ walk_query b q scope
    queries_same (text.select its refs filter) scope = λ i.
        and_then (sources_same [] refs i) (λ ss.
        let seen = map (λ s. s.1) ss in
        and_then (walk_items (seen ∷ scope) seen its) (λ x.
        and_then (filters_same filter (seen ∷ scope) i) (λ c.
        Ok (select x.0 (map (λ s. s.0) ss) c, x.1))))

  assignments_same : (e : Entry) (taken : List ℕ) (xs : List text.Assignment) → walk_assignments a e taken xs ≡ walk_assignments b e taken xs
  assignments_same e taken [] = refl
  assignments_same e taken (x ∷ xs) = λ i.
      and_then (some_or refusal.NoColumn (column_in e.table.columns x.column)) (λ c.
      required (not (list_any (λ k. k == c.0) taken)) refusal.Ambiguous
      (and_then (operands_same x.operand (table_scope e.name e.table.columns) i) (λ o.
      required (same_type o.1 c.1) refusal.BadType
      (and_then (assignments_same e (c.0 ∷ taken) xs i) (λ others.
      Ok (record { place = c.0; operand = o.0 } ∷ others))))))

  pub statements_same : (c : text.Statement) → walk_statement a c ≡ walk_statement b c
  statements_same (text.insert_rows name rows) =
      look_same (λ s. and_then (in_order (λ row. fitting (map type_of row) s.2) rows) (λ _. Ok (InsertRows s.0 rows))) name
  statements_same (text.insert_query name q) =
      (λ i. and_then (table_named a name) (λ e. and_then (queries_same q [] i) (λ w. and_then (fitting w.1 e.table.columns) (λ _. Ok (InsertQuery e.id w.0)))))
      ∙ look_same (λ s. and_then (walk_query b q []) (λ w. and_then (fitting w.1 s.2) (λ _. Ok (InsertQuery s.0 w.0)))) name
  statements_same (text.delete name filter) =
      (λ i. and_then (table_named a name) (λ e. and_then (filters_same filter (table_scope e.name e.table.columns) i) (λ c. Ok (Delete e.id c))))
      ∙ look_same (λ s. and_then (walk_filter b filter (table_scope s.1 s.2)) (λ c. Ok (Delete s.0 c))) name
  statements_same (text.update name assignments filter) =
      (λ i. and_then (table_named a name) (λ e. and_then (bare e i) (λ places.
      and_then (filters_same filter (table_scope e.name e.table.columns) i) (λ c. Ok (Update e.id places c)))))
      ∙ look_same (λ s. and_then (walk_assignments b (entry_of s.0 s.1 s.2) [] assignments) (λ places.
      and_then (walk_filter b filter (table_scope s.1 s.2)) (λ c. Ok (Update s.0 places c)))) name
      ∙ sym (λ i. and_then (table_named b name) (λ e. and_then (without_rows e i) (λ places.
      and_then (walk_filter b filter (table_scope e.name e.table.columns)) (λ c. Ok (Update e.id places c)))))
    where
      without_rows : (e : Entry) → walk_assignments b e [] assignments ≡ walk_assignments b (entry_of e.id e.name e.table.columns) [] assignments
      without_rows e = assignments-seen b e (entry_of e.id e.name e.table.columns) refl refl assignments []

      bare : (e : Entry) → walk_assignments a e [] assignments ≡ walk_assignments b (entry_of e.id e.name e.table.columns) [] assignments
      bare e = assignments_same e [] assignments ∙ without_rows e
