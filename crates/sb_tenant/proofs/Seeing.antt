-- What statements see of renumbered tables: the same rows, and changes that are renumbered.
use Rattle.std.proofs.Common.{◌≡◌, ◌∙◌, ℕ, ◌+◌, ◌*◌, ◌-◌, ◌||◌, Bool, true, false, cond, nat_eq, nat_lt, List, [], ◌∷◌, map, length, slice_set, sum, All, Option, Some, None, Result, Ok, Err, refl, sym, ap, subst, eqb-true}
use Rattle.std.specs.Prelude.{option_map, option_and_then}
use Rattle.std.proofs.lemmas.List.{length-map, map-id}
use Rattle.std.proofs.lemmas.List.Elements.{All-head, All-tail}
use Rattle.sb_value.specs.declared.value.Value.{Value}
use Rattle.sb_value.specs.declared.change.Change.{Change}
use Rattle.sb_value.specs.declared.refusal.Refusal.{Refusal}
use Rattle.sb_value.specs.declared.refusal.Refusal.TheVariants.{TooBig, TooManyRows}
use Rattle.sb_value.specs.Table.{Table, Entry, has_table, table_at}
use Rattle.sb_check.specs.Condition.{Condition, Query}
use Rattle.sb_check.specs.declared.tree.Assignment.{Assignment}
use Rattle.sb_check.specs.declared.tree.Source.{Source}
use Rattle.sb_check.specs.declared.tree.Source.TheVariants as source
use Rattle.sb_check.specs.declared.tree.Statement.{Statement}
use Rattle.sb_check.specs.declared.tree.Statement.TheVariants.{InsertRows, InsertQuery, Delete, Update}
use Rattle.sb_plan.specs.Cost.{subquery_cost, operand_cost, query_cost}
use Rattle.sb_plan.specs.Meaning.{Scope, both, each, passing, holds, operand_value, rows_of}
use Rattle.sb_plan.specs.Seen.{Seen, rows_in, row_count}
use Rattle.sb_plan.specs.Work.{query_work, repeated_work, repeated_operand_work, single_work, single_operand_work}
use Rattle.sb_catalog.specs.declared.rule.Rule.{Rule}
use Rattle.sb_eval.specs.Target.{target}
use Rattle.sb_eval.specs.Work.{statement_work}
use Rattle.sb_process.specs.Budget.{with_work, within_budget, change_work}
use Rattle.sb_process.specs.Consider.{effect_seen, select_within}
use Rattle.sb_eval.specs.Statement.{cost_limit, row_limit, statement_cost, or_overflow, within_cost, within_rows, condition_rows, select_rows, insert_change, insert_changes, delete_change, update_change, scope_of, found, assigned, places_of, update_of, changes_by, rows_after, statement_changes}
use Rattle.sb_tenant.specs.AlikeTenants.{Numbering, IsNumbering, renumbered_table, renumbered_entry, renumbered_change}
use Rattle.sb_tenant.proofs.Numbered.{Row, renumbered_row, IsSteady, steady_on, map-map}

-- ---- the table of a number

-- a table that is there has the numbers of its entry, and another one its own
pub at : (n : Numbering) (tables : List Entry) (t : ℕ) → (has_table tables t ≡ false → n t 1 ≡ 1) → table_at (map (renumbered_entry n) tables) t ≡ renumbered_table (n t) (table_at tables t)
at n [] t plain = λ i. record { columns = []; rows = []; next = sym (plain refl) i }
at n (e ∷ tables) t plain = by (nat_eq e.id t) refl plain (at n tables t)
  where
    by : (b : Bool) → nat_eq e.id t ≡ b → ((b || has_table tables t) ≡ false → n t 1 ≡ 1) →
        ((has_table tables t ≡ false → n t 1 ≡ 1) → table_at (map (renumbered_entry n) tables) t ≡ renumbered_table (n t) (table_at tables t)) →
        cond b (renumbered_table (n e.id) e.table) (table_at (map (renumbered_entry n) tables) t) ≡ renumbered_table (n t) (cond b e.table (table_at tables t))
    by true p other rest = ap (λ (m : ℕ). renumbered_table (n m) e.table) (eqb-true e.id t p)
    by false p other rest = rest other

abbrev IsSteadyAt : (ℕ → ℕ) → Table → Type 0
IsSteadyAt number table = (k : ℕ) → number (table.next + k) ≡ number table.next + k

steady_at : (n : Numbering) (tables : List Entry) (t : ℕ) → All (IsSteady n) tables → (has_table tables t ≡ false → (k : ℕ) → n t (1 + k) ≡ n t 1 + k) → IsSteadyAt (n t) (table_at tables t)
steady_at n [] t h plain = plain refl
steady_at n (e ∷ tables) t h plain = by (nat_eq e.id t) refl plain (steady_at n tables t (All-tail (IsSteady n) e tables h))
  where
    by : (b : Bool) → nat_eq e.id t ≡ b → ((b || has_table tables t) ≡ false → (k : ℕ) → n t (1 + k) ≡ n t 1 + k) →
        ((has_table tables t ≡ false → (k : ℕ) → n t (1 + k) ≡ n t 1 + k) → IsSteadyAt (n t) (table_at tables t)) → IsSteadyAt (n t) (cond b e.table (table_at tables t))
    by true p other rest = subst (λ (m : ℕ). IsSteadyAt (n m) e.table) (eqb-true e.id t p) (All-head (IsSteady n) e tables h)
    by false p other rest = rest other

-- ---- lists

passing-map : {A B : Type 0} (f : A → B) (one : A → Option Bool) (other : B → Option Bool) → ((a : A) → other (f a) ≡ one a) → (xs : List A) → passing other (map f xs) ≡ option_map (map f) (passing one xs)
passing-map f one other e [] = refl
passing-map {A} {B} f one other e (x ∷ xs) = (λ i. both (λ b ys. Some (cond b (f x ∷ ys) ys)) (e x i) (passing-map f one other e xs i)) ∙ by (one x) (passing one xs)
  where
    by : (o : Option Bool) (r : Option (List A)) → both (λ b ys. Some (cond b (f x ∷ ys) ys)) o (option_map (map f) r) ≡ option_map (map f) (both (λ b ys. Some (cond b (x ∷ ys) ys)) o r)
    by None r = refl
    by (Some b) None = refl
    by (Some true) (Some ys) = refl
    by (Some false) (Some ys) = refl

each-map : {A B C D : Type 0} (f : A → B) (one : A → Option C) (other : B → Option D) (h : C → D) → ((a : A) → other (f a) ≡ option_map h (one a)) → (xs : List A) →
    each other (map f xs) ≡ option_map (map h) (each one xs)
each-map f one other h e [] = refl
each-map {A} {B} {C} {D} f one other h e (x ∷ xs) = (λ i. both (λ y ys. Some (y ∷ ys)) (e x i) (each-map f one other h e xs i)) ∙ by (one x) (each one xs)
  where
    by : (o : Option C) (r : Option (List C)) → both (λ y ys. Some (y ∷ ys)) (option_map h o) (option_map (map h) r) ≡ option_map (map h) (both (λ y ys. Some (y ∷ ys)) o r)
    by None r = refl
    by (Some y) None = refl
    by (Some y) (Some ys) = refl

-- ---- what is seen

-- the tables renumbered, by a session of the tenant of that number
abbrev pub renumbered_seen : ℕ → Numbering → Seen → Seen
renumbered_seen tenant n seen = record {
  tables = map (renumbered_entry n) seen.tables;
  transition = seen.transition;
  who = record { tenant = tenant; session = seen.who.session };
}

-- what is made of what is given, or the refusal
abbrev pub map_ok : {A B : Type 0} → (A → B) → Result A Refusal → Result B Refusal
map_ok f (Err e) = Err e
map_ok f (Ok a) = Ok (f a)

module _ (tenant : ℕ) (n : Numbering) (seen : Seen) (h : IsNumbering n seen.tables) where
  abbrev other : Seen
  other = renumbered_seen tenant n seen

  abbrev again : Change → Change
  again = renumbered_change tenant n

  table_is : (t : ℕ) → table_at other.tables t ≡ renumbered_table (n t) (table_at seen.tables t)
  table_is t = at n seen.tables t (h.elsewhere t 1)

  steady_is : (t : ℕ) → IsSteadyAt (n t) (table_at seen.tables t)
  steady_is t = steady_at n seen.tables t h.steady (λ none k. h.elsewhere t (1 + k) none ∙ ap (λ (m : ℕ). m + k) (sym (h.elsewhere t 1 none)))

  rows_in_same : (s : Source) → rows_in other s ≡ rows_in seen s
  rows_in_same (source.Table t) =
      ap (λ (table : Table). map (λ r. r.1) table.rows) (table_is t)
      ∙ map-map (renumbered_row (n t)) (λ r. r.1) (λ r. r) (λ r. r.1) (λ r. refl) (table_at seen.tables t).rows
      ∙ ap (map (λ r. r.1)) (map-id (table_at seen.tables t).rows)
  rows_in_same source.Inserted = refl
  rows_in_same source.Deleted = refl
  rows_in_same source.OldUpdated = refl
  rows_in_same source.NewUpdated = refl

  rows_same_by : (q : Query) → condition_rows other q ≡ condition_rows seen q
  rows_same_by q = λ i. within_cost (query_cost (λ s. length (rows_in_same s i)) q) (rows_of (λ s. rows_in_same s i) q [])

  -- ---- changes

  inserts_same : (t m : ℕ) → ((k : ℕ) → n t (m + k) ≡ n t m + k) → (rows : List (List Value)) → insert_changes other t (n t m) rows ≡ map again (insert_changes seen t m rows)
  inserts_same t m steady [] = refl
  inserts_same t m steady (row ∷ rows) =
      λ i. again (insert_change seen t m row) ∷ (ap (λ (k : ℕ). insert_changes other t k rows) (sym (steady 1)) ∙ inserts_same t (m + 1) (steady_on (n t) m steady) rows) i

  all_inserts_same : (t : ℕ) (rows : List (List Value)) → insert_changes other t (table_at other.tables t).next rows ≡ map again (insert_changes seen t (table_at seen.tables t).next rows)
  all_inserts_same t rows =
      ap (λ (table : Table). insert_changes other t table.next rows) (table_is t)
      ∙ inserts_same t (table_at seen.tables t).next (steady_is t) rows

  found_same : (t : ℕ) (c : Condition) → found other t c ≡ option_map (map (renumbered_row (n t))) (found seen t c)
  found_same t c =
      ap (λ (table : Table). passing (λ r. holds (rows_in other) c (scope_of r)) table.rows) (table_is t)
      ∙ passing-map (renumbered_row (n t)) (λ r. holds (rows_in seen) c (scope_of r)) (λ r. holds (rows_in other) c (scope_of r))
      (λ r i. holds (λ s. rows_in_same s i) c (scope_of r)) (table_at seen.tables t).rows

  assigned_same : (scope : Scope) (assignments : List Assignment) (row : List Value) → assigned other scope assignments row ≡ assigned seen scope assignments row
  assigned_same scope [] row = refl
  assigned_same scope (a ∷ rest) row = λ i.
      both (λ v new. Some (slice_set new a.place v)) (operand_value (λ s. rows_in_same s i) a.operand scope) (assigned_same scope rest row i)

  update_same : (t : ℕ) (assignments : List Assignment) (r : Row) → update_of other t assignments (renumbered_row (n t) r) ≡ option_map again (update_of seen t assignments r)
  update_same t assignments r =
      ap (option_map (update_change other t (places_of assignments) (renumbered_row (n t) r))) (assigned_same (scope_of r) assignments r.1)
      ∙ by (assigned seen (scope_of r) assignments r.1)
    where
      by : (o : Option (List Value)) → option_map (update_change other t (places_of assignments) (renumbered_row (n t) r)) o
          ≡ option_map again (option_map (update_change seen t (places_of assignments) r) o)
      by None = refl
      by (Some row) = refl

  changes_by_same : (s : Statement) → changes_by other s ≡ option_map (map again) (changes_by seen s)
  changes_by_same (InsertRows t rows) = ap (λ (cs : List Change). Some cs) (all_inserts_same t rows)
  changes_by_same (InsertQuery t q) =
      (λ i. option_map (insert_changes other t (table_at other.tables t).next) (rows_of (λ s. rows_in_same s i) q []))
      ∙ by (rows_of (rows_in seen) q [])
    where
      by : (o : Option (List (List Value))) → option_map (insert_changes other t (table_at other.tables t).next) o
          ≡ option_map (map again) (option_map (insert_changes seen t (table_at seen.tables t).next) o)
      by None = refl
      by (Some rows) = ap (λ (cs : List Change). Some cs) (all_inserts_same t rows)
  changes_by_same (Delete t c) = ap (option_map (map (delete_change other t))) (found_same t c) ∙ by (found seen t c)
    where
      by : (o : Option (List Row)) → option_map (map (delete_change other t)) (option_map (map (renumbered_row (n t))) o)
          ≡ option_map (map again) (option_map (map (delete_change seen t)) o)
      by None = refl
      by (Some rows) = ap (λ (cs : List Change). Some cs) (map-map (renumbered_row (n t)) (delete_change other t) (delete_change seen t) again (λ r. refl) rows)
  changes_by_same (Update t assignments c) = ap (option_and_then (each (update_of other t assignments))) (found_same t c) ∙ by (found seen t c)
    where
      by : (o : Option (List Row)) → option_and_then (each (update_of other t assignments)) (option_map (map (renumbered_row (n t))) o)
          ≡ option_map (map again) (option_and_then (each (update_of seen t assignments)) o)
      by None = refl
      by (Some rows) = each-map (renumbered_row (n t)) (update_of seen t assignments) (update_of other t assignments) again (update_same t assignments) rows

  -- ---- costs and limits

  row_count_same : (t : ℕ) → length (table_at other.tables t).rows ≡ length (table_at seen.tables t).rows
  row_count_same t = ap (λ (table : Table). length table.rows) (table_is t) ∙ length-map (table_at seen.tables t).rows (renumbered_row (n t))

  cost_same : (s : Statement) → statement_cost other s ≡ statement_cost seen s
  cost_same (InsertRows t rows) = refl
  cost_same (InsertQuery t q) = λ i. query_cost (λ s. length (rows_in_same s i)) q
  cost_same (Delete t c) = λ i. row_count_same t i * (1 + subquery_cost (λ s. length (rows_in_same s i)) c)
  cost_same (Update t assignments c) = λ i.
      row_count_same t i * (1 + (sum (map (λ a. operand_cost (λ s. length (rows_in_same s i)) a.operand) assignments) + subquery_cost (λ s. length (rows_in_same s i)) c))

  work_same : (s : Statement) → statement_work other s ≡ statement_work seen s
  work_same (InsertRows t rows) = refl
  work_same (InsertQuery t q) = λ i. query_work (λ s. length (rows_in_same s i)) q
  work_same (Delete t c) = λ i. row_count_same t i * repeated_work (λ s. length (rows_in_same s i)) c + single_work (λ s. length (rows_in_same s i)) c
  work_same (Update t assignments c) = λ i.
      row_count_same t i * (sum (map (λ a. repeated_operand_work (λ s. length (rows_in_same s i)) a.operand) assignments) + repeated_work (λ s. length (rows_in_same s i)) c)
      + (sum (map (λ a. single_operand_work (λ s. length (rows_in_same s i)) a.operand) assignments) + single_work (λ s. length (rows_in_same s i)) c)

  query_work_same : (q : Query) → query_work (row_count other) q ≡ query_work (row_count seen) q
  query_work_same q = λ i. query_work (λ s. length (rows_in_same s i)) q

  rows_after_same : (s : Statement) (changes : List Change) → rows_after other s (map again changes) ≡ rows_after seen s changes
  rows_after_same (InsertRows t rows) changes = λ i. row_count_same t i + length-map changes again i
  rows_after_same (InsertQuery t q) changes = λ i. row_count_same t i + length-map changes again i
  rows_after_same (Delete t c) changes = refl
  rows_after_same (Update t assignments c) changes = refl

  changes_same_by : (s : Statement) → statement_changes other s ≡ map_ok (map again) (statement_changes seen s)
  changes_same_by s =
      (λ i. within_rows (rows_after other s) (within_cost (cost_same s i) (changes_by_same s i)))
      ∙ by (nat_lt cost_limit (statement_cost seen s)) (changes_by seen s)
    where
      by_rows : (changes : List Change) (b : Bool) → cond b (Err TooManyRows) (Ok (map again changes)) ≡ map_ok (map again) (cond b (Err TooManyRows) (Ok changes))
      by_rows changes true = refl
      by_rows changes false = refl

      by : (b : Bool) (o : Option (List Change)) → within_rows (rows_after other s) (cond b (Err TooBig) (or_overflow (option_map (map again) o)))
          ≡ map_ok (map again) (within_rows (rows_after seen s) (cond b (Err TooBig) (or_overflow o)))
      by true o = refl
      by false None = refl
      by false (Some changes) =
          ap (λ (m : ℕ). cond (nat_lt row_limit m) (Err TooManyRows) (Ok (map again changes))) (rows_after_same s changes)
          ∙ by_rows changes (nat_lt row_limit (rows_after seen s changes))

-- ---- within a budget

-- what is given is made the same of both, or both are too much
pub work-both : {A B : Type 0} (f : A → B) (one other : ℕ) (left : Option ℕ) (next : Option ℕ → Result A Refusal) (again : Option ℕ → Result B Refusal) → other ≡ one → ((rest : Option ℕ) → again rest ≡ map_ok f (next rest)) →
    with_work other left again ≡ map_ok f (with_work one left next)
work-both f one other None next again e h = h None
work-both {A} {B} f one other (Some left) next again e h =
    (λ i. cond (nat_lt left (e i)) (Err TooBig) (again (Some (left - e i)))) ∙ by (nat_lt left one)
  where
    by : (b : Bool) → cond b (Err TooBig) (again (Some (left - one))) ≡ map_ok f (cond b (Err TooBig) (next (Some (left - one))))
    by true = refl
    by false = h (Some (left - one))

module _ (tenant : ℕ) (n : Numbering) where
  -- changes and what is left behind them, of the other tenant
  abbrev pub effect_again : List Change × Option ℕ → List Change × Option ℕ
  effect_again e = (map (renumbered_change tenant n) e.0, e.1)

  priced_same : (price : ℕ) (rest : Option ℕ) (r : Result (List Change) Refusal) → within_budget price rest (map_ok (map (renumbered_change tenant n)) r) ≡ map_ok effect_again (within_budget price rest r)
  priced_same price rest (Err e) = refl
  priced_same price rest (Ok cs) =
      work-both effect_again (length cs * price) (length (map (renumbered_change tenant n) cs) * price) rest (λ l. Ok (cs, l)) (λ l. Ok (map (renumbered_change tenant n) cs, l))
      (λ i. length-map cs (renumbered_change tenant n) i * price) (λ l. refl)

-- ---- what two tenants see

module _ (tenant : ℕ) (n : Numbering) (one other : Seen) (tables : other.tables ≡ map (renumbered_entry n) one.tables) (transition : other.transition ≡ one.transition) (who : other.who ≡ record { tenant = tenant; session = one.who.session }) (h : IsNumbering n one.tables) where
  seen_is : other ≡ renumbered_seen tenant n one
  seen_is = λ i. record { tables = tables i; transition = transition i; who = who i }

  pub rows_same : (q : Query) → condition_rows other q ≡ condition_rows one q
  rows_same q = ap (λ (seen : Seen). condition_rows seen q) seen_is ∙ rows_same_by tenant n one h q

  pub select_same : (q : Query) → select_rows other q ≡ select_rows one q
  select_same q = ap (within_rows length) (rows_same q)

  pub changes_same : (s : Statement) → statement_changes other s ≡ map_ok (map (renumbered_change tenant n)) (statement_changes one s)
  changes_same s = ap (λ (seen : Seen). statement_changes seen s) seen_is ∙ changes_same_by tenant n one h s

  -- the work of a query, and the effect of a statement
  pub work_of_query : (q : Query) → query_work (row_count other) q ≡ query_work (row_count one) q
  work_of_query q = ap (λ (seen : Seen). query_work (row_count seen) q) seen_is ∙ query_work_same tenant n one h q

  pub effect_same : (rules : List Rule) (s : Statement) (left : Option ℕ) → effect_seen other rules s left ≡ map_ok (effect_again tenant n) (effect_seen one rules s left)
  effect_same rules s left =
      let price = change_work rules (target s) in
      work-both (effect_again tenant n) (statement_work one s) (statement_work other s) left (λ rest. within_budget price rest (statement_changes one s)) (λ rest. within_budget price rest (statement_changes other s))
      (ap (λ (seen : Seen). statement_work seen s) seen_is ∙ work_same tenant n one h s)
      (λ rest. ap (within_budget price rest) (changes_same s) ∙ priced_same tenant n price rest (statement_changes one s))

  pub select_within_same : (q : Query) (left : Option ℕ) → select_within other q left ≡ select_within one q left
  select_within_same q None = select_same q
  select_within_same q (Some left) = λ i. cond (nat_lt left (work_of_query q i)) (Err TooBig) (select_same q i)
