-- What the walk resolves fits.
use Rattle.std.proofs.Common.{ℕ, ◌+◌, suc, zero, ◌≡◌, refl, sym, ap, ◌∙◌, subst, Bool, true, false, List, [], ◌∷◌, ◌++◌, map, arith}
use Rattle.std.specs.Prelude.{Option, None, Some, Result, Ok, Err, not, ◌&&◌, ◌==◌, length, flat_map, slice_get, if◌then◌else◌}
use Rattle.std.specs.List.{list_any}
use Rattle.std.proofs.lemmas.Bool.{eqb-true, and_parts}
use Rattle.sb_value.specs.declared.refusal.Refusal.{Refusal}
use Rattle.sb_value.specs.declared.refusal.Refusal.TheVariants as refusal
use Rattle.sb_value.specs.declared.value.Value.{Value}
use Rattle.sb_value.specs.declared.value.ColumnType.{ColumnType}
use Rattle.sb_value.specs.declared.value.ColumnType.TheVariants.{Int, Text}
use Rattle.sb_value.specs.declared.value.ColumnDefinition.{ColumnDefinition}
use Rattle.sb_value.specs.Name.{same_name}
use Rattle.sb_value.specs.Table.{Entry}
use Rattle.sb_syntax.specs.Tree.{Name}
use Rattle.sb_syntax.specs.Tree as text
use Rattle.sb_syntax.specs.declared.tree.ColumnReference.{ColumnReference}
use Rattle.sb_syntax.specs.declared.tree.ColumnReference.TheVariants.{Plain, Qualified}
use Rattle.sb_syntax.specs.declared.tree.SourceReference.{SourceReference}
use Rattle.sb_syntax.specs.declared.tree.TableReference.{TableReference}
use Rattle.sb_syntax.specs.declared.tree.TableReference.TheVariants.{Named}
use Rattle.sb_check.specs.declared.tree.Action.{Action}
use Rattle.sb_check.specs.declared.tree.Action.TheVariants as action
use Rattle.sb_check.specs.declared.tree.Assignment.{Assignment}
use Rattle.sb_check.specs.declared.tree.Column.{Column}
use Rattle.sb_check.specs.declared.tree.Items.{Items}
use Rattle.sb_check.specs.declared.tree.Items.TheVariants as items
use Rattle.sb_check.specs.declared.tree.Source.{Source}
use Rattle.sb_check.specs.declared.tree.Source.TheVariants.{Table}
use Rattle.sb_check.specs.declared.tree.Statement.{Statement}
use Rattle.sb_check.specs.declared.tree.Statement.TheVariants.{InsertRows, InsertQuery, Delete, Update}
use Rattle.sb_check.specs.Condition.{Condition, always, disjunction, conjunction, negation, compare, is_in, exists, Operand, expression, scalar_subquery, Query, select}
use Rattle.sb_check.specs.Expression.{Expression, literal, column, binary}
use Rattle.sb_check.specs.Fits.{Types, column_type, IsOf, AreOf, Lists, IsOneValue, ConditionFits, OperandFits, QueryFits, row_types, RowsFit, AssignmentsFit, StatementFits, RuleConditionFits, ActionsFit, AreTypesOf}
use Rattle.sb_check.specs.Names.{and_then, in_order, required, some_or, same_table, same_type, Visible, Scope, column_from, column_in, holders, only_one, plain_column, source_named, column_of_source, qualified_column, column_named}
use Rattle.sb_check.specs.RuleParts.{condition_parts}
use Rattle.sb_check.specs.Walk.{Schema, Walked, type_of, table_named, walk_table, walk_expression, walk_sources, visible_name, walk_items, is_aggregate, has_aggregate, in_type, with_not, of_types, fitting, walk_select, walk_condition, walk_operand, walk_filter, walk_query, visible_table, walk_assignments, walk_statement, walk_action}

-- ---- parts of an answer

-- both parts answered
pub then_ok : {A B : Type 0} (a : Result A Refusal) (next : A → Result B Refusal) (y : B) → and_then a next ≡ Ok y → (x : A) × (a ≡ Ok x) × (next x ≡ Ok y)
then_ok (Ok x) next y h = (x, refl, h)
then_ok (Err e) next y h = absurd (cc h)

-- both parts answered, and then nothing is refused
pub both_ok : {A B C : Type 0} (a : Result A Refusal) (b : Result B Refusal) (made : A → B → C) (y : C) → and_then a (λ x. and_then {B = C} b (λ z. Ok (made x z))) ≡ Ok y → (p : A) × (a ≡ Ok p) × (q : B) × (b ≡ Ok q) × (made p q ≡ y)
both_ok (Ok p) (Ok q) made y h = (p, refl, q, refl, cc h)
both_ok (Ok p) (Err e) made y h = absurd (cc h)
both_ok (Err e) b made y h = absurd (cc h)

-- the test held
pub required_ok : {A : Type 0} (b : Bool) (e : Refusal) (a : Result A Refusal) (y : A) → required b e a ≡ Ok y → (b ≡ true) × (a ≡ Ok y)
required_ok true e a y h = (refl, h)
required_ok false e a y h = absurd (cc h)

pub some_ok : {A : Type 0} (e : Refusal) (o : Option A) (y : A) → some_or e o ≡ Ok y → o ≡ Some y
some_ok e None y h = absurd (cc h)
some_ok e (Some a) y h = cc h

pub same_types : (a b : ColumnType) → same_type a b ≡ true → a ≡ b
same_types Int Int h = refl
same_types Int Text h = absurd (cc h)
same_types Text Int h = absurd (cc h)
same_types Text Text h = refl

-- ---- columns

abbrev pub types_in : List ColumnDefinition → List ColumnType
types_in columns = map (λ c. c.of) columns

-- what a query sees of its sources, by types
abbrev pub types_seen : List Visible → List (List ColumnType)
types_seen sources = map (λ v. types_in v.columns) sources

abbrev pub types_of_scope : Scope → Types
types_of_scope scope = map types_seen scope

-- the item so far behind place k
abbrev Behind : {A : Type 0} → ℕ → List A → ℕ → A → Type 0
Behind k list p x = (j : ℕ) × (p ≡ k + j) × (slice_get list j ≡ Some x)

one_behind : {A : Type 0} (k : ℕ) (y : A) (list : List A) (p : ℕ) (x : A) → Behind (k + 1) list p x → Behind k (y ∷ list) p x
one_behind k y list p x (j, e, h) = (suc j, omega (arith, e), h)

found_here : (b : Bool) (k : ℕ) (d : ColumnDefinition) (ds : List ColumnDefinition) (name : Name) (c : ℕ × ColumnType)
    → (column_from (k + 1) ds name ≡ Some c → Behind (k + 1) (types_in ds) c.0 c.1)
    → (if b then Some (k, d.of) else column_from (k + 1) ds name) ≡ Some c → Behind k (types_in (d ∷ ds)) c.0 c.1
found_here true k d ds name c ih h =
    let e : (k, d.of) ≡ c = cc h in
    let place : c.0 ≡ k = ap (λ (p : ℕ × ColumnType). p.0) (sym e) in
    (zero, omega (arith, place), ap (λ (p : ℕ × ColumnType). Some p.1) e)
found_here false k d ds name c ih h = one_behind k d.of (types_in ds) c.0 c.1 (ih h)

found_from : (k : ℕ) (columns : List ColumnDefinition) (name : Name) (c : ℕ × ColumnType) → column_from k columns name ≡ Some c → Behind k (types_in columns) c.0 c.1
found_from k [] name c h = absurd (cc h)
found_from k (d ∷ ds) name c h = found_here (same_name d.name name) k d ds name c (found_from (k + 1) ds name c) h

-- the place of a column that is found is one of the columns
pub place_has_type : (columns : List ColumnDefinition) (name : Name) (c : ℕ × ColumnType) → column_in columns name ≡ Some c → slice_get (types_in columns) c.0 ≡ Some c.1
place_has_type columns name c h =
    let f = found_from 0 columns name c h in
    let place : c.0 ≡ f.0 = omega (arith, f.1) in
    rw place f.2

-- a column of one of the sources from source i on, so many queries outward
abbrev At : ℕ → ℕ → List (List ColumnType) → Column × ColumnType → Type 0
At depth i sources c = (c.0.depth ≡ depth) × (ts : List ColumnType) × Behind i sources c.0.source ts × (slice_get ts c.0.place ≡ Some c.1)

one_at : (depth i : ℕ) (ts : List ColumnType) (sources : List (List ColumnType)) (c : Column × ColumnType) → At depth (i + 1) sources c → At depth i (ts ∷ sources) c
one_at depth i ts sources c (d, us, b, p) = (d, us, one_behind i ts sources c.0.source us b, p)

abbrev column_at : ℕ → ℕ → ℕ × ColumnType → Column × ColumnType
column_at depth i p = (record { depth = depth; source = i; place = p.0 }, p.1)

here_at : (depth i : ℕ) (v : Visible) (vs : List Visible) (name : Name) (p : ℕ × ColumnType) → column_in v.columns name ≡ Some p → At depth i (types_seen (v ∷ vs)) (column_at depth i p)
here_at depth i v vs name p h = (refl, types_in v.columns, (zero, omega arith, refl), place_has_type v.columns name p h)

holds_first : (depth i : ℕ) (v : Visible) (vs : List Visible) (name : Name) (o : Option (ℕ × ColumnType)) (c : Column × ColumnType) (cs : List (Column × ColumnType))
    → column_in v.columns name ≡ o
    → (holders depth (i + 1) vs name ≡ c ∷ cs → At depth (i + 1) (types_seen vs) c)
    → elim o [ None ↦ holders depth (i + 1) vs name | Some p ↦ column_at depth i p ∷ holders depth (i + 1) vs name ] ≡ c ∷ cs
    → At depth i (types_seen (v ∷ vs)) c
holds_first depth i v vs name None c cs is ih h = one_at depth i (types_in v.columns) (types_seen vs) c (ih h)
holds_first depth i v vs name (Some p) c cs is ih h =
    let e : column_at depth i p ≡ c = cc h in
    subst (At depth i (types_seen (v ∷ vs))) e (here_at depth i v vs name p is)

first_holder : (depth i : ℕ) (vs : List Visible) (name : Name) (c : Column × ColumnType) (cs : List (Column × ColumnType)) → holders depth i vs name ≡ c ∷ cs → At depth i (types_seen vs) c
first_holder depth i [] name c cs h = absurd (cc h)
first_holder depth i (v ∷ vs) name c cs h = holds_first depth i v vs name (column_in v.columns name) c cs refl (first_holder depth (i + 1) vs name c cs) h

-- a column of the queries from so many outward on
abbrev Outward : ℕ → Types → Column × ColumnType → Type 0
Outward depth types c = (sources : List (List ColumnType)) × Behind depth types c.0.depth sources × (ts : List ColumnType) × (slice_get sources c.0.source ≡ Some ts) × (slice_get ts c.0.place ≡ Some c.1)

one_outward : (depth : ℕ) (sources : List (List ColumnType)) (types : Types) (c : Column × ColumnType) → Outward (depth + 1) types c → Outward depth (sources ∷ types) c
one_outward depth sources types c (ss, b, us, s, p) = (ss, one_behind depth sources types c.0.depth ss b, us, s, p)

at_outward : (depth : ℕ) (sources : List (List ColumnType)) (types : Types) (c : Column × ColumnType) → At depth 0 sources c → Outward depth (sources ∷ types) c
at_outward depth sources types c (d, ts, (j, e, b), p) =
    let place : c.0.source ≡ j = omega (arith, e) in
    (sources, (zero, omega (arith, d), refl), ts, rw place b, p)

abbrev plain_by : ℕ → Scope → Name → List (Column × ColumnType) → Result (Column × ColumnType) Refusal
plain_by depth outer name [] = plain_column (depth + 1) outer name
plain_by depth outer name (c ∷ cs) = only_one (c ∷ cs)

plain_here : (depth : ℕ) (sources : List Visible) (outer : Scope) (name : Name) (hs : List (Column × ColumnType)) (c : Column × ColumnType)
    → ((first : Column × ColumnType) (cs : List (Column × ColumnType)) → hs ≡ first ∷ cs → At depth 0 (types_seen sources) first)
    → (plain_column (depth + 1) outer name ≡ Ok c → Outward (depth + 1) (types_of_scope outer) c)
    → plain_by depth outer name hs ≡ Ok c
    → Outward depth (types_of_scope (sources ∷ outer)) c
plain_here depth sources outer name [] c held ih h = one_outward depth (types_seen sources) (types_of_scope outer) c (ih h)
plain_here depth sources outer name (d ∷ []) c held ih h =
    let e : d ≡ c = cc h in
    subst (Outward depth (types_of_scope (sources ∷ outer))) e (at_outward depth (types_seen sources) (types_of_scope outer) d (held d [] refl))
plain_here depth sources outer name (d ∷ f ∷ ds) c held ih h = absurd (cc h)

plain_outward : (depth : ℕ) (scope : Scope) (name : Name) (c : Column × ColumnType) → plain_column depth scope name ≡ Ok c → Outward depth (types_of_scope scope) c
plain_outward depth [] name c h = absurd (cc h)
plain_outward depth (sources ∷ outer) name c h =
    plain_here depth sources outer name (holders depth 0 sources name) c (first_holder depth 0 sources name) (plain_outward (depth + 1) outer name c) h

named_here : (b : Bool) (i : ℕ) (v : Visible) (vs : List Visible) (table : TableReference) (s : ℕ × List ColumnDefinition)
    → (source_named (i + 1) vs table ≡ Some s → Behind (i + 1) (types_seen vs) s.0 (types_in s.1))
    → (if b then Some (i, v.columns) else source_named (i + 1) vs table) ≡ Some s → Behind i (types_seen (v ∷ vs)) s.0 (types_in s.1)
named_here true i v vs table s ih h =
    let e : (i, v.columns) ≡ s = cc h in
    let place : s.0 ≡ i = ap (λ (p : ℕ × List ColumnDefinition). p.0) (sym e) in
    (zero, omega (arith, place), ap (λ (p : ℕ × List ColumnDefinition). Some (types_in p.1)) e)
named_here false i v vs table s ih h = one_behind i (types_in v.columns) (types_seen vs) s.0 (types_in s.1) (ih h)

named_source : (i : ℕ) (vs : List Visible) (table : TableReference) (s : ℕ × List ColumnDefinition) → source_named i vs table ≡ Some s → Behind i (types_seen vs) s.0 (types_in s.1)
named_source i [] table s h = absurd (cc h)
named_source i (v ∷ vs) table s h = named_here (same_table v.name table) i v vs table s (named_source (i + 1) vs table s) h

of_source : (depth : ℕ) (s : ℕ × List ColumnDefinition) (name : Name) (c : Column × ColumnType) (sources : List (List ColumnType))
    → Behind 0 sources s.0 (types_in s.1) → column_of_source depth s name ≡ Ok c → At depth 0 sources c
of_source depth s name c sources b h =
    let p = then_ok (some_or refusal.NoColumn (column_in s.1 name)) (λ q. Ok (column_at depth s.0 q)) c h in
    let e : column_at depth s.0 p.0 ≡ c = cc p.2 in
    subst (At depth 0 sources) e (refl, types_in s.1, b, place_has_type s.1 name p.0 (some_ok refusal.NoColumn (column_in s.1 name) p.0 p.1))

abbrev qualified_by : ℕ → Scope → TableReference → Name → Option (ℕ × List ColumnDefinition) → Result (Column × ColumnType) Refusal
qualified_by depth outer table name None = qualified_column (depth + 1) outer table name
qualified_by depth outer table name (Some s) = column_of_source depth s name

qualified_here : (depth : ℕ) (sources : List Visible) (outer : Scope) (table : TableReference) (name : Name) (o : Option (ℕ × List ColumnDefinition)) (c : Column × ColumnType)
    → ((s : ℕ × List ColumnDefinition) → o ≡ Some s → Behind 0 (types_seen sources) s.0 (types_in s.1))
    → (qualified_column (depth + 1) outer table name ≡ Ok c → Outward (depth + 1) (types_of_scope outer) c)
    → qualified_by depth outer table name o ≡ Ok c
    → Outward depth (types_of_scope (sources ∷ outer)) c
qualified_here depth sources outer table name None c held ih h = one_outward depth (types_seen sources) (types_of_scope outer) c (ih h)
qualified_here depth sources outer table name (Some s) c held ih h =
    at_outward depth (types_seen sources) (types_of_scope outer) c (of_source depth s name c (types_seen sources) (held s refl) h)

qualified_outward : (depth : ℕ) (scope : Scope) (table : TableReference) (name : Name) (c : Column × ColumnType) → qualified_column depth scope table name ≡ Ok c → Outward depth (types_of_scope scope) c
qualified_outward depth [] table name c h = absurd (cc h)
qualified_outward depth (sources ∷ outer) table name c h =
    qualified_here depth sources outer table name (source_named 0 sources table) c (named_source 0 sources table) (qualified_outward (depth + 1) outer table name c) h

outward_type : (types : Types) (c : Column × ColumnType) → Outward 0 types c → column_type types c.0 ≡ Some c.1
outward_type types c (sources, (j, e, b), ts, s, p) =
    let depth : c.0.depth ≡ j = omega (arith, e) in
    rw depth (rw b (rw s p))

column_fits : (scope : Scope) (r : ColumnReference) (c : Column × ColumnType) → column_named scope r ≡ Ok c → column_type (types_of_scope scope) c.0 ≡ Some c.1
column_fits scope (Plain name) c h = outward_type (types_of_scope scope) c (plain_outward 0 scope name c h)
column_fits scope (Qualified table name) c h = outward_type (types_of_scope scope) c (qualified_outward 0 scope table name c h)

-- ---- expressions

abbrev pub Typed : Types → Expression × ColumnType → Type 0
Typed types x = IsOf types x.0 x.1

pub expression_fits : (scope : Scope) (e : text.Expression) (x : Expression × ColumnType) → walk_expression scope e ≡ Ok x → Typed (types_of_scope scope) x
expression_fits scope (text.literal v) x h = let e : (literal v, type_of v) ≡ x = cc h in subst (Typed (types_of_scope scope)) e refl
expression_fits scope (text.column r) x h =
    let p = then_ok (column_named scope r) (λ p. Ok (column p.0, p.1)) x h in
    let e : (column p.0.0, p.0.1) ≡ x = cc p.2 in
    subst (Typed (types_of_scope scope)) e (column_fits scope r p.0 p.1)
expression_fits scope (text.binary a op b) x h =
    let p = then_ok (walk_expression scope a) (λ x. and_then (walk_expression scope b) (λ y. required (same_type x.1 Int && same_type y.1 Int) refusal.BadType (Ok (binary x.0 op y.0, Int)))) x h in
    let q = then_ok (walk_expression scope b) (λ y. required (same_type p.0.1 Int && same_type y.1 Int) refusal.BadType (Ok (binary p.0.0 op y.0, Int))) x p.2 in
    let r = required_ok (same_type p.0.1 Int && same_type q.0.1 Int) refusal.BadType (Ok (binary p.0.0 op q.0.0, Int)) x q.2 in
    let s = and_parts (same_type p.0.1 Int) (same_type q.0.1 Int) r.0 in
    let e : (binary p.0.0 op q.0.0, Int) ≡ x = cc r.1 in
    let left = subst (IsOf (types_of_scope scope) p.0.0) (same_types p.0.1 Int s.0) (expression_fits scope a p.0 p.1) in
    let right = subst (IsOf (types_of_scope scope) q.0.0) (same_types q.0.1 Int s.1) (expression_fits scope b q.0 q.1) in
    subst (Typed (types_of_scope scope)) e (left, right, refl)

pub expressions_fit : (scope : Scope) (es : List text.Expression) (xs : List (Expression × ColumnType)) → in_order (walk_expression scope) es ≡ Ok xs
    → AreOf (types_of_scope scope) (map (λ x. x.0) xs) (map (λ x. x.1) xs)
expressions_fit scope [] xs h =
    let P : List (Expression × ColumnType) → Type 0 = λ xs. AreOf (types_of_scope scope) (map (λ x. x.0) xs) (map (λ x. x.1) xs) in
    let e : [] ≡ xs = cc h in
    subst P e tt
expressions_fit scope (e ∷ es) xs h =
    let P : List (Expression × ColumnType) → Type 0 = λ xs. AreOf (types_of_scope scope) (map (λ x. x.0) xs) (map (λ x. x.1) xs) in
    let p = then_ok (walk_expression scope e) (λ y. and_then (in_order (walk_expression scope) es) (λ ys. Ok (y ∷ ys))) xs h in
    let q = then_ok (in_order (walk_expression scope) es) (λ ys. Ok (p.0 ∷ ys)) xs p.2 in
    let is : p.0 ∷ q.0 ≡ xs = cc q.2 in
    subst P is (expression_fits scope e p.0 p.1, expressions_fit scope es q.0 q.1)

-- ---- items

all_of_types : (sources : List Visible) → flat_map (λ v. types_in v.columns) sources ≡ flat_map (λ s. s) (types_seen sources)
all_of_types [] = refl
all_of_types (v ∷ vs) = ap (λ ts. types_in v.columns ++ ts) (all_of_types vs)

abbrev ItemsFit : Types → List (List ColumnType) → Items × List ColumnType → Type 0
ItemsFit types sources i = Lists types sources i.0 i.1

items_fit : (scope : Scope) (sources : List Visible) (its : text.Items) (i : Items × List ColumnType) → walk_items scope sources its ≡ Ok i → ItemsFit (types_of_scope scope) (types_seen sources) i
items_fit scope sources text.all i h =
    let e : (items.All, flat_map (λ v. types_in v.columns) sources) ≡ i = cc h in
    subst (ItemsFit (types_of_scope scope) (types_seen sources)) e (all_of_types sources)
items_fit scope sources text.count i h =
    let e : (items.Count, Int ∷ []) ≡ i = cc h in
    subst (ItemsFit (types_of_scope scope) (types_seen sources)) e refl
items_fit scope sources (text.sum_of a) i h =
    let p = then_ok (walk_expression scope a) (λ x. required (same_type x.1 Int) refusal.BadType (Ok (items.Sum x.0, Int ∷ []))) i h in
    let r = required_ok (same_type p.0.1 Int) refusal.BadType (Ok (items.Sum p.0.0, Int ∷ [])) i p.2 in
    let e : (items.Sum p.0.0, Int ∷ []) ≡ i = cc r.1 in
    subst (ItemsFit (types_of_scope scope) (types_seen sources)) e (subst (IsOf (types_of_scope scope) p.0.0) (same_types p.0.1 Int r.0) (expression_fits scope a p.0 p.1), refl)
items_fit scope sources (text.each_of es) i h =
    let p = then_ok (in_order (walk_expression scope) es) (λ xs. Ok (items.Each (map (λ x. x.0) xs), map (λ x. x.1) xs)) i h in
    let e : (items.Each (map (λ x. x.0) p.0), map (λ x. x.1) p.0) ≡ i = cc p.2 in
    subst (ItemsFit (types_of_scope scope) (types_seen sources)) e (expressions_fit scope es p.0 p.1)

-- `count` and `sum` give one integer
abbrev OneInteger : List Source → Condition → Items × List ColumnType → Type 0
OneInteger sources c i = IsOneValue (select i.0 sources c) × (i.1 ≡ Int ∷ [])

one_integer : (scope : Scope) (seen : List Visible) (sources : List Source) (c : Condition) (its : text.Items) (i : Items × List ColumnType) → walk_items scope seen its ≡ Ok i → is_aggregate its ≡ true → OneInteger sources c i
one_integer scope seen sources c text.all i h a = absurd (cc a)
one_integer scope seen sources c text.count i h a =
    let e : (items.Count, Int ∷ []) ≡ i = cc h in
    subst (OneInteger sources c) e (tt, refl)
one_integer scope seen sources c (text.sum_of b) i h a =
    let p = then_ok (walk_expression scope b) (λ x. required (same_type x.1 Int) refusal.BadType (Ok (items.Sum x.0, Int ∷ []))) i h in
    let r = required_ok (same_type p.0.1 Int) refusal.BadType (Ok (items.Sum p.0.0, Int ∷ [])) i p.2 in
    let e : (items.Sum p.0.0, Int ∷ []) ≡ i = cc r.1 in
    subst (OneInteger sources c) e (tt, refl)
one_integer scope seen sources c (text.each_of es) i h a = absurd (cc a)

-- ---- values in columns

in_one : (k : ColumnType) (ts : List ColumnType) (b : Bool) → in_type k ts ≡ Ok b → ts ≡ k ∷ []
in_one k [] b h = absurd (cc h)
in_one k (t ∷ []) b h =
    let r = required_ok (same_type k t) refusal.BadType (Ok true) b h in
    ap (λ u. u ∷ []) (sym (same_types k t r.0))
in_one k (t ∷ u ∷ ts) b h = absurd (cc h)

of_types_fit : (ks : List ColumnType) (cs : List ColumnDefinition) (b : Bool) → length ks ≡ length cs → of_types ks cs ≡ Ok b → ks ≡ types_in cs
of_types_fit [] [] b n h = refl
of_types_fit [] (c ∷ cs) b n h = absurd (omega (arith, n))
of_types_fit (k ∷ ks) [] b n h = absurd (omega (arith, n))
of_types_fit (k ∷ ks) (c ∷ cs) b n h =
    let r = required_ok (same_type k c.of) refusal.BadType (of_types ks cs) b h in
    let less : length ks ≡ length cs = omega (arith, n) in
    (λ i. same_types k c.of r.0 i ∷ of_types_fit ks cs b less r.1 i)

pub fitting_fits : (ks : List ColumnType) (cs : List ColumnDefinition) (b : Bool) → fitting ks cs ≡ Ok b → ks ≡ types_in cs
fitting_fits ks cs b h =
    let r = required_ok (length ks == length cs) refusal.WrongCount (of_types ks cs) b h in
    of_types_fit ks cs b (eqb-true (length ks) (length cs) r.0) r.1

module _ (schema : Schema) where
  -- the parts of a query that was walked
  abbrev pub Selected : text.Items → List SourceReference → (Scope → Result Condition Refusal) → Scope → Walked → Type 0
  Selected its refs filter scope w =
      (ss : List (Source × Visible)) × (walk_sources schema [] refs ≡ Ok ss)
      × (i : Items × List ColumnType) × (walk_items (map (λ s. s.1) ss ∷ scope) (map (λ s. s.1) ss) its ≡ Ok i)
      × (c : Condition) × (filter (map (λ s. s.1) ss ∷ scope) ≡ Ok c)
      × ((select i.0 (map (λ s. s.0) ss) c, i.1) ≡ w)

  pub selected : (its : text.Items) (refs : List SourceReference) (filter : Scope → Result Condition Refusal) (scope : Scope) (w : Walked) → walk_select schema its refs filter scope ≡ Ok w → Selected its refs filter scope w
  selected its refs filter scope w h =
      let p = then_ok (walk_sources schema [] refs) (λ ss.
      and_then (walk_items (map (λ s. s.1) ss ∷ scope) (map (λ s. s.1) ss) its) (λ i.
      and_then (filter (map (λ s. s.1) ss ∷ scope)) (λ c. Ok (select i.0 (map (λ s. s.0) ss) c, i.1)))) w h in
      let seen = map (λ s. s.1) p.0 in
      let q = then_ok (walk_items (seen ∷ scope) seen its) (λ i. and_then (filter (seen ∷ scope)) (λ c. Ok (select i.0 (map (λ s. s.0) p.0) c, i.1))) w p.2 in
      let r = then_ok (filter (seen ∷ scope)) (λ c. Ok (select q.0.0 (map (λ s. s.0) p.0) c, q.0.1)) w q.2 in
      let e : (select q.0.0 (map (λ s. s.0) p.0) r.0, q.0.1) ≡ w = cc r.2 in
      (p.0, p.1, q.0, q.1, r.0, r.1, e)

  -- a source and those behind it
  abbrev pub Sourced : List TableReference → SourceReference → List SourceReference → List (Source × Visible) → Type 0
  Sourced taken r refs ss = (t : Source × List ColumnDefinition) × (walk_table schema r.table ≡ Ok t)
      × (rest : List (Source × Visible)) × (walk_sources schema (visible_name r ∷ taken) refs ≡ Ok rest)
      × ((t.0, record { name = visible_name r; columns = t.1 }) ∷ rest ≡ ss)

  pub sourced : (taken : List TableReference) (r : SourceReference) (refs : List SourceReference) (ss : List (Source × Visible)) → walk_sources schema taken (r ∷ refs) ≡ Ok ss → Sourced taken r refs ss
  sourced taken r refs ss h =
      let p = then_ok (walk_table schema r.table) (λ t.
      required (not (list_any (same_table (visible_name r)) taken)) refusal.Ambiguous
      (and_then (walk_sources schema (visible_name r ∷ taken) refs) (λ rest. Ok ((t.0, record { name = visible_name r; columns = t.1 }) ∷ rest)))) ss h in
      let q = required_ok (not (list_any (same_table (visible_name r)) taken)) refusal.Ambiguous
      (and_then (walk_sources schema (visible_name r ∷ taken) refs) (λ rest. Ok ((p.0.0, record { name = visible_name r; columns = p.0.1 }) ∷ rest))) ss p.2 in
      let w = then_ok (walk_sources schema (visible_name r ∷ taken) refs) (λ rest. Ok ((p.0.0, record { name = visible_name r; columns = p.0.1 }) ∷ rest)) ss q.1 in
      let e : (p.0.0, record { name = visible_name r; columns = p.0.1 }) ∷ w.0 ≡ ss = cc w.2 in
      (p.0, p.1, w.0, w.1, e)

  -- an assignment and those behind it
  abbrev pub Assigned : Entry → List ℕ → text.Assignment → List text.Assignment → List Assignment → Type 0
  Assigned e taken x xs done = (c : ℕ × ColumnType) × (column_in e.table.columns x.column ≡ Some c)
      × (o : Operand × ColumnType) × (walk_operand schema x.operand (visible_table schema e) ≡ Ok o) × (same_type o.1 c.1 ≡ true)
      × (others : List Assignment) × (walk_assignments schema e (c.0 ∷ taken) xs ≡ Ok others)
      × (record { place = c.0; operand = o.0 } ∷ others ≡ done)

  pub assigned : (e : Entry) (taken : List ℕ) (x : text.Assignment) (xs : List text.Assignment) (done : List Assignment) → walk_assignments schema e taken (x ∷ xs) ≡ Ok done → Assigned e taken x xs done
  assigned e taken x xs done h =
      let c = then_ok (some_or refusal.NoColumn (column_in e.table.columns x.column)) (λ c.
      required (not (list_any (λ k. k == c.0) taken)) refusal.Ambiguous
      (and_then (walk_operand schema x.operand (visible_table schema e)) (λ o.
      required (same_type o.1 c.1) refusal.BadType
      (and_then (walk_assignments schema e (c.0 ∷ taken) xs) (λ others. Ok (record { place = c.0; operand = o.0 } ∷ others)))))) done h in
      let free = required_ok (not (list_any (λ k. k == c.0.0) taken)) refusal.Ambiguous
      (and_then (walk_operand schema x.operand (visible_table schema e)) (λ o.
      required (same_type o.1 c.0.1) refusal.BadType
      (and_then (walk_assignments schema e (c.0.0 ∷ taken) xs) (λ others. Ok (record { place = c.0.0; operand = o.0 } ∷ others))))) done c.2 in
      let o = then_ok (walk_operand schema x.operand (visible_table schema e)) (λ o.
      required (same_type o.1 c.0.1) refusal.BadType
      (and_then (walk_assignments schema e (c.0.0 ∷ taken) xs) (λ others. Ok (record { place = c.0.0; operand = o.0 } ∷ others)))) done free.1 in
      let same = required_ok (same_type o.0.1 c.0.1) refusal.BadType
      (and_then (walk_assignments schema e (c.0.0 ∷ taken) xs) (λ others. Ok (record { place = c.0.0; operand = o.0.0 } ∷ others))) done o.2 in
      let others = then_ok (walk_assignments schema e (c.0.0 ∷ taken) xs) (λ others. Ok (record { place = c.0.0; operand = o.0.0 } ∷ others)) done same.1 in
      let is : record { place = c.0.0; operand = o.0.0 } ∷ others.0 ≡ done = cc others.2 in
      (c.0, some_ok refusal.NoColumn (column_in e.table.columns x.column) c.0 c.1, o.0, o.1, same.0, others.0, others.1, is)

  -- a statement of a rule and the actions behind it
  pub acted : (c : text.Statement) (xs : List text.Action) (done : List Action) → in_order (walk_action schema) (text.changes c ∷ xs) ≡ Ok done
      → (s : Statement) × (walk_statement schema c ≡ Ok s) × (others : List Action) × (in_order (walk_action schema) xs ≡ Ok others) × (action.Change s ∷ others ≡ done)
  acted c xs done h =
      let p = both_ok (and_then (walk_statement schema c) (λ s. Ok (action.Change s))) (in_order (walk_action schema) xs) (λ y ys. y ∷ ys) done h in
      let s = then_ok (walk_statement schema c) (λ s. Ok (action.Change s)) p.0 p.1 in
      let one : action.Change s.0 ≡ p.0 = cc s.2 in
      (s.0, s.1, p.2, p.3, ap (λ (y : Action). y ∷ p.2) one ∙ p.4)

-- ---- sources

module _ (schema : Schema) (types_of : Source → List ColumnType) (are : AreTypesOf schema types_of) where
  abbrev SourcesFit : List (Source × Visible) → Type 0
  SourcesFit ss = map types_of (map (λ s. s.0) ss) ≡ types_seen (map (λ s. s.1) ss)

  sources_fit : (taken : List TableReference) (refs : List SourceReference) (ss : List (Source × Visible)) → walk_sources schema taken refs ≡ Ok ss → SourcesFit ss
  sources_fit taken [] ss h = let e : [] ≡ ss = cc h in subst SourcesFit e refl
  sources_fit taken (r ∷ refs) ss h =
      let p = sourced schema taken r refs ss h in
      subst SourcesFit p.4 (λ i. are r.table p.0 p.1 i ∷ sources_fit (visible_name r ∷ taken) refs p.2 p.3 i)

  -- ---- conditions, operands and queries

  abbrev ConditionIs : Scope → Condition → Type 0
  ConditionIs scope c = ConditionFits types_of (types_of_scope scope) c

  abbrev OperandIs : Scope → Operand × ColumnType → Type 0
  OperandIs scope o = OperandFits types_of (types_of_scope scope) o.0 o.1

  abbrev QueryIs : Scope → Walked → Type 0
  QueryIs scope w = QueryFits types_of (types_of_scope scope) w.0 w.1

  not_fits : (scope : Scope) (b : Bool) (c : Condition) → ConditionIs scope c → ConditionIs scope (with_not b c)
  not_fits scope true c h = h
  not_fits scope false c h = h

  abbrev QueryOver : Scope → List (List ColumnType) → Items × List ColumnType → Condition → Type 0
  QueryOver scope here i c = Lists (here ∷ types_of_scope scope) here i.0 i.1 × ConditionFits types_of (here ∷ types_of_scope scope) c

  mutual
    pub condition_fits : (c : text.Condition) (scope : Scope) (x : Condition) → walk_condition schema c scope ≡ Ok x → ConditionIs scope x
    condition_fits (text.disjunction a b) scope x h =
        let p = both_ok (walk_condition schema a scope) (walk_condition schema b scope) disjunction x h in
        subst (ConditionIs scope) p.4 (condition_fits a scope p.0 p.1, condition_fits b scope p.2 p.3)
    condition_fits (text.conjunction a b) scope x h =
        let p = both_ok (walk_condition schema a scope) (walk_condition schema b scope) conjunction x h in
        subst (ConditionIs scope) p.4 (condition_fits a scope p.0 p.1, condition_fits b scope p.2 p.3)
    condition_fits (text.negation a) scope x h =
        let p = then_ok (walk_condition schema a scope) (λ x. Ok (negation x)) x h in
        let e : negation p.0 ≡ x = cc p.2 in
        subst (ConditionIs scope) e (condition_fits a scope p.0 p.1)
    condition_fits (text.compare a op b) scope x h =
        let p = then_ok (walk_expression scope a) (λ x. and_then (walk_operand schema b scope) (λ y. required (same_type x.1 y.1) refusal.BadType (Ok (compare x.0 op y.0)))) x h in
        let q = then_ok (walk_operand schema b scope) (λ y. required (same_type p.0.1 y.1) refusal.BadType (Ok (compare p.0.0 op y.0))) x p.2 in
        let r = required_ok (same_type p.0.1 q.0.1) refusal.BadType (Ok (compare p.0.0 op q.0.0)) x q.2 in
        let e : compare p.0.0 op q.0.0 ≡ x = cc r.1 in
        let left = subst (IsOf (types_of_scope scope) p.0.0) (same_types p.0.1 q.0.1 r.0) (expression_fits scope a p.0 p.1) in
        subst (ConditionIs scope) e (q.0.1, left, operand_fits b scope q.0 q.1)
    condition_fits (text.is_in a has_not q) scope x h =
        let p = then_ok (walk_expression scope a) (λ x. and_then (walk_query schema q scope) (λ w. and_then (in_type x.1 w.1) (λ _. Ok (with_not has_not (is_in x.0 w.0))))) x h in
        let w = then_ok (walk_query schema q scope) (λ w. and_then (in_type p.0.1 w.1) (λ _. Ok (with_not has_not (is_in p.0.0 w.0)))) x p.2 in
        let t = then_ok (in_type p.0.1 w.0.1) (λ _. Ok (with_not has_not (is_in p.0.0 w.0.0))) x w.2 in
        let e : with_not has_not (is_in p.0.0 w.0.0) ≡ x = cc t.2 in
        let one = subst (QueryFits types_of (types_of_scope scope) w.0.0) (in_one p.0.1 w.0.1 t.0 t.1) (query_fits q scope w.0 w.1) in
        subst (ConditionIs scope) e (not_fits scope has_not (is_in p.0.0 w.0.0) (p.0.1, expression_fits scope a p.0 p.1, one))
    condition_fits (text.exists q) scope x h =
        let w = then_ok (walk_query schema q scope) (λ w. Ok (exists w.0)) x h in
        let e : exists w.0.0 ≡ x = cc w.2 in
        subst (ConditionIs scope) e (w.0.1, query_fits q scope w.0 w.1)

    pub operand_fits : (o : text.Operand) (scope : Scope) (x : Operand × ColumnType) → walk_operand schema o scope ≡ Ok x → OperandIs scope x
    operand_fits (text.expression a) scope x h =
        let p = then_ok (walk_expression scope a) (λ x. Ok (expression x.0, x.1)) x h in
        let e : (expression p.0.0, p.0.1) ≡ x = cc p.2 in
        subst (OperandIs scope) e (expression_fits scope a p.0 p.1)
    operand_fits (text.scalar_subquery q) scope x h =
        let w = then_ok (walk_query schema q scope) (λ w. required (has_aggregate q) refusal.WrongCount (Ok (scalar_subquery w.0, Int))) x h in
        let r = required_ok (has_aggregate q) refusal.WrongCount (Ok (scalar_subquery w.0.0, Int)) x w.2 in
        let e : (scalar_subquery w.0.0, Int) ≡ x = cc r.1 in
        let one = one_value q scope w.0 w.1 r.0 in
        subst (OperandIs scope) e (one.0, subst (QueryFits types_of (types_of_scope scope) w.0.0) one.1 (query_fits q scope w.0 w.1))

    pub filter_fits : (f : text.Filter) (scope : Scope) (x : Condition) → walk_filter schema f scope ≡ Ok x → ConditionIs scope x
    filter_fits text.everything scope x h = let e : always ≡ x = cc h in subst (ConditionIs scope) e tt
    filter_fits (text.those c) scope x h = condition_fits c scope x h

    pub query_fits : (q : text.Query) (scope : Scope) (w : Walked) → walk_query schema q scope ≡ Ok w → QueryIs scope w
    query_fits (text.select its refs filter) scope w h =
        let s = selected schema its refs (walk_filter schema filter) scope w h in
        let seen = map (λ s. s.1) s.0 in
        let here : types_seen seen ≡ map types_of (map (λ s. s.0) s.0) = sym (sources_fit [] refs s.0 s.1) in
        let over : QueryOver scope (types_seen seen) s.2 s.4 = (items_fit (seen ∷ scope) seen its s.2 s.3, filter_fits filter (seen ∷ scope) s.4 s.5) in
        let P : List (List ColumnType) → Type 0 = λ here. QueryOver scope here s.2 s.4 in
        subst (QueryIs scope) s.6 (subst P here over)

    one_value : (q : text.Query) (scope : Scope) (w : Walked) → walk_query schema q scope ≡ Ok w → has_aggregate q ≡ true → IsOneValue w.0 × (w.1 ≡ Int ∷ [])
    one_value (text.select its refs filter) scope w h a =
        let s = selected schema its refs (walk_filter schema filter) scope w h in
        let seen = map (λ s. s.1) s.0 in
        let P : Walked → Type 0 = λ w. IsOneValue w.0 × (w.1 ≡ Int ∷ []) in
        subst P s.6 (one_integer (seen ∷ scope) seen (map (λ s. s.0) s.0) s.4 its s.2 s.3 a)

  -- ---- statements

  abbrev table_types : Entry → List ColumnType
  table_types e = types_in e.table.columns

  -- the columns of a table that is found
  pub table_fits : (name : Name) (e : Entry) → table_named schema name ≡ Ok e → types_of (Table e.id) ≡ table_types e
  table_fits name e h = are (Named name) (Table e.id, e.table.columns) (rw h refl)

  -- what a delete or an update sees of its table
  row_scope : (e : Entry) → types_of (Table e.id) ≡ table_types e → types_of_scope (visible_table schema e) ≡ row_types types_of e.id
  row_scope e h = ap (λ ts. (ts ∷ []) ∷ []) (sym h)

  rows_fit : (e : Entry) (rows : List (List Value)) (fits : List Bool) → types_of (Table e.id) ≡ table_types e → in_order (λ row. fitting (map type_of row) e.table.columns) rows ≡ Ok fits → RowsFit types_of e.id rows
  rows_fit e [] fits t h = tt
  rows_fit e (row ∷ rows) fits t h =
      let p = then_ok (fitting (map type_of row) e.table.columns) (λ y. and_then (in_order (λ row. fitting (map type_of row) e.table.columns) rows) (λ ys. Ok (y ∷ ys))) fits h in
      let q = then_ok (in_order (λ row. fitting (map type_of row) e.table.columns) rows) (λ ys. Ok (p.0 ∷ ys)) fits p.2 in
      (fitting_fits (map type_of row) e.table.columns p.0 p.1 ∙ sym t, rows_fit e rows q.0 t q.1)

  assignments_fit : (e : Entry) → types_of (Table e.id) ≡ table_types e → (taken : List ℕ) (xs : List text.Assignment) (done : List Assignment) → walk_assignments schema e taken xs ≡ Ok done → AssignmentsFit types_of e.id done
  assignments_fit e t taken [] done h = let is : [] ≡ done = cc h in subst (AssignmentsFit types_of e.id) is tt
  assignments_fit e t taken (x ∷ xs) done h =
      let a = assigned schema e taken x xs done h in
      let place = place_has_type e.table.columns x.column a.0 a.1 in
      let P : List ColumnType → Type 0 = λ ts. slice_get ts a.0.0 ≡ Some a.0.1 in
      let Q : Types → Type 0 = λ types. OperandFits types_of types a.2.0 a.0.1 in
      let typed = subst (OperandFits types_of (types_of_scope (visible_table schema e)) a.2.0) (same_types a.2.1 a.0.1 a.4) (operand_fits x.operand (visible_table schema e) a.2 a.3) in
      subst (AssignmentsFit types_of e.id) a.7
      ((a.0.1, subst P (sym t) place, subst Q (row_scope e t) typed), assignments_fit e t (a.0.0 ∷ taken) xs a.5 a.6)

  pub statement_fits : (c : text.Statement) (s : Statement) → walk_statement schema c ≡ Ok s → StatementFits types_of s
  statement_fits (text.insert_rows name rows) s h =
      let e = then_ok (table_named schema name) (λ e. and_then (in_order (λ row. fitting (map type_of row) e.table.columns) rows) (λ _. Ok (InsertRows e.id rows))) s h in
      let r = then_ok (in_order (λ row. fitting (map type_of row) e.0.table.columns) rows) (λ _. Ok (InsertRows e.0.id rows)) s e.2 in
      let is : InsertRows e.0.id rows ≡ s = cc r.2 in
      subst (StatementFits types_of) is (rows_fit e.0 rows r.0 (table_fits name e.0 e.1) r.1)
  statement_fits (text.insert_query name q) s h =
      let e = then_ok (table_named schema name) (λ e. and_then (walk_query schema q []) (λ w. and_then (fitting w.1 e.table.columns) (λ _. Ok (InsertQuery e.id w.0)))) s h in
      let w = then_ok (walk_query schema q []) (λ w. and_then (fitting w.1 e.0.table.columns) (λ _. Ok (InsertQuery e.0.id w.0))) s e.2 in
      let f = then_ok (fitting w.0.1 e.0.table.columns) (λ _. Ok (InsertQuery e.0.id w.0.0)) s w.2 in
      let is : InsertQuery e.0.id w.0.0 ≡ s = cc f.2 in
      subst (StatementFits types_of) is
      (subst (QueryFits types_of [] w.0.0) (fitting_fits w.0.1 e.0.table.columns f.0 f.1 ∙ sym (table_fits name e.0 e.1)) (query_fits q [] w.0 w.1))
  statement_fits (text.delete name filter) s h =
      let e = then_ok (table_named schema name) (λ e. and_then (walk_filter schema filter (visible_table schema e)) (λ c. Ok (Delete e.id c))) s h in
      let c = then_ok (walk_filter schema filter (visible_table schema e.0)) (λ c. Ok (Delete e.0.id c)) s e.2 in
      let is : Delete e.0.id c.0 ≡ s = cc c.2 in
      let P : Types → Type 0 = λ types. ConditionFits types_of types c.0 in
      subst (StatementFits types_of) is (subst P (row_scope e.0 (table_fits name e.0 e.1)) (filter_fits filter (visible_table schema e.0) c.0 c.1))
  statement_fits (text.update name assignments filter) s h =
      let e = then_ok (table_named schema name) (λ e. and_then (walk_assignments schema e [] assignments) (λ places. and_then (walk_filter schema filter (visible_table schema e)) (λ c. Ok (Update e.id places c)))) s h in
      let a = then_ok (walk_assignments schema e.0 [] assignments) (λ places. and_then (walk_filter schema filter (visible_table schema e.0)) (λ c. Ok (Update e.0.id places c))) s e.2 in
      let c = then_ok (walk_filter schema filter (visible_table schema e.0)) (λ c. Ok (Update e.0.id a.0 c)) s a.2 in
      let is : Update e.0.id a.0 c.0 ≡ s = cc c.2 in
      let t = table_fits name e.0 e.1 in
      let P : Types → Type 0 = λ types. ConditionFits types_of types c.0 in
      subst (StatementFits types_of) is (assignments_fit e.0 t [] assignments a.0 a.1, subst P (row_scope e.0 t) (filter_fits filter (visible_table schema e.0) c.0 c.1))

  pub actions_fit : (xs : List text.Action) (done : List Action) → in_order (walk_action schema) xs ≡ Ok done → ActionsFit types_of done
  actions_fit [] done h = let is : [] ≡ done = cc h in subst (ActionsFit types_of) is tt
  actions_fit (text.rolls_back ∷ xs) done h =
      let q = then_ok (in_order (walk_action schema) xs) (λ ys. Ok (action.Rollback ∷ ys)) done h in
      let is : action.Rollback ∷ q.0 ≡ done = cc q.2 in
      subst (ActionsFit types_of) is (actions_fit xs q.0 q.1)
  actions_fit (text.changes c ∷ xs) done h =
      let a = acted schema c xs done h in
      subst (ActionsFit types_of) a.4 (statement_fits c a.0 a.1, actions_fit xs a.2 a.3)

  pub rule_condition_fits : (q : Option text.Query) (x : Option Query) → condition_parts schema q ≡ Ok x → RuleConditionFits types_of x
  rule_condition_fits None x h = let is : None ≡ x = cc h in subst (RuleConditionFits types_of) is tt
  rule_condition_fits (Some q) x h =
      let w = then_ok (walk_query schema q []) (λ w. Ok (Some w.0)) x h in
      let is : Some w.0.0 ≡ x = cc w.2 in
      subst (RuleConditionFits types_of) is (w.0.1, query_fits q [] w.0 w.1)
