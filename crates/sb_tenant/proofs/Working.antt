-- Commands in a transaction: the walk over the tables as they are seen is the one over the committed tables.
use Rattle.std.proofs.Common.{◌≡◌, ◌∙◌, ◌⊎◌, ℕ, Bool, true, false, nat_eq, cond, List, [], ◌∷◌, map, refl, sym, ap, subst, inl, inr}
use Rattle.std.specs.Prelude.{None, Result, Ok, Err}
use Rattle.sb_tenant.specs.declared.bound.Bound.{Bound}
use Rattle.sb_value.specs.declared.change.Change.{Change}
use Rattle.sb_value.specs.declared.change.ChangeKind.{ChangeKind}
use Rattle.sb_value.specs.declared.change.ChangeKind.TheVariants.{Inserted, Deleted, Updated}
use Rattle.sb_value.specs.declared.refusal.Refusal.{Refusal}
use Rattle.sb_value.specs.declared.refusal.Refusal.TheVariants as refusal
use Rattle.sb_value.specs.Table.{Table, after_kind}
use Rattle.sb_syntax.specs.Tree as text
use Rattle.sb_check.specs.Condition.{Query}
use Rattle.sb_check.specs.declared.tree.Statement.{Statement}
use Rattle.sb_check.specs.Lent.{SeenTable, table_seen}
use Rattle.sb_check.specs.Names.{and_then, Scope}
use Rattle.sb_check.specs.Sees.{SeeTheSame}
use Rattle.sb_check.specs.Walk.{Schema, Walked, walk_query, walk_statement}
use Rattle.sb_rawlog.specs.Records.{Record}
use Rattle.sb_index.specs.TableSets.{TableSets}
use Rattle.sb_tables.specs.Held.{Held, entries, entry_of}
use Rattle.sb_tables.specs.Undo.{stored_after}
use Rattle.sb_process.specs.Made.{held_after, tables_after, tables_after_all}
use Rattle.sb_tenant.specs.declared.reply.Reply.{Reply}
use Rattle.sb_tenant.specs.declared.store.Store.{Store}
use Rattle.sb_tenant.specs.Represents.{StandFor, Performs, Refuses, all_changes}
use Rattle.sb_tenant.specs.Resolved.{Resolved, query, change}
use Rattle.sb_tenant.specs.State.{State}
use Rattle.sb_tenant.specs.Step.{outcome_of}
use Rattle.sb_tenant.specs.Walk.{outside_rules, walk}
use Rattle.sb_check.specs.Mentions.{query_sources}
use Rattle.sb_check.specs.There.{AreThere as AreNamed}
use Rattle.sb_eval.specs.Statement.{query_locks}
use Rattle.sb_process.specs.Request.{AreThere}
use Rattle.sb_tenant.proofs.AtRest.{unroomed}
use Rattle.sb_tenant.proofs.Runnable.{reads_there}
use Rattle.sb_tenant.proofs.TableCommands.{outside}

-- ---- what is seen of the tables

same_columns : (k : ChangeKind) (c : Change) (t : Table) → (after_kind k c t).columns ≡ t.columns
same_columns Inserted c t = refl
same_columns Deleted c t = refl
same_columns Updated c t = refl

abbrev seen : Held → SeenTable
seen h = table_seen (entry_of h)

seen_after : (c : Change) (h : Held) → seen (held_after c h) ≡ seen h
seen_after c h = by (nat_eq h.id c.table)
  where
    by : (b : Bool) → seen (cond b (record h { stored = stored_after c h.stored }) h) ≡ seen h
    by true = ap (λ cs. (h.id, h.name, cs)) (same_columns c.kind c h.stored.table)
    by false = refl

-- what is seen of each
abbrev all_seen : List Held → List SeenTable
all_seen tables = map table_seen (entries tables)

one_made : (c : Change) (tables : List Held) → all_seen (tables_after c tables) ≡ all_seen tables
one_made c [] = refl
one_made c (h ∷ tables) = λ i. seen_after c h i ∷ one_made c tables i

all_made : (changes : List Change) (tables : List Held) → all_seen (tables_after_all changes tables) ≡ all_seen tables
all_made [] tables = refl
all_made (c ∷ changes) tables = all_made changes (tables_after c tables) ∙ one_made c tables

sees_committed : (store : Store) (records : List Record) (clock : ℕ) (index : List (List TableSets)) (state : State) → StandFor store records clock index state
    → SeeTheSame (outside_rules state.catalog) (outside (entries store.database.tables))
sees_committed store records clock index state h =
    let origin : List Held = h.0.0 in
    let same : entries store.database.tables ≡ entries (tables_after_all (all_changes state) origin) =
    sym (unroomed store.database.tables) ∙ ap entries h.0.1.made.made ∙ unroomed (tables_after_all (all_changes state) origin) in
    record {
      tables = ap (map table_seen) (sym h.0.1.committed) ∙ sym (all_made (all_changes state) origin) ∙ ap (map table_seen) (sym same);
      rule = refl;
    }

-- ---- queries and statements

-- what the walk gives of a query
form_of : (r : Result Walked Refusal) (q : Query) → and_then r (λ w. Ok w.0) ≡ Ok q → and_then {B = Resolved} r (λ w. Ok (query w.0)) ≡ Ok (query q)
form_of (Ok w) q h = let e : w.0 ≡ q = cc h in ap (λ x. Ok (query x)) e
form_of (Err e) q h = absurd (cc h)

refused_form : (r : Result Walked Refusal) (e : Refusal) → and_then {B = Query} r (λ w. Ok w.0) ≡ Err e → and_then {B = Resolved} r (λ w. Ok (query w.0)) ≡ Err e
refused_form (Ok w) e h = absurd (cc h)
refused_form (Err d) e h = let same : d ≡ e = cc h in ap (λ x. Err x) same

-- the query was walked
pub walked_as : (r : Result Walked Refusal) (q : Query) → and_then r (λ w. Ok w.0) ≡ Ok q → (w : Walked) × (r ≡ Ok w) × (w.0 ≡ q)
walked_as (Ok w) q h = (w, refl, cc h)
walked_as (Err e) q h = absurd (cc h)

-- the laws of the walk
abbrev pub QueriesSee : Type 0
QueriesSee = (a b : Schema) → SeeTheSame a b → (q : text.Query) (scope : Scope) → walk_query a q scope ≡ walk_query b q scope

abbrev pub ChangesSee : Type 0
ChangesSee = (a b : Schema) → SeeTheSame a b → (c : text.Statement) → walk_statement a c ≡ walk_statement b c

module _ (store : Store) (records : List Record) (clock : ℕ) (index : List (List TableSets)) (state : State) (h : StandFor store records clock index state) where
  query_same : QueriesSee → (q : text.Query) → walk state.catalog (text.query q) ≡ and_then (walk_query (outside (entries store.database.tables)) q []) (λ w. Ok (query w.0))
  query_same sees q = ap (λ (r : Result Walked Refusal). and_then r (λ w. Ok (query w.0))) (sees (outside_rules state.catalog) (outside (entries store.database.tables)) (sees_committed store records clock index state h) q [])

  pub query_walked : QueriesSee → (q : text.Query) (x : Query) → and_then (walk_query (outside (entries store.database.tables)) q []) (λ w. Ok w.0) ≡ Ok x → walk state.catalog (text.query q) ≡ Ok (query x)
  query_walked sees q x e = query_same sees q ∙ form_of (walk_query (outside (entries store.database.tables)) q []) x e

  pub query_refused : QueriesSee → (q : text.Query) (e : Refusal) → and_then {B = Query} (walk_query (outside (entries store.database.tables)) q []) (λ w. Ok w.0) ≡ Err e → walk state.catalog (text.query q) ≡ Err e
  query_refused sees q e w = query_same sees q ∙ refused_form (walk_query (outside (entries store.database.tables)) q []) e w

  change_same : ChangesSee → (c : text.Statement) → walk state.catalog (text.change c) ≡ and_then (walk_statement (outside (entries store.database.tables)) c) (λ s. Ok (change s))
  change_same sees c = ap (λ (r : Result Statement Refusal). and_then r (λ s. Ok (change s))) (sees (outside_rules state.catalog) (outside (entries store.database.tables)) (sees_committed store records clock index state h) c)

  pub change_walked : ChangesSee → (c : text.Statement) (r : Result Statement Refusal) → walk_statement (outside (entries store.database.tables)) c ≡ r → walk state.catalog (text.change c) ≡ and_then r (λ s. Ok (change s))
  change_walked sees c r e = change_same sees c ∙ ap (λ (r : Result Statement Refusal). and_then r (λ s. Ok (change s))) e

-- ---- what is performed

-- the walk gave this, and it is performed
pub performs_as : (new : Store) (records : List Record) (clock : ℕ) (index : List (List TableSets)) (state : State) (tenant : ℕ) (bound : Bound) (s : ℕ) (w v : Result Resolved Refusal) (got : Reply) → w ≡ v
    → Performs new records clock index state s (outcome_of tenant bound state s None v) got → Performs new records clock index state s (outcome_of tenant bound state s None w) got
performs_as new records clock index state tenant bound s w v got e h =
    subst (λ (r : Result Resolved Refusal). Performs new records clock index state s (outcome_of tenant bound state s None r) got) (sym e) h

-- what the walk refuses is answered so, and nothing changes
pub refusal_meant : (stands : State → Type 0) (tenant : ℕ) (bound : Bound) (s : ℕ) (state : State) → stands state → (w : Result Resolved Refusal) (e : Refusal) → (w ≡ Err e) ⊎ (e ≡ refusal.NoMemory)
    → Refuses stands (outcome_of tenant bound state s None w) e
refusal_meant stands tenant bound s state st w e (inl h) =
    subst (λ (r : Result Resolved Refusal). Refuses stands (outcome_of tenant bound state s None r) e) (sym h) (inl (refl, st))
refusal_meant stands tenant bound s state st w e (inr m) = inr m

-- the same of a part of the walk
pub part_refused : {A B : Type 0} (part : Result A Refusal) (w : Result B Refusal) (e : Refusal) → (part ≡ Err e → w ≡ Err e) → (part ≡ Err e) ⊎ (e ≡ refusal.NoMemory) → (w ≡ Err e) ⊎ (e ≡ refusal.NoMemory)
part_refused part w e f (inl h) = inl (f h)
part_refused part w e f (inr m) = inr m

-- ---- what a resolved query and statement name is there

pub query_names_tables : ((names : Schema) (q : text.Query) (w : Walked) → walk_query names q [] ≡ Ok w → AreNamed names.tables (query_sources w.0))
    → (tables : List Held) (q : text.Query) (x : Query) → and_then (walk_query (outside (entries tables)) q []) (λ w. Ok w.0) ≡ Ok x → AreThere tables (query_locks x)
query_names_tables law tables q x h =
    let w = walked_as (walk_query (outside (entries tables)) q []) x h in
    subst (λ (y : Query). AreThere tables (query_locks y)) w.2 (reads_there tables (query_sources w.0.0) (law (outside (entries tables)) q w.0 w.1))
