-- The commands on tables, where no session has a transaction.
use Rattle.std.proofs.Common.{◌≡◌, ◌∙◌, ◌⊎◌, ℕ, ◌<◌, Bool, true, false, not, List, ◌++◌, ◌∷◌, [], length, Option, Some, None, option_map, refl, sym, ap, inl, inr}
use Rattle.std.specs.Prelude.{Result, Ok, Err, nat_lt, IsTrue, IsFalse}
use Rattle.std.proofs.lemmas.List.{length-map}
use Rattle.sb_value.specs.declared.refusal.Refusal.{Refusal}
use Rattle.sb_value.specs.declared.refusal.Refusal.TheVariants as refusal
use Rattle.sb_value.specs.declared.value.ColumnDefinition.{ColumnDefinition}
use Rattle.sb_value.specs.Table.{empty_table}
use Rattle.sb_syntax.specs.Tree as text
use Rattle.sb_check.specs.Names.{and_then, required}
use Rattle.sb_check.specs.Resolved.{new_table, walk_names}
use Rattle.sb_check.specs.Resolved as names
use Rattle.sb_rawlog.specs.Records.{Record}
use Rattle.sb_index.specs.TableSets.{TableSets}
use Rattle.sb_catalog.specs.Rules.{IsLeastFree, least_free}
use Rattle.sb_catalog.specs.Uses.{is_used}
use Rattle.sb_catalog.specs.declared.rule.Rule.{Rule}
use Rattle.sb_tables.specs.Held.{Held, entries, entry_of, no_rows, named, has_number, with_table, without_table}
use Rattle.sb_tenant.specs.declared.store.Store.{Store}
use Rattle.sb_process.specs.declared.memory_use.MemoryUse.{MemoryUse}
use Rattle.sb_tenant.proofs.Shares.{holds_limited, with_memory}
use Rattle.sb_tenant.specs.Catalog as catalog
use Rattle.sb_tenant.specs.Defining.{Defines, IsAtRest}
use Rattle.sb_tenant.specs.Limits.{table_limit}
use Rattle.sb_tenant.specs.Represents.{StandFor}
use Rattle.sb_tenant.specs.Resolved.{Resolved, create_table, drop_table}
use Rattle.sb_tenant.specs.State.{State}
use Rattle.sb_tenant.specs.Walk.{walk}
use Rattle.sb_tenant.proofs.AtRest.{entries_at_rest, made_at_rest, stands_anew}
use Rattle.sb_tenant.proofs.Defining.{begins_below, fewer_below, refused_here, IsPerformed, is_done}
use Rattle.sb_tenant.proofs.Runnable.{run_more, run_less}
use Rattle.sb_tenant.proofs.TableCommands.{outside, walk_new, walk_old, old_at, walk_old_at, made_last, committed_last, stays_last, least_number, made_less, committed_less, stays_less}

-- the store with other tables
limited : (store : Store) (memory : MemoryUse) (records : List Record) (clock : ℕ) (index : List (List TableSets)) (state : State) → StandFor store records clock index state → StandFor (with_memory store memory) records clock index state
limited store memory records clock index state (holds, agrees) = (holds_limited store memory state holds, agrees)

abbrev pub with_tables : Store → List Held → Store
with_tables store tables = record store { database = record store.database { tables = tables } }

module _ (old : Store) (index : List (List TableSets)) (rest : IsAtRest old.phases) where
  abbrev tables : List Held
  tables = old.database.tables

  committed_is : (records : List Record) (clock : ℕ) (state : State) → StandFor old records clock index state → state.catalog.tables ≡ entries tables
  committed_is records clock state h = sym (entries_at_rest old h.0.0 state rest h.0.1)

  -- ---- a new table

  module _ (name : List ℕ) (columns : List ColumnDefinition) where
    abbrev walked : Result names.Resolved Refusal
    walked = walk_names (outside (entries tables)) (text.create_table name columns)

    new_is : (records : List Record) (clock : ℕ) (state : State) → StandFor old records clock index state → walk state.catalog (text.create_table name columns) ≡ walk_new name columns (entries tables)
    new_is records clock state h = ap (walk_new name columns) (committed_is records clock state h)

    abbrev within : Bool → Result names.Resolved Refusal → Result Resolved Refusal
    within room w = and_then w (λ _. required room refusal.TooManyTables (Ok (create_table name columns)))

    has_room : (b : Bool) → nat_lt (length tables) table_limit ≡ b → nat_lt (length (entries tables)) table_limit ≡ b
    has_room b h = ap (λ n. nat_lt n table_limit) (length-map tables entry_of) ∙ h

    pub not_made : (e : Refusal) → (walked ≡ Err e) ⊎ (e ≡ refusal.NoMemory) → Defines old old index index (text.create_table name columns) (Err e)
    not_made e why = refused_here (text.create_table name columns) old index e (λ records clock state h. by records clock state h why)
      where
        by : (records : List Record) (clock : ℕ) (state : State) → StandFor old records clock index state → (walked ≡ Err e) ⊎ (e ≡ refusal.NoMemory)
            → (walk state.catalog (text.create_table name columns) ≡ Err e) ⊎ (e ≡ refusal.NoMemory)
        by records clock state h (inl w) = inl (new_is records clock state h ∙ ap (within (nat_lt (length (entries tables)) table_limit)) w)
        by records clock state h (inr m) = inr m

    pub too_many : walked ≡ Ok new_table → nat_lt (length tables) table_limit ≡ false → Defines old old index index (text.create_table name columns) (Err refusal.TooManyTables)
    too_many w full =
        refused_here (text.create_table name columns) old index refusal.TooManyTables
        (λ records clock state h. inl (new_is records clock state h ∙ (λ i. within (has_room false full i) (w i))))

    pub table_created : (id : ℕ) → walked ≡ Ok new_table → nat_lt (length tables) table_limit ≡ true → IsFalse (has_number tables id) → ((k : ℕ) → k < id → IsTrue (has_number tables k))
        → ((used : List ℕ) (n : ℕ) → IsLeastFree used n → least_free used ≡ n)
        → Defines old (with_tables old (with_table tables id name columns)) index index (text.create_table name columns) (Ok tt)
    table_created id w room free least only = record {
      done = λ records clock state tenant bound s h. is_done (text.create_table name columns) (with_tables old (with_table tables id name columns)) records clock index index state tenant bound s (performed records clock state h);
      id = refl;
      numbers = λ n. begins_below n tables (record { id = id; name = name; stored = no_rows columns }) refl;
      others = λ n table operation id other. refl;
    }
      where
        last : (records : List Record) (clock : ℕ) (state : State) (h : StandFor old records clock index state)
            → entries (with_table h.0.0 id name columns) ≡ (catalog.with_table state.catalog name columns).tables
        last records clock state h =
            committed_last h.0.0 state.catalog.tables id name columns h.0.1.committed
            ∙ ap (λ k. state.catalog.tables ++ record { id = k; name = name; table = empty_table columns } ∷ []) (sym (least_number tables state.catalog.tables id (sym (committed_is records clock state h)) only free least))

        performed : (records : List Record) (clock : ℕ) (state : State) → StandFor old records clock index state → IsPerformed (text.create_table name columns) (with_tables old (with_table tables id name columns)) records clock index state
        performed records clock state h = record {
          resolved = create_table name columns;
          catalog = catalog.with_table state.catalog name columns;
          walked = new_is records clock state h ∙ (λ i. within (has_room true room i) (w i));
          performed = λ tenant bound s. refl;
          stands =
              stands_anew old records clock index index state (with_table h.0.0 id name columns) (with_table tables id name columns) old.definitions (catalog.with_table state.catalog name columns) rest h
              (record {
                committed = last records clock state h;
                made = made_last h.0.0 tables id name columns free (made_at_rest old h.0.0 state rest h.0.1);
                rules = h.0.1.rules;
                ordered = h.0.1.ordered;
                rulesets = h.0.1.rulesets;
                runnable = run_more tables (with_table tables id name columns) (stays_last tables id name columns) state.catalog.rules h.0.1.runnable;
                indexed = h.1.indexed;
              });
        }

  -- ---- a table less

  module _ (name : List ℕ) where
    abbrev number : Option ℕ
    number = option_map (λ (h : Held). h.id) (named tables name)

    old_is : (records : List Record) (clock : ℕ) (state : State) (found : Option ℕ) → StandFor old records clock index state → number ≡ found → walk state.catalog (text.drop_table name) ≡ old_at old.definitions.rules found
    old_is records clock state found h e =
        (λ i. walk_old (sym h.0.1.rules i) name (committed_is records clock state h i)) ∙ walk_old_at old.definitions.rules name tables ∙ ap (old_at old.definitions.rules) e

    pub not_there : number ≡ None → Defines old old index index (text.drop_table name) (Err refusal.NoTable)
    not_there none = refused_here (text.drop_table name) old index refusal.NoTable (λ records clock state h. inl (old_is records clock state None h none))

    pub in_use : (id : ℕ) → number ≡ Some id → is_used old.definitions.rules id ≡ true → Defines old old index index (text.drop_table name) (Err refusal.TableInUse)
    in_use id found used =
        refused_here (text.drop_table name) old index refusal.TableInUse
        (λ records clock state h. inl (old_is records clock state (Some id) h found ∙ ap (λ (b : Bool). required (not b) refusal.TableInUse (Ok (drop_table id))) used))

    pub table_dropped : (id : ℕ) (memory : MemoryUse) → number ≡ Some id → is_used old.definitions.rules id ≡ false → Defines old (with_memory (with_tables old (without_table id tables)) memory) index index (text.drop_table name) (Ok tt)
    table_dropped id memory found free = record {
      done = λ records clock state tenant bound s h. is_done (text.drop_table name) (with_memory (with_tables old (without_table id tables)) memory) records clock index index state tenant bound s (performed records clock state h);
      id = refl;
      numbers = λ n. fewer_below n id tables;
      others = λ n table operation id other. refl;
    }
      where
        performed : (records : List Record) (clock : ℕ) (state : State) → StandFor old records clock index state → IsPerformed (text.drop_table name) (with_memory (with_tables old (without_table id tables)) memory) records clock index state
        performed records clock state h = record {
          resolved = drop_table id;
          catalog = catalog.without_table state.catalog id;
          walked = old_is records clock state (Some id) h found ∙ ap (λ (b : Bool). required (not b) refusal.TableInUse (Ok (drop_table id))) free;
          performed = λ tenant bound s. refl;
          stands = limited (with_tables old (without_table id tables)) memory records clock index _ (
              stands_anew old records clock index index state (without_table id h.0.0) (without_table id tables) old.definitions (catalog.without_table state.catalog id) rest h
              (record {
                committed = committed_less h.0.0 state.catalog.tables id h.0.1.committed;
                made = made_less h.0.0 tables id (made_at_rest old h.0.0 state rest h.0.1);
                rules = h.0.1.rules;
                ordered = h.0.1.ordered;
                rulesets = h.0.1.rulesets;
                runnable =
                    run_less tables (without_table id tables) id (stays_less tables id) state.catalog.rules (ap (λ (rs : List Rule). is_used rs id) (sym h.0.1.rules) ∙ free) h.0.1.runnable;
                indexed = h.1.indexed;
              }));
        }
