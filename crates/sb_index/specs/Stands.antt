-- Promise: which rules stand in an index: under which tenant, table and operation.
use Rattle.std.specs.Prelude.{◌≡◌, ℕ, Bool, not, ◌&&◌, ◌||◌, ◌==◌, nat_lt, List, [], map, slice_index_or}
use Rattle.sb_value.specs.Flags.{flag_at}
use Rattle.sb_value.specs.Laws.{kind_triggers}
use Rattle.sb_value.specs.declared.change.Change.{Change}
use Rattle.sb_value.specs.declared.net.Triggers.{Triggers}
use Rattle.sb_index.specs.TableSets.{TableSets}
use Rattle.sb_index.specs.Operation.{Operation, names, places}
use Rattle.sb_index.specs.Operation.Operation.{insert, delete, update, update_of}

-- the rules that the operation triggers
abbrev pub rules_at : TableSets → Operation → List Bool
rules_at table insert = table.inserted
rules_at table delete = table.deleted
rules_at table update = table.updated
rules_at table (update_of k) = slice_index_or table.columns k []

abbrev pub in_table : TableSets → Operation → ℕ → Bool
in_table table o rule = flag_at (rules_at table o) rule

-- with a rule more, under each of its operations
abbrev pub with_table_rule : TableSets → ℕ → Triggers → Operation → ℕ → Bool
with_table_rule table rule triggers o r = in_table table o r || ((r == rule) && names triggers o)

-- true if an update of the column triggers the rule
abbrev pub in_column : List (List Bool) → ℕ → ℕ → Bool
in_column columns k rule = flag_at (slice_index_or columns k []) rule

-- with the rule at the named columns
abbrev pub with_columns : List (List Bool) → ℕ → List Bool → ℕ → ℕ → Bool
with_columns columns rule named k r = in_column columns k r || ((r == rule) && (nat_lt k 8 && flag_at named k))

-- the columns of which an update triggers the rule
abbrev pub column_flags : List (List Bool) → ℕ → List Bool
column_flags columns rule = map (λ k. flag_at (slice_index_or columns k []) rule) places

-- the operations that trigger the rule
abbrev pub triggers_in : TableSets → ℕ → Triggers
triggers_in table rule = record {
  inserted = flag_at table.inserted rule;
  deleted = flag_at table.deleted rule;
  updated = flag_at table.updated rule;
  columns = column_flags table.columns rule;
}

abbrev pub no_table : TableSets
no_table = record { inserted = []; deleted = []; updated = []; columns = [] }

abbrev pub in_tenant : List TableSets → ℕ → Operation → ℕ → Bool
in_tenant tables table o rule = in_table (slice_index_or tables table no_table) o rule

-- a tenant's tables have these rules
abbrev pub HaveRules : List TableSets → (ℕ → Operation → ℕ → Bool) → Type 0
HaveRules tables rules = (t : ℕ) (o : Operation) (r : ℕ) → in_tenant tables t o r ≡ rules t o r

-- with a rule more, under each of its operations
abbrev pub with_tenant_rule : List TableSets → ℕ → ℕ → Triggers → ℕ → Operation → ℕ → Bool
with_tenant_rule tables table rule triggers t o r = in_tenant tables t o r || (((t == table) && (r == rule)) && names triggers o)

-- without a rule
abbrev pub without_tenant_rule : List TableSets → ℕ → ℕ → Operation → ℕ → Bool
without_tenant_rule tables rule t o r = in_tenant tables t o r && not (r == rule)

-- true if a change of one of a tenant's tables is one of the rule's operations
abbrev pub triggers_here : List TableSets → Change → ℕ → Bool
triggers_here tables change rule = kind_triggers change.kind (triggers_in (slice_index_or tables change.table no_table) rule) change

-- true if the operation on the tenant's table triggers the rule
abbrev pub stands : List (List TableSets) → ℕ → ℕ → Operation → ℕ → Bool
stands index tenant table o rule = in_tenant (slice_index_or index tenant []) table o rule

-- all operations on the tenant's table that trigger the rule
abbrev pub triggers_of : List (List TableSets) → ℕ → ℕ → ℕ → Triggers
triggers_of index tenant table rule = triggers_in (slice_index_or (slice_index_or index tenant []) table no_table) rule

-- an index has these rules
abbrev pub HasRules : List (List TableSets) → (ℕ → ℕ → Operation → ℕ → Bool) → Type 0
HasRules index rules = (n t : ℕ) (o : Operation) (r : ℕ) → stands index n t o r ≡ rules n t o r

-- with a tenant's rule more, under each of its operations
abbrev pub with_rule : List (List TableSets) → ℕ → ℕ → ℕ → Triggers → ℕ → ℕ → Operation → ℕ → Bool
with_rule index tenant table rule triggers n t o r =
    stands index n t o r || ((n == tenant) && (((t == table) && (r == rule)) && names triggers o))

-- without a tenant's rule
abbrev pub without_rule : List (List TableSets) → ℕ → ℕ → ℕ → ℕ → Operation → ℕ → Bool
without_rule index tenant rule n t o r = stands index n t o r && not ((n == tenant) && (r == rule))

-- true if a change is one of the rule's operations
abbrev pub triggers_by : List (List TableSets) → Change → ℕ → Bool
triggers_by index change rule = kind_triggers change.kind (triggers_of index change.tenant change.table rule) change
