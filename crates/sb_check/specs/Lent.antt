-- Machine: what a schema lends of its tables and of the rule.
use Rattle.std.specs.Prelude.{◌≡◌, ℕ, List, find, Option, Some, option_map, Result, Ok, Err}
use Rattle.sb_value.specs.declared.value.ColumnDefinition.{ColumnDefinition}
use Rattle.sb_value.specs.declared.net.Triggers.{Triggers}
use Rattle.sb_value.specs.Name.{same_name}
use Rattle.sb_value.specs.Table.{Entry, table_at}
use Rattle.sb_value.specs.declared.refusal.Refusal.{Refusal}
use Rattle.sb_check.specs.declared.tree.Source.{Source}
use Rattle.sb_check.specs.declared.schema.TableEntry.{TableEntry}
use Rattle.sb_check.specs.declared.schema.RuleEntry.{RuleEntry}
use Rattle.sb_check.specs.declared.fault.CheckFault.{CheckFault}
use Rattle.sb_check.specs.declared.fault.CheckFault.TheVariants.{Refused, NoMemory}
use Rattle.sb_check.specs.Answer.{refusal_of}
use denote.Ref.{Bor}

-- what commands see of a table: its id, its name and its columns
abbrev pub SeenTable : Type 0
SeenTable = ℕ × List ℕ × List ColumnDefinition

abbrev pub table_seen : Entry → SeenTable
table_seen e = (e.id, e.name, e.table.columns)

-- what is seen of the table of a name
abbrev pub seen_named : List Entry → List ℕ → Option SeenTable
seen_named tables name = option_map table_seen (find (λ e. same_name e.name name) tables)

-- a table as it is lent
abbrev pub table_lent : TableEntry → SeenTable
table_lent t = (t.id, t.name, t.columns.now)

-- a table's number tells its columns, whatever name it was found by
abbrev pub NumbersTellColumns : List Entry → Type 0
NumbersTellColumns tables =
    (name : List ℕ) (e : Entry) → find (λ t. same_name t.name name) tables ≡ Some e →
    (table_at tables e.id).columns ≡ e.table.columns

-- a rule as it is lent
abbrev pub rule_lent : RuleEntry → List ColumnDefinition × Triggers
rule_lent r = (r.columns.now, r.triggers)

-- a source and its columns, as they are lent
abbrev pub source_lent : Source × Bor (List ColumnDefinition) → Source × List ColumnDefinition
source_lent s = (s.0, s.1.now)

-- a table is lent where it is found; to look for it takes no memory
abbrev pub LendsTable : Result Entry Refusal → Result TableEntry CheckFault → Type 0
LendsTable walk (Ok t) = (e : Entry) × (walk ≡ Ok e) × (table_lent t ≡ table_seen e)
LendsTable walk (Err (Refused e)) = walk ≡ Err (refusal_of e)
LendsTable walk (Err NoMemory) = ⊥
