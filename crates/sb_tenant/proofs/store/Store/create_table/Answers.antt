use Rattle.std.proofs.Common.{◌≡◌, ◌∙◌, ◌⊎◌, ◌≤◌, ◌<◌, ℕ, List, length, ap, sym, subst, inr, refl}
use Rattle.std.specs.Prelude.{Result, Ok, Err}
use Rattle.sb_value.specs.declared.refusal.Refusal.{Refusal}
use Rattle.sb_value.specs.declared.refusal.Refusal.TheVariants as refusal
use Rattle.sb_value.specs.declared.value.ColumnDefinition.{ColumnDefinition}
use Rattle.sb_syntax.specs.Tree as text
use Rattle.sb_check.specs.Resolved.{Resolved, new_table, walk_names}
use Rattle.sb_tables.specs.Held.{Held, entries}
use Rattle.sb_tenant.specs.declared.store.Store.{Store}
use Rattle.sb_tenant.specs.Defining.{Defines}
use Rattle.sb_tenant.proofs.TableCommands.{outside, new_name_of, has_room_by, is_full_by}
use Rattle.sb_tenant.proofs.TableDefining.{with_tables, not_made, too_many, table_created}
use Rattle.sb_tenant.proofs.store.Store.create_table.Goals as goal

abbrev walk_of : Store → List ℕ → List ColumnDefinition → Result Resolved Refusal
walk_of old name columns = walk_names (outside (entries old.database.tables)) (text.create_table name columns)

abbrev Refused : Store → List ℕ → Refusal → List ColumnDefinition → Type 0
Refused old name e columns = (walk_of old name columns ≡ Err e) ⊎ (e ≡ refusal.NoMemory)

pub returns-in-Err : goal.returns-in-Err
returns-in-Err c = λ index.
    let w : Refused c.args.self.now c.args.name c.in-Err.refusal c.as_slice.result.now = c.in-Err.ensures in
    not_made c.args.self.now index c.requires c.args.name c.args.columns.items c.in-Err.refusal (subst (Refused c.args.self.now c.args.name c.in-Err.refusal) c.as_slice.ensures.value w)

pub returns-then-len-ge-TABLE_LIMIT : goal.returns-then-len-ge-TABLE_LIMIT
returns-then-len-ge-TABLE_LIMIT c = λ index.
    let w : walk_of c.args.self.now c.args.name c.as_slice.result.now ≡ Ok new_table = c.in-Ok.ensures in
    let many : 16 ≤ length c.args.self.now.database.tables = subst (λ n. 16 ≤ n) c.len.ensures c.if-len-ge-TABLE_LIMIT.true in
    too_many c.args.self.now index c.requires c.args.name c.args.columns.items (ap (walk_of c.args.self.now c.args.name) (sym c.as_slice.ensures.value) ∙ w)
    (is_full_by (length c.args.self.now.database.tables) many)

pub create-requires-clause-new_name : goal.create-requires-clause-new_name
create-requires-clause-new_name c =
    let w : walk_of c.args.self.now c.args.name c.as_slice.result.now ≡ Ok new_table = c.in-Ok.ensures in
    new_name_of c.args.self.now.database.tables c.args.name c.as_slice.result.now w

pub returns-in-Ok-create : goal.returns-in-Ok-create
returns-in-Ok-create c = λ index.
    let w : walk_of c.args.self.now c.args.name c.as_slice.result.now ≡ Ok new_table = c.in-Ok.ensures in
    let few : length c.args.self.now.database.tables < 16 = subst (λ n. n < 16) c.len.ensures c.if-len-ge-TABLE_LIMIT.false in
    let P : List Held → Type 0 = λ tables. Defines c.args.self.now (with_tables c.args.self.now tables) index index (text.create_table c.args.name c.args.columns.items) (Ok tt) in
    subst P (sym c.in-Ok-create.ensures.added)
    (table_created c.args.self.now index c.requires c.args.name c.args.columns.items c.in-Ok-create.field-0 (ap (walk_of c.args.self.now c.args.name) (sym c.as_slice.ensures.value) ∙ w)
    (has_room_by (length c.args.self.now.database.tables) few) c.in-Ok-create.ensures.free c.in-Ok-create.ensures.least c.least_free_is_least.ensures.only)

pub returns-in-Err-create : goal.returns-in-Err-create
returns-in-Err-create c = λ index.
    let P : List Held → Type 0 = λ tables. Defines c.args.self.now (with_tables c.args.self.now tables) index index (text.create_table c.args.name c.args.columns.items) (Err refusal.NoMemory) in
    subst P (sym c.in-Err-create.ensures.unchanged) (not_made c.args.self.now index c.requires c.args.name c.args.columns.items refusal.NoMemory (inr refl))
