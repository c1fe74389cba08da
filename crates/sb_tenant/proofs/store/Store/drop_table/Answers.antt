use Rattle.std.proofs.Common.{◌∙◌, List, sym, subst}
use Rattle.std.specs.Prelude.{Ok}
use Rattle.sb_syntax.specs.Tree as text
use Rattle.sb_tables.specs.Held.{Held}
use Rattle.sb_tenant.specs.Defining.{Defines}
use Rattle.sb_tenant.proofs.Shares.{with_memory}
use Rattle.sb_tenant.proofs.TableDefining.{with_tables, not_there, in_use, table_dropped}
use Rattle.sb_tenant.proofs.store.Store.drop_table.Goals as goal

pub returns-in_default : goal.returns-in_default
returns-in_default c = λ index. not_there c.args.self.now index c.requires c.args.name.now (sym c.in_default.ensures)

pub returns-then-uses : goal.returns-then-uses
returns-then-uses c = λ index. in_use c.args.self.now index c.requires c.args.name.now c.in-Some.id (sym c.in-Some.ensures) (sym c.uses.ensures ∙ c.if-uses.true)

pub returns : goal.returns
returns c = λ index.
    let P : List Held → Type 0 = λ tables. Defines c.args.self.now (with_memory (with_tables c.args.self.now tables) c.count_drop.new.self) index index (text.drop_table c.args.name.now) (Ok tt) in
    subst P (sym c.drop_table.ensures) (table_dropped c.args.self.now index c.requires c.args.name.now c.in-Some.id c.count_drop.new.self (sym c.in-Some.ensures) (sym c.uses.ensures ∙ c.if-uses.false))
