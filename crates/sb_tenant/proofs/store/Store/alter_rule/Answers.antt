use Rattle.std.proofs.Common.{◌≡◌, ◌∙◌, ◌⊎◌, List, inr, refl, sym, ap, subst}
use Rattle.std.specs.Option.{option_copied}
use Rattle.std.specs.Prelude.{Ok, Err}
use Rattle.sb_value.specs.declared.refusal.Refusal.TheVariants as refusal
use Rattle.sb_value.specs.declared.value.ColumnDefinition.{ColumnDefinition}
use Rattle.sb_value.specs.Table.{table_at}
use Rattle.sb_syntax.specs.Views as view
use Rattle.sb_check.specs.RuleParts.{walk_alteration}
use Rattle.sb_check.specs.RulePartsView.{new_parts}
use Rattle.sb_tables.specs.Held.{entries}
use Rattle.sb_tenant.proofs.RuleCommands.{some_order, not_altered, new_parts_refused, rule_tried}
use Rattle.sb_tenant.proofs.TableCommands.{outside}
use Rattle.sb_tenant.proofs.store.Store.alter_rule.Goals as goal

pub returns-in_default : goal.returns-in_default
returns-in_default c index = not_altered c.args.self.now index (view.alteration c.args.rule.now) c.requires.rest (sym c.find.ensures ∙ ap option_copied c.in_default.is)

pub returns-in-Err : goal.returns-in-Err
returns-in-Err c index =
    let old = c.args.self.now in
    let r = view.alteration c.args.rule.now in
    let known = entries old.database.tables in
    let rule = c.in-Some.found.now in
    new_parts_refused old index r c.requires.rest rule (sym c.find.ensures ∙ ap option_copied c.in-Some.is) c.in-Err.refusal
    (subst (λ (columns : List ColumnDefinition). (walk_alteration (outside known) columns rule.triggers r ≡ Err c.in-Err.refusal) ⊎ (c.in-Err.refusal ≡ refusal.NoMemory)) c.columns_of.ensures c.in-Err.ensures)

pub returns : goal.returns
returns c index =
    let old = c.args.self.now in
    let r = view.alteration c.args.rule.now in
    let known = entries old.database.tables in
    let rule = c.in-Some.found.now in
    let parts = new_parts c.in-Ok.parts in
    let columns = (table_at known rule.table).columns in
    let walked : walk_alteration (outside known) columns rule.triggers r ≡ Ok parts = subst (λ (columns : List ColumnDefinition). walk_alteration (outside known) columns rule.triggers r ≡ Ok parts) c.columns_of.ensures c.in-Ok.ensures in
    rule_tried old index r c.requires.rest rule (sym c.find.ensures ∙ ap option_copied c.in-Some.is) parts walked c.alter_rule.new.self
    (c.resolved_tables_are_there.ensures.alterations (outside known) columns rule.triggers r parts walked) c.requires.few (c.alter_rule.ensures.indexed index old.database.id)
    (some_order old c.requires.stand.0 c.requires.stand.1) c.alter_rule.result c.alter_rule.ensures.altered

pub returns-in_default-new_clauses : goal.returns-in_default-new_clauses
returns-in_default-new_clauses c index =
    new_parts_refused c.args.self.now index (view.alteration c.args.rule.now) c.requires.rest c.in-Some.found.now (sym c.find.ensures ∙ ap option_copied c.in-Some.is) refusal.NoMemory (inr refl)

-- what the line writes means the parts
pub alter_rule-requires-clause-written : goal.alter_rule-requires-clause-written
alter_rule-requires-clause-written c = c.in-Ok-new_clauses.ensures (view.alteration c.args.rule.now) c.requires.spelled

pub alter_rule-requires-clause-resolved : goal.alter_rule-requires-clause-resolved
alter_rule-requires-clause-resolved c =
    let known = entries c.args.self.now.database.tables in
    let rule = c.in-Some.found.now in
    (outside known, (table_at known rule.table).columns, rule.triggers, subst (λ (columns : List ColumnDefinition). walk_alteration (outside known) columns rule.triggers (view.alteration c.args.rule.now) ≡ Ok (new_parts c.in-Ok.parts)) c.columns_of.ensures c.in-Ok.ensures)
