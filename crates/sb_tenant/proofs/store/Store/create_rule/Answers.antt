use Rattle.std.proofs.Common.{◌≡◌, ◌∙◌, ◌⊎◌, ◌≤◌, length, inr, refl, sym, subst}
use Rattle.std.specs.Prelude.{Ok, Err}
use Rattle.std.proofs.lemmas.List.{length-map}
use Rattle.sb_value.specs.declared.refusal.Refusal.TheVariants as refusal
use Rattle.sb_syntax.specs.Tree as text
use Rattle.sb_syntax.specs.Views as view
use Rattle.sb_check.specs.RuleParts.{walk_parts}
use Rattle.sb_check.specs.RulePartsView.{rule_parts}
use Rattle.sb_tables.specs.Held.{entries}
use Rattle.sb_tenant.proofs.Defining.{refused_here}
use Rattle.sb_tenant.proofs.RuleCommands.{some_order, rule_exists, parts_refused, rule_made}
use Rattle.sb_tenant.proofs.TableCommands.{outside}
use Rattle.sb_tenant.proofs.store.Store.create_rule.Goals as goal

pub returns-then-has : goal.returns-then-has
returns-then-has c =
    let r = view.rule c.args.rule.now in
    refused_here (text.create_rule r) c.args.self.now c.args.index.now refusal.RuleExists
    (rule_exists c.args.self.now c.args.index.now c.args.index.now r (sym c.has.ensures ∙ c.if-has.true))

pub returns-in-Err : goal.returns-in-Err
returns-in-Err c =
    let r = view.rule c.args.rule.now in
    let why : (walk_parts (outside (entries c.args.self.now.database.tables)) r ≡ Err c.in-Err.refusal) ⊎ (c.in-Err.refusal ≡ refusal.NoMemory) = c.in-Err.ensures.value in
    refused_here (text.create_rule r) c.args.self.now c.args.index.now c.in-Err.refusal
    (parts_refused c.args.self.now c.args.index.now c.args.index.now r c.requires.rest (sym c.has.ensures ∙ c.if-has.false) c.in-Err.refusal why)

pub returns : goal.returns
returns c =
    let old = c.args.self.now in
    let r = view.rule c.args.rule.now in
    let parts = rule_parts c.in-Ok.parts in
    let walked : walk_parts (outside (entries old.database.tables)) r ≡ Ok parts = c.in-Ok.ensures.value in
    let few : length r.actions ≤ 8 = subst (λ n. n ≤ 8) (sym (length-map c.args.rule.now.actions.items view.action)) c.requires.few in
    rule_made old c.args.index.now c.create_rule.new.index r c.requires.rest (sym c.has.ensures ∙ c.if-has.false) parts walked c.create_rule.new.self c.create_rule.ensures.others c.create_rule.ensures.indexed
    (c.resolved_tables_are_there.ensures.rules (outside (entries old.database.tables)) r parts walked) few (some_order old c.args.index.now c.requires.stand) c.create_rule.result
    c.create_rule.ensures.created

pub returns-in_default : goal.returns-in_default
returns-in_default c =
    let r = view.rule c.args.rule.now in
    refused_here (text.create_rule r) c.args.self.now c.args.index.now refusal.NoMemory
    (parts_refused c.args.self.now c.args.index.now c.args.index.now r c.requires.rest (sym c.has.ensures ∙ c.if-has.false) refusal.NoMemory (inr refl))

-- what the line writes means the parts
pub create_rule-requires-clause-written : goal.create_rule-requires-clause-written
create_rule-requires-clause-written c = c.in-Ok-rule_clauses.ensures (view.rule c.args.rule.now) c.requires.spelled

pub create_rule-requires-clause-resolved : goal.create_rule-requires-clause-resolved
create_rule-requires-clause-resolved c = (outside (entries c.args.self.now.database.tables), c.in-Ok.ensures.value)
