use Rattle.std.proofs.Common.{◌≡◌, List, ℕ, Result, sym, subst}
use Rattle.sb_index.specs.TableSets.{TableSets}
use Rattle.sb_syntax.specs.Tree as text
use Rattle.sb_syntax.specs.Views.{alteration, definition as tree_of}
use Rattle.sb_syntax.specs.declared.tree.AlterationText.{AlterationText}
use Rattle.sb_syntax.specs.declared.tree.Definition.{Definition}
use Rattle.sb_value.specs.declared.refusal.Refusal.{Refusal}
use Rattle.sb_tenant.specs.declared.store.Store.{Store}
use Rattle.sb_tenant.specs.Defining.{Defines}
use Rattle.sb_tenant.proofs.store.Store.define.Goals as goal

-- the command is this one
defines-as : {old new : Store} {before after : List (List TableSets)} {command form : Definition} {result : Result (Unit {0}) Refusal} → command ≡ form → Defines old new before after (tree_of form) result → Defines old new before after (tree_of command) result
defines-as {old} {new} {before} {after} {command} {form} {result} is done = subst (λ x. Defines old new before after (tree_of x) result) (sym is) done

pub returns-in-CreateTable : goal.returns-in-CreateTable
returns-in-CreateTable c = defines-as c.in-CreateTable.is (c.create_table.ensures c.args.index.now)

pub returns-in-DropTable : goal.returns-in-DropTable
returns-in-DropTable c = defines-as c.in-DropTable.is (c.drop_table.ensures c.args.index.now)

pub returns-in-CreateRuleset : goal.returns-in-CreateRuleset
returns-in-CreateRuleset c = defines-as c.in-CreateRuleset.is (c.create_ruleset.ensures c.args.index.now)

pub returns-in-DropRuleset : goal.returns-in-DropRuleset
returns-in-DropRuleset c = defines-as c.in-DropRuleset.is (c.drop_ruleset.ensures c.args.index.now)

-- ---- with a part that is read first

pub returns-in-AddRules : goal.returns-in-AddRules
returns-in-AddRules c =
    let Q : List (List ℕ) → Type 0 = λ rules. Defines c.args.self.now c.change_members.new.self c.args.index.now c.args.index.now (text.add_rules c.in-AddRules.name rules) c.change_members.result in
    defines-as c.in-AddRules.is (subst Q c.as_slice.ensures.value (c.change_members.ensures c.args.index.now))

pub returns-in-DelRules : goal.returns-in-DelRules
returns-in-DelRules c =
    let Q : List (List ℕ) → Type 0 = λ rules. Defines c.args.self.now c.change_members-in-DelRules.new.self c.args.index.now c.args.index.now (text.del_rules c.in-DelRules.name rules) c.change_members-in-DelRules.result in
    defines-as c.in-DelRules.is (subst Q c.as_slice-in-DelRules.ensures.value (c.change_members-in-DelRules.ensures c.args.index.now))

pub returns-in-AlterRule : goal.returns-in-AlterRule
returns-in-AlterRule c =
    let Q : AlterationText → Type 0 = λ rule. Defines c.args.self.now c.alter_rule.new.self c.args.index.now c.args.index.now (text.alter_rule (alteration rule)) c.alter_rule.result in
    defines-as c.in-AlterRule.is (subst Q c.deref-in-AlterRule.ensures (c.alter_rule.ensures c.args.index.now))
