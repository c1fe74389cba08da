use Rattle.std.proofs.Common.{◌∙◌, ◌∷◌, [], None, Some, ap, sym}
use Rattle.sb_value.specs.Table.{empty_table}
use Rattle.sb_check.specs.RulePartsView.{rule_parts}
use Rattle.sb_check.specs.Walk.{Schema}
use Rattle.sb_syntax.specs.Tree.{create_rule}
use Rattle.sb_syntax.specs.Views as view
use Rattle.sb_catalog.proofs.Written.{clauses_mean}
use Rattle.sb_tests.proofs.schema.read_rule.Goals as goal

-- what the line writes means the parts
pub returns : goal.returns
returns g c =
    let read = c.in-Ok-Definition-CreateRule in
    let r = view.rule c.deref.result.now in
    let schema : Schema = record { tables = record { id = 0; name = c.new.result; table = empty_table c.columns.result.items } ∷ []; rule = None } in
    let spelled = read.ensures.computed ∙ ap (λ k. Some (view.command k)) read.field-0-is ∙ ap (λ d. Some (view.definition d)) read.field-0-0-is
    ∙ ap (λ b. Some (create_rule (view.rule b))) (sym c.deref.ensures) in
    clauses_mean c.in-Ok-rule_clauses.clauses r schema (rule_parts c.in-Ok.parts) (c.in-Ok-rule_clauses.ensures r spelled) c.in-Ok.ensures.value
