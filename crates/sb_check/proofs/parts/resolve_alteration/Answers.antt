use Rattle.std.proofs.Common.{◌∙◌, sym, subst}
use Rattle.std.specs.Prelude.{Result, Err}
use Rattle.sb_value.specs.declared.refusal.Refusal.{Refusal}
use Rattle.sb_syntax.specs.Views.{alteration}
use Rattle.sb_check.specs.Answer.{Answers, refused}
use Rattle.sb_check.specs.RuleParts.{NewParts, in_rule}
use Rattle.sb_check.specs.RuleParts as walk
use Rattle.sb_check.specs.RulePartsView.{new_parts}
use Rattle.sb_check.proofs.Results.{answers-err}
use Rattle.sb_check.proofs.RuleWalk.{new_parts_are}
use Rattle.sb_check.proofs.parts.resolve_alteration.Goals as goal

pub returns-in-Ok : goal.returns-in-Ok
returns-in-Ok g c = sym (new_parts_are (g.S.Schema.names c.args.schema.now) c.args.rule.now.columns.now c.args.rule.now.triggers (alteration c.args.text.now)) ∙ c.in-Ok.ensures

pub returns-in-Err : goal.returns-in-Err
returns-in-Err g c =
    let names = g.S.Schema.names c.args.schema.now in
    let inside = in_rule names c.args.rule.now.columns.now c.args.rule.now.triggers in
    let P : Result NewParts Refusal → Type 0 = λ w. Answers new_parts w (Err (refused c.in-Err.fault)) in
    rw c.refusal.ensures
    (subst P (new_parts_are names c.args.rule.now.columns.now c.args.rule.now.triggers (alteration c.args.text.now))
    (answers-err new_parts new_parts (walk.new_parts inside (alteration c.args.text.now)) c.in-Err.fault c.in-Err.ensures))
