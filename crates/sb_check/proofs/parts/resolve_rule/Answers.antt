use Rattle.std.proofs.Common.{◌≡◌, ◌∙◌, ap, sym, subst}
use Rattle.std.specs.Prelude.{Result, Err}
use Rattle.sb_value.specs.declared.refusal.Refusal.{Refusal}
use Rattle.sb_syntax.specs.Views.{rule}
use Rattle.sb_check.specs.Answer.{Answers, IsRefused, refused}
use Rattle.sb_check.specs.declared.fault.CheckFault.{CheckFault}
use Rattle.sb_check.specs.declared.fault.CheckFault.TheVariants.{Refused, NoMemory}
use Rattle.sb_check.specs.declared.rule.RuleParts.{RuleParts}
use Rattle.sb_check.specs.RuleParts.{Parts, parts}
use Rattle.sb_check.specs.RulePartsView.{rule_parts}
use Rattle.sb_check.proofs.Results.{answers-err}
use Rattle.sb_check.proofs.RuleWalk.{parts_are}
use Rattle.sb_check.proofs.parts.resolve_rule.Goals as goal

pub returns-in-Ok-clause-value : goal.returns-in-Ok-clause-value
returns-in-Ok-clause-value g c = sym (parts_are (g.S.Schema.names c.args.schema.now) (rule c.args.text.now)) ∙ c.in-Ok.ensures.value

pub returns-in-Err-clause-value : goal.returns-in-Err-clause-value
returns-in-Err-clause-value g c =
    let P : Result Parts Refusal → Type 0 = λ w. Answers rule_parts w (Err (refused c.in-Err.fault)) in
    rw c.refusal.ensures
    (subst P (parts_are (g.S.Schema.names c.args.schema.now) (rule c.args.text.now))
    (answers-err rule_parts rule_parts (parts (g.S.Schema.names c.args.schema.now) (rule c.args.text.now)) c.in-Err.fault c.in-Err.ensures.value))

-- a rule that is refused for its table or its triggers has no parts
pub returns-in-Ok-clause-head : goal.returns-in-Ok-clause-head
returns-in-Ok-clause-head g c e h = absurd (c.in-Ok.ensures.head e h)

refused_so : (fault : CheckFault) (e : Refusal) → IsRefused {X = RuleParts} e (Err fault) → refused fault ≡ e
refused_so (Refused r) e h = h
refused_so NoMemory e h = absurd h

pub returns-in-Err-clause-head : goal.returns-in-Err-clause-head
returns-in-Err-clause-head g c e h = ap (λ (r : Refusal). Err r) (c.refusal.ensures ∙ refused_so c.in-Err.fault e (c.in-Err.ensures.head e h))
