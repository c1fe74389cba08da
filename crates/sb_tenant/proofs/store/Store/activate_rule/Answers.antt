use Rattle.std.proofs.Common.{true, refl}
use Rattle.sb_syntax.specs.Tree as text
use Rattle.sb_tenant.specs.Resolved.{activate_rule}
use Rattle.sb_tenant.proofs.RuleCommands.{not_found, rule_set}
use Rattle.sb_tenant.proofs.store.Store.activate_rule.Goals as goal

pub returns-in-Ok : goal.returns-in-Ok
returns-in-Ok c =
    rule_set c.args.self.now c.args.index.now c.activate.new.index c.args.name.now c.requires c.activate.new.self c.in-Ok.field-0 c.in-Ok.ensures.found
    c.in-Ok.ensures.others c.in-Ok.ensures.indexed true (text.activate_rule c.args.name.now) activate_rule (λ state. refl) (λ tenant bound s state. refl) c.in-Ok.ensures.active

pub returns-in-Err : goal.returns-in-Err
returns-in-Err c =
    not_found c.args.self.now c.args.index.now c.activate.new.index c.args.name.now c.activate.new.self (text.activate_rule c.args.name.now) activate_rule c.in-Err.refusal (λ state. refl)
    c.in-Err.ensures.unchanged c.in-Err.ensures.others c.in-Err.ensures.indexed c.in-Err.ensures.found
