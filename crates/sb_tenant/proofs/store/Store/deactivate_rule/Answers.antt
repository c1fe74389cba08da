use Rattle.std.proofs.Common.{false, refl, sym, inl}
use Rattle.sb_syntax.specs.Tree as text
use Rattle.sb_tenant.specs.Resolved.{deactivate_rule}
use Rattle.sb_tenant.proofs.RuleCommands.{not_found, rule_set}
use Rattle.sb_tenant.proofs.store.Store.deactivate_rule.Goals as goal

pub returns-in-Ok : goal.returns-in-Ok
returns-in-Ok c =
    rule_set c.args.self.now c.args.index.now c.deactivate.new.index c.args.name.now c.requires c.deactivate.new.self c.in-Ok.field-0 (sym c.in-Ok.ensures.found)
    c.in-Ok.ensures.others c.in-Ok.ensures.indexed false (text.deactivate_rule c.args.name.now) deactivate_rule (λ state. refl) (λ tenant bound s state. refl) c.in-Ok.ensures.inactive

pub returns-in-Err : goal.returns-in-Err
returns-in-Err c =
    not_found c.args.self.now c.args.index.now c.deactivate.new.index c.args.name.now c.deactivate.new.self (text.deactivate_rule c.args.name.now) deactivate_rule c.in-Err.refusal (λ state. refl)
    c.in-Err.ensures.unchanged c.in-Err.ensures.others c.in-Err.ensures.indexed (inl (sym c.in-Err.ensures.found))
