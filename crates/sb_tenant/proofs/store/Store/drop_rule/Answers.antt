use Rattle.std.proofs.Common.{refl, sym, inl}
use Rattle.sb_syntax.specs.Tree as text
use Rattle.sb_tenant.specs.Resolved.{drop_rule}
use Rattle.sb_tenant.proofs.RuleCommands.{not_found, rule_dropped}
use Rattle.sb_tenant.proofs.store.Store.drop_rule.Goals as goal

pub returns-in-Ok : goal.returns-in-Ok
returns-in-Ok c =
    rule_dropped c.args.self.now c.args.index.now c.drop_rule.new.index c.args.name.now c.requires c.drop_rule.new.self c.in-Ok.field-0 (sym c.in-Ok.ensures.found)
    c.in-Ok.ensures.others c.in-Ok.ensures.indexed c.in-Ok.ensures.dropped

pub returns-in-Err : goal.returns-in-Err
returns-in-Err c =
    not_found c.args.self.now c.args.index.now c.drop_rule.new.index c.args.name.now c.drop_rule.new.self (text.drop_rule c.args.name.now) drop_rule c.in-Err.refusal (λ state. refl)
    c.in-Err.ensures.unchanged c.in-Err.ensures.others c.in-Err.ensures.indexed (inl (sym c.in-Err.ensures.found))
