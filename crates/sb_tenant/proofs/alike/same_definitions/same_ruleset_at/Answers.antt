use Rattle.std.proofs.Common.{ap, sym, ◌∙◌, option_map}
use Rattle.std.specs.Map.Iter.{deref_pair}
use Rattle.sb_tenant.proofs.AlikePlaces.{ruleset_at, same_more}
use Rattle.sb_tenant.proofs.alike.same_definitions.same_ruleset_at.Goals as goal

-- both rulesets are the same, and so are those behind them
pub returns-then-same_name : goal.returns-then-same_name
returns-then-same_name c h =
    let name = c.same_name.ensures c.if-same_name.true in
    let rules = c.same_set.ensures h in
    same_more c.args.one.now c.args.other.now c.args.place
    (record { name = c.in-Some.name.now; rules = c.in-Some.set.now })
    (record { name = c.in-Some-at.second.now; rules = c.in-Some-at.members.now })
    (ruleset_at _ _ _ (sym c.at.ensures ∙ ap (option_map deref_pair) c.in-Some.is))
    (ruleset_at _ _ _ (sym c.at-in-Some.ensures ∙ ap (option_map deref_pair) c.in-Some-at.is))
    (λ i. record { name = name i; rules = rules i })
