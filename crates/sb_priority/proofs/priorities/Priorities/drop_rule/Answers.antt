use Rattle.std.proofs.Common.{◌≡◌, ◌<◌, ◌∙◌, ℕ, List, true, length, filter, arith, ap, sym, subst, not, ◌&&◌, ◌==◌}
use Rattle.sb_priority.specs.Ranks.{Ranks, HasOrder}
use Rattle.sb_priority.proofs.ListLaws.{has, kept_has}
use Rattle.sb_priority.proofs.Paths.{has_pair-without, dropped_acyclic}
use Rattle.sb_priority.proofs.priorities.Priorities.drop_rule.Goals as goal

pub returns-clause-pairs : goal.returns-clause-pairs
returns-clause-pairs c pairs h =
    let inside : HasOrder (record { rules = c.self.inside.rules; before = c.self.inside.rows }) pairs = subst (λ (r : Ranks). HasOrder r pairs) (sym c.self.view_is) h in
    record {
      pairs_are = λ a b. c.store.ensures.pairs a b ∙ c.without-pairs.ensures a b ∙ ap (λ t. t && (not (a == c.args.rule) && not (b == c.args.rule))) (c.load.ensures a b ∙ inside.pairs_are a b) ∙ sym (has_pair-without c.args.rule pairs a b);
      acyclic = dropped_acyclic c.precedes_is_closure.ensures c.args.rule pairs h.acyclic;
    }

pub invariant_of-self : goal.invariant_of-self
invariant_of-self c r h =
    let kept : has (filter (λ x. not (x == c.args.rule)) c.self.inside.rules) r ≡ true = ap (λ (l : List ℕ). has l r) (sym c.without-self-inside.ensures) ∙ h in
    let low : r < length c.self.inside.rows = c.self.invariant r (kept_has (λ x. not (x == c.args.rule)) c.self.inside.rules r kept) in
    omega (arith, low, c.store.ensures.rows)
