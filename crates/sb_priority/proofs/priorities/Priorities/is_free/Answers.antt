use Rattle.std.proofs.Common.{◌∙◌, ap, sym, subst, not, ◌&&◌, ◌==◌}
use Rattle.sb_value.specs.Flags.{flag_at}
use Rattle.sb_value.specs.Order.{precedes}
use Rattle.sb_priority.specs.Ranks.{Ranks, HasOrder, ranked, is_free}
use Rattle.sb_priority.proofs.Choice.{meets_listed, not_itself}
use Rattle.sb_priority.proofs.priorities.Priorities.is_free.Goals as goal

-- nothing precedes itself, so the row needs no exception
pub returns : goal.returns
returns c pairs h =
    let inside : HasOrder (record { rules = c.self.inside.rules; before = c.self.inside.rows }) pairs = subst (λ (r : Ranks). HasOrder r pairs) (sym c.self.view_is) h in
    ap not
    (c.intersects.ensures
    ∙ meets_listed c.predecessors.result c.intersection-others.result c.args.set c.self.inside.rules (λ q. not (q == c.args.rule) && precedes pairs q c.args.rule)
    (λ k. c.intersection-others.ensures.members k ∙ ap (λ b. b && flag_at c.args.set k) (c.members.ensures k))
    (λ k. c.predecessors.ensures pairs inside.pairs_are k ∙ not_itself (λ q. precedes pairs q c.args.rule) c.args.rule k (h.acyclic c.args.rule)))
    ∙ ap (λ (r : Ranks). is_free pairs (ranked c.args.set r.rules) c.args.rule) c.self.view_is
