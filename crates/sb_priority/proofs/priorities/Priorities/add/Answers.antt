use Rattle.std.proofs.Common.{◌≡◌, ◌∙◌, true, length, sym, subst, ◌++◌}
use Rattle.sb_priority.specs.Ranks.{Ranks, HasOrder, HasRow, is_ranked, pairs_of}
use Rattle.sb_priority.proofs.Kept.{within_rows, added_within}
use Rattle.sb_priority.proofs.Paths.{added_acyclic}
use Rattle.sb_priority.proofs.priorities.Priorities.add.Goals as goal

pub returns-clause-linked : goal.returns-clause-linked
returns-clause-linked c pairs h =
    let inside : HasOrder (record { rules = c.self.inside.rules; before = c.self.inside.rows }) pairs = subst (λ (r : Ranks). HasOrder r pairs) (sym c.self.view_is) h in
    let linked = c.add_rule.ensures pairs (λ a b. c.load-pairs.ensures a b ∙ inside.pairs_are a b) in
    record {
      pairs_are = λ a b. c.store.ensures.pairs a b ∙ linked a b;
      acyclic = added_acyclic c.precedes_is_closure.ensures c.args.rule pairs c.args.ahead_of.now c.args.behind.now h.acyclic
          (sym (c.predecessors.ensures (pairs ++ pairs_of c.args.rule c.args.ahead_of.now c.args.behind.now) linked c.args.rule) ∙ sym c.contains.ensures ∙ c.if-contains.false);
    }

pub store-requires : goal.store-requires
store-requires c =
    let rows = c.self.inside.rows in
    added_within c.load-pairs.result c.add_rule.new.self c.are_listed.ensures.0 c.args.rule c.args.ahead_of.now c.args.behind.now (length rows)
    (λ a b h. within_rows rows a b (sym (c.load-pairs.ensures a b) ∙ h)) c.are_listed.ensures.1 (c.add_rule.ensures c.are_listed.ensures.0 c.are_listed.ensures.1)
    (subst (λ (r : Ranks). HasRow r c.args.rule) (sym c.self.view_is) c.requires.row)
    (λ r h. c.self.invariant r (subst (λ (k : Ranks). is_ranked k r ≡ true) (sym c.self.view_is) (c.requires.others r h)))
