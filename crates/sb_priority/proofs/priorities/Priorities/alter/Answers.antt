use Rattle.std.proofs.Common.{◌≡◌, ◌<◌, ◌∙◌, true, length, ℕ, Bool, List, ap, sym, subst, not, ◌&&◌, ◌++◌}
use Rattle.sb_priority.specs.Closed.{HasPairs, relates}
use Rattle.sb_priority.specs.Ranks.{Ranks, HasOrder, is_ranked, pairs_of, pairs_apart, is_between}
use Rattle.std.proofs.lemmas.Bool.{and_parts}
use Rattle.sb_priority.proofs.Kept.{within_rows, added_within}
use Rattle.sb_priority.proofs.Paths.{has_pair-apart, apart_acyclic, added_acyclic}
use Rattle.sb_priority.proofs.priorities.Priorities.alter.Goals as goal

-- what is kept of the pairs is what the rows are before more are added
parted : (inside before : Ranks) (rule : ℕ) (others : List ℕ) (kept : List (List Bool)) (pairs : List (ℕ × ℕ)) → inside ≡ before → ((a b : ℕ) → relates kept a b ≡ (relates inside.before a b && not (is_between rule others a b)))
    → HasOrder before pairs → HasPairs kept (pairs_apart rule others pairs)
parted inside before rule others kept pairs same apart h a b =
    let there : HasOrder inside pairs = subst (λ (r : Ranks). HasOrder r pairs) (sym same) h in
    apart a b ∙ ap (λ t. t && not (is_between rule others a b)) (there.pairs_are a b) ∙ sym (has_pair-apart rule others pairs a b)

pub returns-then-contains-clause-cycle : goal.returns-then-contains-clause-cycle
returns-then-contains-clause-cycle c pairs h =
    let kept = pairs_apart c.args.rule c.args.apart.now pairs in
    let all = kept ++ pairs_of c.args.rule c.args.ahead_of.now c.args.behind.now in
    let before = parted _ c.args.self.now c.args.rule c.args.apart.now c.apart-altered.result pairs c.self.view_is (λ a b. c.apart-altered.ensures a b ∙ ap (λ t. t && not (is_between c.args.rule c.args.apart.now a b)) (c.load.ensures a b)) h in
    sym (c.predecessors.ensures all (c.add_rule.ensures kept before) c.args.rule) ∙ sym c.contains.ensures ∙ c.if-contains.true

pub returns-clause-altered : goal.returns-clause-altered
returns-clause-altered c pairs h =
    let kept = pairs_apart c.args.rule c.args.apart.now pairs in
    let all = kept ++ pairs_of c.args.rule c.args.ahead_of.now c.args.behind.now in
    let before = parted _ c.args.self.now c.args.rule c.args.apart.now c.apart-altered.result pairs c.self.view_is (λ a b. c.apart-altered.ensures a b ∙ ap (λ t. t && not (is_between c.args.rule c.args.apart.now a b)) (c.load.ensures a b)) h in
    let linked = c.add_rule.ensures kept before in
    record {
      pairs_are = λ a b. c.store.ensures.pairs a b ∙ linked a b;
      acyclic = added_acyclic c.precedes_is_closure.ensures c.args.rule kept c.args.ahead_of.now c.args.behind.now (apart_acyclic c.precedes_is_closure.ensures c.args.rule c.args.apart.now pairs h.acyclic)
          (sym (c.predecessors.ensures all linked c.args.rule) ∙ sym c.contains.ensures ∙ c.if-contains.false);
    }

pub store-requires : goal.store-requires
store-requires c =
    let rows = c.self.inside.rows in
    let row : (r : ℕ) → is_ranked c.args.self.now r ≡ true → r < length rows = λ r h. c.self.invariant r (subst (λ (k : Ranks). is_ranked k r ≡ true) (sym c.self.view_is) h) in
    added_within c.apart-altered.result c.add_rule.new.self c.are_listed.ensures.0 c.args.rule c.args.ahead_of.now c.args.behind.now (length rows)
    (λ a b h. within_rows rows a b (sym (c.load.ensures a b) ∙ (and_parts (relates c.load.result a b) (not (is_between c.args.rule c.args.apart.now a b)) (sym (c.apart-altered.ensures a b) ∙ h)).0))
    c.are_listed.ensures.1 (c.add_rule.ensures c.are_listed.ensures.0 c.are_listed.ensures.1) (row c.args.rule c.requires.known) (λ r h. row r (c.requires.others r h))
