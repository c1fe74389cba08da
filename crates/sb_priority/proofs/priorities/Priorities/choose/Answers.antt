use Rattle.std.proofs.Common.{◌≡◌, ◌<◌, ◌∙◌, ◌+◌, ℕ, Some, false, ◌&&◌, length, take, get_or, sym, subst}
use Rattle.sb_value.specs.Flags.{flag_at}
use Rattle.sb_priority.specs.Ranks.{Ranks, ranked, is_free}
use Rattle.sb_priority.proofs.Choice.{find_filter}
use Rattle.sb_priority.proofs.ListLaws.{has, one_place}
use Rattle.sb_priority.proofs.Earliest.{IsEarliest, AreRanked, one_free, none_free, all_seen}
use Rattle.sb_priority.proofs.priorities.Priorities.choose.Goals as goal

pub loop-rule-preserved-then-is_free : goal.loop-rule-preserved-then-is_free
loop-rule-preserved-then-is_free c pairs h =
    let rules = c.args.self.now.rules in
    let set = c.args.set in
    let free = is_free pairs (ranked set rules) in
    let are : AreRanked rules set c.intersection-ranked.result = λ k. c.intersection-ranked.ensures.members k ∙ (λ i. (c.members.ensures k ∙ (λ j. has (c.self.view_is j).rules k)) i && flag_at set k) in
    subst (λ (n : ℕ). IsEarliest (λ r. flag_at set r && free r) rules (n + 1) (Some c.earlier.result)) (sym c.index-next.ensures.value)
    (one_free rules set c.intersection-ranked.result free c.loop-rule.next c.in-Some.rule c.loop-rule.first c.earlier.result
    (one_place rules (subst (λ (r : Ranks). (k : ℕ) → k < length r.rules → has (take k r.rules) (get_or r.rules k 0) ≡ false) c.self.view_is c.as_slice.ensures.different)) are c.in-Some.ensures
    (sym (c.is_free.ensures pairs h) ∙ c.if-is_free.true) c.earlier.ensures (c.loop-rule.invariant pairs h))

pub loop-rule-preserved : goal.loop-rule-preserved
loop-rule-preserved c pairs h =
    let rules = c.args.self.now.rules in
    let set = c.args.set in
    let free = is_free pairs (ranked set rules) in
    let are : AreRanked rules set c.intersection-ranked.result = λ k. c.intersection-ranked.ensures.members k ∙ (λ i. (c.members.ensures k ∙ (λ j. has (c.self.view_is j).rules k)) i && flag_at set k) in
    subst (λ (n : ℕ). IsEarliest (λ r. flag_at set r && free r) rules (n + 1) c.loop-rule.first) (sym c.index-next.ensures.value)
    (none_free rules set c.intersection-ranked.result free c.loop-rule.next c.in-Some.rule c.loop-rule.first are c.in-Some.ensures (sym (c.is_free.ensures pairs h) ∙ c.if-is_free.false) (c.loop-rule.invariant pairs h))

pub returns : goal.returns
returns c pairs h =
    let rules = c.args.self.now.rules in
    let set = c.args.set in
    let free = is_free pairs (ranked set rules) in
    let are : AreRanked rules set c.intersection-ranked.result = λ k. c.intersection-ranked.ensures.members k ∙ (λ i. (c.members.ensures k ∙ (λ j. has (c.self.view_is j).rules k)) i && flag_at set k) in
    all_seen rules set c.intersection-ranked.result free c.loop-rule.next c.loop-rule.first are c.in_default.ensures (c.loop-rule.invariant pairs h) ∙ sym (find_filter free (flag_at set) rules)
