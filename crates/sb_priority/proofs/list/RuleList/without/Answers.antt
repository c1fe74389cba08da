use Rattle.std.proofs.Common.{◌≡◌, ◌<◌, not, ◌==◌, take, length, ap, arith, ℕ, List, refl, sym, get_or, ◌∙◌}
use Rattle.std.specs.List.{filter}
use Rattle.std.proofs.lemmas.List.{length-take-le, get_or_read}
use Rattle.std.proofs.lemmas.List.Filters.{length-filter_both}
use Rattle.sb_priority.proofs.ListLaws.{not_kept}
use Rattle.sb_priority.proofs.list.RuleList.without.Goals as goal

-- no more rules are kept than were looked at
pub push_if-requires : goal.push_if-requires
push_if-requires c =
    let same : length c.as_slice-rule-items.result.now ≡ length c.args.self.now = ap (λ (l : List ℕ). length l) c.as_slice-rule-items.ensures.value in
    let seen : List ℕ = take c.loop-rule.rule-index c.args.self.now in
    let all : length seen ≡ c.loop-rule.rule-index = length-take-le c.loop-rule.rule-index c.args.self.now (omega arith) in
    let e : length c.loop-rule.kept ≡ length (filter (λ r. not (r == c.args.dropped)) seen) = ap (λ (l : List ℕ). length l) c.loop-rule.invariant in
    let read : get_or c.args.self.now c.loop-rule.rule-index 0 ≡ c.rule-item.result = sym (get_or_read c.args.self.now c.loop-rule.rule-index c.rule-item.result (omega arith) (c.rule-item.is ∙ ap (λ (l : List ℕ). get_or l c.loop-rule.rule-index c.rule-item.result) c.as_slice-rule-items.ensures.value) 0) in
    let room : length c.loop-rule.kept < 256 = omega (arith, e, all, length-filter_both (λ r. not (r == c.args.dropped)) (λ r. not (not (r == c.args.dropped))) (λ _. refl) seen) in
    record {
      room = room;
      new = not_kept (λ r. not (r == c.args.dropped)) seen c.loop-rule.kept (get_or c.args.self.now c.loop-rule.rule-index 0) c.rule-item.result c.loop-rule.invariant read (c.as_slice-rule-items.ensures.different c.loop-rule.rule-index (omega arith));
    }
