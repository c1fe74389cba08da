use Rattle.std.proofs.Common.{◌≡◌, ◌∙◌, ◌<◌, ◌+◌, ◌==◌, ◌||◌, ℕ, suc, List, take, length, slice_set, ap, sym, arith, subst, get_or}
use Rattle.std.proofs.Math.Seq.{take-suc-set}
use Rattle.std.proofs.lemmas.List.{length-take-le}
use Rattle.sb_priority.proofs.ListLaws.{has, has_last, placed_next}
use Rattle.sb_priority.proofs.list.RuleList.push.Goals as goal

pub invariant_of-self : goal.invariant_of-self
invariant_of-self c =
    let rules = c.self.inside.rules in
    let count = c.self.inside.count in
    let seen : length (take count rules) ≡ count = length-take-le count rules (omega (arith, c.self.invariant.few)) in
    let low : count < 256 = omega (arith, seen, ap (λ (xs : List ℕ). length xs) c.self.view_is, c.requires.room) in
    record {
      few = omega (arith, low);
      members_are = λ k.
          c.with-self-inside.ensures.members k ∙ ap (λ b. b || (k == c.args.rule)) (c.self.invariant.members_are k)
          ∙ has_last (take count rules) c.args.rule k
          ∙ ap (λ (xs : List ℕ). has xs k) (sym (take-suc-set rules count c.args.rule (omega (arith, low))) ∙ ap (λ n. take n (slice_set rules count c.args.rule)) (let e : suc count ≡ count + 1 = omega arith in e));
      placed = subst (λ (r : ℕ). (k : ℕ) → k < count + 1 → get_or (slice_set c.self.inside.places r count) (get_or (slice_set rules count c.args.rule) k 0) 0 ≡ k) (sym c.index.ensures.value)
          (placed_next rules c.self.inside.places count c.args.rule (omega (arith, low)) (omega (arith, c.index.ensures.value, c.index.ensures.in_range, c.self.told))
          (ap (λ (xs : List ℕ). has xs c.args.rule) c.self.view_is ∙ c.requires.new) c.self.invariant.placed);
    }
