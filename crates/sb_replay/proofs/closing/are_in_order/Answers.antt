use Rattle.std.proofs.Common.{rules, ◌≡◌, ℕ, ◌+◌, ◌<◌, ◌≤◌, Bool, true, false, MatchBool, List, [], Some, sym, ap, ◌∙◌, inl, inr, ◌⊎◌, arith}
use Rattle.std.specs.Cmp.{nat_cmp_is}
use Rattle.std.specs.declared.cmp.Ordering.TheVariants.{Less, Equal}
use Rattle.std.specs.List.{IsAllAdjacentAnswer}
use Rattle.std.specs.Ordering.{is_le, nat_cmp, partial_le}
use Rattle.std.proofs.lemmas.Bool.{cases_order, true≢false}
use Rattle.std.proofs.lemmas.Fn.{always_returns_same}
use Rattle.std.proofs.lemmas.Map.Keys.{le_from_is_le}
use Rattle.std.proofs.lemmas.List.Sorted.{IsNonDecreasingBy-from_all_adjacent}
use Rattle.sb_tenant.specs.declared.reply.Reply.TheVariants as told
use Rattle.sb_desk.specs.declared.receipts.Receipt.{Receipt}
use Rattle.sb_desk.specs.Receipts.{numbered, receipt}
use Rattle.sb_host.specs.Finish.{IsInOrder, step_of}
use Rattle.sb_replay.proofs.closing.are_in_order.Goals as goal

not_le : (m n : ℕ) → is_le (nat_cmp m n) ≡ false → m ≤ n → ⊥
not_le m n told le = by (cases_order m n)
  where
    by : (m ≡ n) ⊎ ((m < n) ⊎ (n < m)) → ⊥
    by (inl e) = true≢false (ap is_le (nat_cmp_is m n Equal e) ∙ told)
    by (inr (inl l)) = true≢false (ap is_le (nat_cmp_is m n Less l) ∙ told)
    by (inr (inr l)) = omega (arith, l, le)

-- no two neighbours fall, or some do
decided : (xs : List Receipt) (b : Bool) → IsAllAdjacentAnswer (λ x y t. t ≡ partial_le (λ m n. Some (nat_cmp m n)) (step_of x) (step_of y)) xs b
    → MatchBool b (IsInOrder xs) (IsInOrder xs → ⊥)
decided xs true h = IsNonDecreasingBy-from_all_adjacent step_of xs (λ k d within. le_from_is_le _ _ (sym (h k d within)))
decided xs false h = λ up.
    let d : Receipt = receipt [] (numbered 0 told.Ok) in
    not_le _ _ (sym (h.2 d)) (up h.0 (h.0 + 1) d (omega arith) h.1)

pub returns : goal.returns
returns c = decided c.args.receipts.now c.is_sorted_by_key.result (c.is_sorted_by_key.ensures.cases step_of (always_returns_same _ (λ a r. r ≡ step_of a.0.now) _ (λ a r q k. search rules)))
