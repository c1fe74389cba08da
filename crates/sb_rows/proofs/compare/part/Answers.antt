use Rattle.std.proofs.Common.{◌≡◌, ℕ, ◌+◌, ◌-◌, ◌*◌, min, ℤ, List, [], length, take, drop, inl, inr, sym, ap, ◌∙◌, length-drop, arith}
use Rattle.std.proofs.lemmas.Bool.{cases_lt}
use Rattle.std.proofs.lemmas.List.{take_all, drop_all}
use Rattle.sb_rows.proofs.compare.part.Goals as goal

take_part : (xs : List ℤ) (n : ℕ) → n ≡ min (length xs) 64 → take n xs ≡ take 64 xs
take_part xs n is = elim (cases_lt (length xs) 64) [
  | inl l ↦ take_all n xs (omega arith) ∙ sym (take_all 64 xs (omega arith))
  | inr g ↦ let e : n ≡ 64 = omega arith in ap (λ k. take k xs) e
]

part_of : (xs : List ℤ) (start end word : ℕ) → start ≡ min (length xs) (64 * word) → end ≡ min (length xs) (start + 64) → take (end - start) (drop start xs) ≡ take 64 (drop (64 * word) xs)
part_of xs start end word from to = elim (cases_lt (64 * word) (length xs)) [
  | inl l ↦
      let e : start ≡ 64 * word = omega arith in
      ap (λ k. take (end - start) (drop k xs)) e ∙ take_part (drop (64 * word) xs) (end - start) (omega (arith, length-drop (64 * word) xs))
  | inr g ↦
      let e : drop start xs ≡ [] = drop_all start xs (omega arith) in
      let f : drop (64 * word) xs ≡ [] = drop_all (64 * word) xs (omega arith) in
      take_all (end - start) (drop start xs) (omega (arith, ap length e)) ∙ e ∙ sym f ∙ sym (take_all 64 (drop (64 * word) xs) (omega (arith, ap length f)))
]

pub returns-clause-rows : goal.returns-clause-rows
returns-clause-rows c = part_of _ _ _ _ c.min-start.ensures c.min-end.ensures
