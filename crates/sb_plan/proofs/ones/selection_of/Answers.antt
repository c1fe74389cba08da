use Rattle.std.proofs.Common.{◌≡◌, ◌∙◌, refl, ap, sym, ℕ, ◌+◌, ◌<◌, ℤ, pos, List, [], ◌∷◌, map, length, get_or, suc, false, arith}
use Rattle.std.proofs.lemmas.List.{get_or-map, length-map}
use Rattle.std.specs.List.{range_with_len}
use Rattle.std.specs.Prelude.{Bool, Result, Ok, Err, IfOk}
use Rattle.sb_plan.specs.Listed.{is_one}
use Rattle.sb_plan.proofs.ones.selection_of.Goals as goal

all-same : {E : Type 0} (r : Result (List Bool) E) (made flags : List Bool) → made ≡ flags → IfOk r (λ found. found ≡ made) → IfOk r (λ found. found ≡ flags)
all-same (Ok found) made flags is h = h ∙ is
all-same (Err e) made flags is h = tt

-- a list is made of its elements, one by one
one-by-one : (g : ℕ → Bool) (ys : List Bool) (i : ℕ) → ((k : ℕ) → k < length ys → g (i + k) ≡ get_or ys k false) → map g (range_with_len i (length ys)) ≡ ys
one-by-one g [] i at = refl
one-by-one g (y ∷ ys) i at =
    let first : g i ≡ y = ap g (omega arith) ∙ at 0 (omega arith) in
    let rest : map g (range_with_len (i + 1) (length ys)) ≡ ys = one-by-one g ys (i + 1) (λ k h. ap g (omega arith) ∙ at (suc k) (omega arith)) in
    λ j. first j ∷ rest j

pub returns : goal.returns
returns c =
    let flags = c.args.flags.now in
    let numbers = c.as_slice.result.now in
    let same : map is_one numbers ≡ flags = ap (map is_one) c.as_slice.ensures.value ∙ c.in_ok-numbers.ensures in
    let long : length numbers ≡ length flags = sym (length-map numbers is_one) ∙ ap length same in
    let made : List Bool = map (λ k. is_one (get_or numbers k (pos 0))) (range_with_len 0 (length flags)) in
    let is : made ≡ flags = one-by-one (λ k. is_one (get_or numbers k (pos 0))) flags 0
    (λ k h. ap (λ n. is_one (get_or numbers n (pos 0))) (omega arith) ∙ sym (get_or-map is_one numbers k (pos 0) false (omega (arith, h, long))) ∙ ap (λ l. get_or l k false) same) in
    all-same c.filter.result made flags is c.filter.ensures
