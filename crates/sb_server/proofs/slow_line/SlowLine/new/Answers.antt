use Rattle.std.proofs.Common.{◌≡◌, ◌∙◌, ap, ℕ, List, ◌++◌, take, length, min, arith, rules}
use Rattle.std.proofs.lemmas.List.{take-append-le, take_all, take_min}
use Rattle.sb_server.proofs.slow_line.SlowLine.new.Goals as goal

-- what stands in front is as much of it as fits
cut : (k n : ℕ) (front rest line : List ℕ) → length front ≡ k → front ≡ take k line → k ≡ min n (length line) → take k (front ++ rest) ≡ take n line
cut k n front rest line count is least =
    take-append-le k front rest (omega (arith, count)) ∙ take_all k front (omega (arith, count)) ∙ is ∙ ap (λ (m : ℕ). take m line) least ∙ take_min n line

pub returns-clause-text : goal.returns-clause-text
returns-clause-text c =
    let front = c.copy_from_slice.new.self in
    let same : front ≡ take c.min-len.result c.args.line.now = search rules in
    let count : length front ≡ c.min-len.result = search rules in
    cut c.min-len.result 200 front _ c.args.line.now count same (omega (arith, c.min-len.ensures))
