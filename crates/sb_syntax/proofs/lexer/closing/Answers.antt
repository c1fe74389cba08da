use Rattle.std.proofs.Common.{◌≡◌, ◌≤◌, ◌+◌, ◌-◌, take, ◌==◌, ℕ, true, false, cond, List, [], ◌∷◌, length, drop, get_or, Option, Some, None, option_map, refl, ap, sym, ◌∙◌, arith}
use Rattle.std.proofs.lemmas.Bool.{le-leb, ne_eqb, and_from}
use Rattle.std.proofs.lemmas.Grind.{common_steps}
use Rattle.sb_value.specs.Printable.{is_printable}
use Rattle.sb_syntax.specs.Scan.{closing, longer}
use Rattle.sb_syntax.proofs.lexer.closing.Goals as goal

step : (b : ℕ) (bs : List ℕ) → (b == 39) ≡ false → is_printable b ≡ true → closing (b ∷ bs) ≡ longer 1 (closing bs)
step b [] e p = ap (λ t. cond t (Some (0, 1)) None) e
step b (c ∷ bs) e p = rw (e, p) refl

abbrev plus : ℕ → ℕ → ℕ × ℕ → ℕ × ℕ
plus len n p = (p.0 + len, p.1 + n)

shift : (len n : ℕ) (r : Option (ℕ × ℕ)) → option_map (plus len n) (longer 1 r) ≡ option_map (plus (len + 1) (n + 1)) r
shift len n None = refl
shift len n (Some p) =
    let e : p.0 + 1 + len ≡ p.0 + (len + 1) = omega arith in
    let f : p.1 + 1 + n ≡ p.1 + (n + 1) = omega arith in
    rw (e, f) refl

printable-step : (zs : List ℕ) (len n : ℕ) (whole : Option (ℕ × ℕ)) → 1 ≤ length zs → (get_or zs 0 0 ≡ 39 → ⊥) → 32 ≤ get_or zs 0 0 → get_or zs 0 0 ≤ 126 → option_map (plus len n) (closing zs) ≡ whole
    → option_map (plus (len + 1) (n + 1)) (closing (drop 1 zs)) ≡ whole
printable-step [] len n whole le no32 low high e = absurd (omega arith)
printable-step (b ∷ bs) len n whole le not39 low high e =
    sym (shift len n (closing bs)) ∙ ap (option_map (plus len n)) (sym (step b bs (ne_eqb b 39 not39) (and_from _ _ (le-leb _ _ low) (le-leb _ _ high)))) ∙ e

tail-is : (zs : List ℕ) → take (length zs - 1) (drop 1 zs) ≡ drop 1 zs
tail-is zs = grind (arith, common_steps)

pub loop-rest-preserved : goal.loop-rest-preserved
loop-rest-preserved c = record {
  value = rw (tail-is c.loop-rest.rest.now) (printable-step c.loop-rest.rest.now c.loop-rest.len c.loop-rest.n _ c.in-len1-up.len_at_least c.if-b-eq39.false c.if-b-lt32.false c.if-b-gt126.false c.loop-rest.invariant.value);
  within = omega arith;
  fewer = omega arith;
}
