-- A text without a quote is what stands between its quotes.
use Rattle.std.proofs.Common.{◌≡◌, ◌≤◌, ◌==◌, ◌&&◌, ◌-◌, ℕ, zero, suc, Bool, true, false, not, cond, List, [], ◌∷◌, length, take, drop, refl, ap, sym, ◌∙◌, arith}
use Rattle.std.specs.List.{list_all}
use Rattle.sb_syntax.specs.Literal.{inner, unquoted}
use Rattle.sb_value.specs.Printable.{is_printable}
use Rattle.sb_syntax.specs.Plain.{is_bare}

step : (p q : Bool) (rest : Bool) (xs ys zs : List ℕ) (b : ℕ) → ((p && not q) && rest) ≡ true → (rest ≡ true → ys ≡ zs) → cond q xs (b ∷ ys) ≡ b ∷ zs
step false q rest xs ys zs b e f = absurd (cc)
step true true rest xs ys zs b e f = absurd (cc)
step true false rest xs ys zs b e f = ap (λ ts. b ∷ ts) (f e)

plain_inner : (n : ℕ) (xs : List ℕ) → length xs ≡ suc n → list_all is_bare (take n xs) ≡ true → inner xs ≡ take n xs
plain_inner zero [] e p = absurd (omega (arith, e))
plain_inner zero (b ∷ []) e p = refl
plain_inner zero (b ∷ c ∷ bs) e p = absurd (omega (arith, e))
plain_inner (suc n) [] e p = absurd (omega (arith, e))
plain_inner (suc n) (b ∷ []) e p = absurd (omega (arith, e))
plain_inner (suc n) (b ∷ c ∷ bs) e p = step (is_printable b) (b == 39) (list_all is_bare (take n (c ∷ bs))) _ _ _ b p (plain_inner n (c ∷ bs) (omega (arith, e)))

plain_from : (n : ℕ) (xs : List ℕ) → length xs - 1 ≡ n → list_all is_bare (take n xs) ≡ true → inner xs ≡ take n xs
plain_from zero [] e p = refl
plain_from (suc n) [] e p = refl
plain_from n (b ∷ bs) e p = plain_inner n (b ∷ bs) (omega (arith, e)) p

pub plain_is : (quoted : List ℕ) → list_all is_bare (take (length quoted - 2) (drop 1 quoted)) ≡ true → unquoted quoted ≡ take (length quoted - 2) (drop 1 quoted)
plain_is [] p = refl
plain_is (b ∷ bs) p = plain_from (length (b ∷ bs) - 2) bs (omega arith) p

-- all of its bytes are printable, too
print : (p q : Bool) (rest more : Bool) → ((p && q) && rest) ≡ true → (rest ≡ true → more ≡ true) → (p && more) ≡ true
print false q rest more e f = absurd (cc)
print true false rest more e f = absurd (cc)
print true true rest more e f = f e

pub plain_prints : (xs : List ℕ) → list_all is_bare xs ≡ true → list_all is_printable xs ≡ true
plain_prints [] e = refl
plain_prints (b ∷ bs) e = print (is_printable b) (not (b == 39)) (list_all is_bare bs) _ e (plain_prints bs)

-- the text copied from between its quotes
pub bare_is : (quoted value : List ℕ) → value ≡ take (length quoted - 2) (drop 1 quoted) → length value ≤ 255 → list_all is_bare (take (length quoted - 2) (drop 1 quoted)) ≡ true → (value ≡ unquoted quoted) × (length value ≤ 255) × (list_all is_printable value ≡ true)
bare_is quoted value same le e = (same ∙ sym (plain_is quoted e), le, ap (list_all is_printable) same ∙ plain_prints (take (length quoted - 2) (drop 1 quoted)) e)
