-- How a cut list grows at its end.
use Rattle.std.proofs.Common.{◌≡◌, refl, sym, ◌∙◌, ap, append_assoc, arith, subst, ℕ, zero, suc, ◌+◌, ◌-◌, ◌<◌, ◌≤◌, List, [], ◌∷◌, ◌++◌, length, take, drop}
use Rattle.std.proofs.lemmas.List.{length-drop, take-append-le, drop-append-le, drop-drop, take_all}
use Rattle.sb_value.specs.declared.value.Value.{Value}
use Rattle.sb_value.specs.Tuples.{Opened, cut, total}
use Rattle.std.proofs.Math.Seq.{drop-length}
use Rattle.std.specs.Prelude.{slice_get, Some, None}

rest_long : (w n : ℕ) (vs : List Value) → w + n ≤ length vs → n ≤ length (drop w vs)
rest_long w n vs h = rw (length-drop w vs) (omega (arith, h))

-- values at the end leave the tuples as they were
pub cut_more : (ws : List ℕ) (vs xs : List Value) → total ws ≤ length vs → cut ws (vs ++ xs) ≡ cut ws vs
cut_more [] vs xs h = refl
cut_more (w ∷ ws) vs xs h =
    let first = take-append-le w vs xs (omega (arith, h)) in
    let others = ap (cut ws) (drop-append-le w vs xs (omega (arith, h))) ∙ cut_more ws (drop w vs) xs (rest_long w (total ws) vs h) in
    λ i. first i ∷ others i

-- all values that are left are a tuple more
pub cut_last : (ws : List ℕ) (vs : List Value) → total ws ≤ length vs
    → cut (ws ++ (length vs - total ws) ∷ []) vs ≡ cut ws vs ++ drop (total ws) vs ∷ []
cut_last [] vs h = ap (λ t. t ∷ []) (take_all (length vs - 0) vs (omega arith))
cut_last (w ∷ ws) vs h =
    let long = rest_long w (total ws) vs h in
    let width : length vs - (w + total ws) ≡ length (drop w vs) - total ws = rw (length-drop w vs) (omega (arith, h)) in
    let others = ap (λ n. cut (ws ++ n ∷ []) (drop w vs)) width ∙ cut_last ws (drop w vs) long
    ∙ ap (λ t. cut ws (drop w vs) ++ t ∷ []) (drop-drop (total ws) w vs) in
    ap (λ ts. take w vs ∷ ts) others

pub total_more : (ws : List ℕ) (w : ℕ) → total (ws ++ w ∷ []) ≡ total ws + w
total_more [] w = omega arith
total_more (x ∷ ws) w = ap (λ n. x + n) (total_more ws w) ∙ omega arith

pub cut_length : (ws : List ℕ) (vs : List Value) → length (cut ws vs) ≡ length ws
cut_length [] vs = refl
cut_length (w ∷ ws) vs = ap suc (cut_length ws (drop w vs))

abbrev opened : List (List Value) → List Value → Opened
opened tuples values = record { closed = tuples; begun = values }

-- a value more in the tuple that is begun
pub opened_more : (ws : List ℕ) (n : ℕ) (vs : List Value) (v : Value) → n ≡ total ws → n ≤ length vs
    → opened (cut ws (vs ++ v ∷ [])) (drop n (vs ++ v ∷ [])) ≡ opened (cut ws vs) (drop n vs ++ v ∷ [])
opened_more ws n vs v is le =
    let one = cut_more ws vs (v ∷ []) (omega (arith, is, le)) in
    let two = drop-append-le n vs (v ∷ []) le in
    λ i. opened (one i) (two i)

-- the tuple that is begun is closed
pub opened_closed : (ws : List ℕ) (n : ℕ) (vs : List Value) → n ≡ total ws → n ≤ length vs
    → opened (cut (ws ++ (length vs - n) ∷ []) vs) (drop (length vs) vs) ≡ opened (cut ws vs ++ drop n vs ∷ []) []
opened_closed ws n vs is le =
    let one = subst (λ m. cut (ws ++ (length vs - m) ∷ []) vs ≡ cut ws vs ++ drop m vs ∷ []) (sym is) (cut_last ws vs (omega (arith, is, le))) in
    let two = drop-length vs in
    λ i. opened (one i) (two i)
