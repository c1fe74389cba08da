-- Flags marked for the rules of a list, one rule after another.
use Rattle.std.proofs.Common.{◌≡◌, ℕ, zero, suc, ◌+◌, ◌<◌, Bool, true, false, not, ◌&&◌, ◌||◌, nat_eq, List, [], ◌∷◌, map, set, drop, length, get_or, refl, sym, ap, ◌∙◌, arith, eq-eqb, ne_eqb, drop-cons, add-one}
use Rattle.std.specs.List.{list_any, enumerate_from}

abbrev pub marked : (Bool → Bool → Bool) → ℕ → List Bool → List ℕ → List Bool
marked op i flags rules = map (λ m. op m.1 (list_any (λ r. nat_eq r m.0) rules)) (enumerate_from i flags)

-- no rule leaves every flag
pub marked-none : (op : Bool → Bool → Bool) → ((b : Bool) → op b false ≡ b) → (i : ℕ) (flags : List Bool) → marked op i flags [] ≡ flags
marked-none op same i [] = refl
marked-none op same i (b ∷ flags) = λ j. same b j ∷ marked-none op same (i + 1) flags j

-- a rule before the first place marks nothing
marked-below : (op : Bool → Bool → Bool) (i k : ℕ) (flags : List Bool) (rules : List ℕ) → k < i → marked op i flags rules ≡ marked op i flags (k ∷ rules)
marked-below op i k [] rules h = refl
marked-below op i k (b ∷ flags) rules h =
    let other : nat_eq k i ≡ false = ne_eqb k i (λ e. absurd (omega arith)) in
    λ j. op b (sym other j || list_any (λ r. nat_eq r i) rules) ∷ marked-below op (i + 1) k flags rules (omega arith) j

-- a flag that is set to the mark, or that the list marks
marked-from : (op : Bool → Bool → Bool) (mark : Bool) → ((b : Bool) → op mark b ≡ mark) → ((b : Bool) → op b true ≡ mark) →
    (i k n : ℕ) (flags : List Bool) (rules : List ℕ) → n ≡ i + k → marked op i (set flags k mark) rules ≡ marked op i flags (n ∷ rules)
marked-from op mark stays marks i k n [] rules e = refl
marked-from op mark stays marks i zero n (b ∷ flags) rules e =
    let here : nat_eq n i ≡ true = eq-eqb n i (omega arith) in
    λ j. (stays (list_any (λ r. nat_eq r i) rules) ∙ sym (ap (λ x. op b (x || list_any (λ r. nat_eq r i) rules)) here ∙ marks b)) j
    ∷ marked-below op (i + 1) n flags rules (omega arith) j
marked-from op mark stays marks i (suc k) n (b ∷ flags) rules e =
    let other : nat_eq n i ≡ false = ne_eqb n i (λ f. absurd (omega arith)) in
    λ j. op b (sym other j || list_any (λ r. nat_eq r i) rules) ∷ marked-from op mark stays marks (i + 1) k n flags rules (omega arith) j

pub marked-more : (op : Bool → Bool → Bool) (mark : Bool) → ((b : Bool) → op mark b ≡ mark) → ((b : Bool) → op b true ≡ mark) →
    (flags : List Bool) (rules : List ℕ) (i : ℕ) → i < length rules →
    marked op 0 (set flags (get_or rules i 0) mark) (drop (i + 1) rules) ≡ marked op 0 flags (drop i rules)
marked-more op mark stays marks flags rules i h =
    let next : drop i rules ≡ get_or rules i 0 ∷ drop (i + 1) rules = drop-cons rules i 0 h ∙ ap (λ (n : ℕ). get_or rules i 0 ∷ drop n rules) (sym (add-one i)) in
    marked-from op mark stays marks 0 (get_or rules i 0) (get_or rules i 0) flags (drop (i + 1) rules) (omega arith)
    ∙ ap (marked op 0 flags) (sym next)

pub and-not-true : (b : Bool) → (b && not true) ≡ false
and-not-true true = refl
and-not-true false = refl

pub and-not-false : (b : Bool) → (b && not false) ≡ b
and-not-false true = refl
and-not-false false = refl
