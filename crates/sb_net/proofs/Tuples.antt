-- The numbers that the walks of the three kinds meet, sorted and each once, are the tuples of the table.
use Rattle.std.proofs.Common.{◌≡◌, ℕ, suc, ◌+◌, ◌<◌, ◌≤◌, ◌≢◌, Bool, true, false, ◌||◌, ◌&&◌, ◌==◌, cond, nat_lt, List, [], ◌∷◌, ◌++◌, map, refl, sym, ap, ◌∙◌, subst, eqb-true, eq-eqb, ne_eqb, arith, eqb}
use native.Mathlib.Numerals.{unary_clauses}
use Rattle.std.specs.List.{list_any, dedup, dedup_from}
use Rattle.std.specs.List.Sorted.{IsPermutation, IsSorted, IsStrictlyIncreasing}
use Rattle.std.specs.Ordering.{nat_cmp}
use Rattle.std.proofs.lemmas.Bool.{ltb-true, ltb-false, eqb-false, true≢false}
use Rattle.std.proofs.lemmas.List.Folds.{list_any-append}
use Rattle.std.proofs.lemmas.List.Sorted.{list_any-IsPermutation}
use Rattle.std.proofs.lemmas.Map.Keys.{IsStrictlyIncreasing-dedup}
use Rattle.sb_value.specs.NetEffect.{with_number, tuples_of}
use Rattle.sb_value.specs.declared.id.Who.{Who}
use Rattle.sb_value.specs.declared.change.ChangeKind.{ChangeKind}
use Rattle.sb_value.specs.declared.change.ChangeKind.TheVariants.{Inserted, Deleted, Updated}
use Rattle.sb_value.specs.declared.change.Change.{Change}
use Rattle.sb_rawlog.specs.Changes.{is_by, is_op}
use Rattle.sb_rawlog.specs.Records.{Record, selected, walk}
use Rattle.sb_rawlog.specs.Sessions.{changes_since}
use Rattle.sb_net.proofs.Hits.{any-tuples_of, any-reverse, list_any-map, or_twice, by_kinds}

-- ---- lists of rising numbers

-- the numbers rise from low on
abbrev Rises : ℕ → List ℕ → Type 0
Rises low [] = Unit {0}
Rises low (x ∷ xs) = (low ≤ x) × Rises (x + 1) xs

abbrev has : ℕ → List ℕ → Bool
has k xs = list_any (λ x. x == k) xs

below_all : (k low : ℕ) (xs : List ℕ) → Rises low xs → k < low → has k xs ≡ false
below_all k low [] up lt = refl
below_all k low (x ∷ xs) up lt =
    let at : low ≤ x = up.0 in
    ap (λ b. b || has k xs) (ne_eqb x k (omega arith)) ∙ below_all k (x + 1) xs up.1 (omega arith)

has_first : (x : ℕ) (xs : List ℕ) → has x (x ∷ xs) ≡ true
has_first x xs = ap (λ b. b || has x xs) (eq-eqb x x refl)

-- two rising lists with the same numbers are one
same_rising : (low : ℕ) (xs ys : List ℕ) → Rises low xs → Rises low ys → ((k : ℕ) → has k xs ≡ has k ys) → xs ≡ ys
same_rising low [] [] p q same = refl
same_rising low [] (y ∷ ys) p q same = absurd (true≢false (sym (has_first y ys) ∙ sym (same y)))
same_rising low (x ∷ xs) [] p q same = absurd (true≢false (sym (has_first x xs) ∙ same x))
same_rising low (x ∷ xs) (y ∷ ys) p q same =
    let first : x ≡ y = omega (arith, not_below x xs y ys p q same, not_below y ys x xs q p (λ k. sym (same k))) in
    let rest : xs ≡ ys = same_rising (x + 1) xs ys p.1 (subst (λ z. Rises (z + 1) ys) (sym first) q.1) (λ k. rest_has k first) in
    λ i. first i ∷ rest i
  where
    not_below : (a : ℕ) (more : List ℕ) (b : ℕ) (others : List ℕ) → Rises low (a ∷ more) → Rises low (b ∷ others) → ((k : ℕ) → has k (a ∷ more) ≡ has k (b ∷ others)) → b ≤ a
    not_below a more b others p q same =
        elim (nat_lt a b) as (λ v. nat_lt a b ≡ v → b ≤ a) [
          | true ↦ λ e. absurd (true≢false (sym (has_first a more) ∙ same a ∙ below_all a b (b ∷ others) (omega arith, q.1) (ltb-true a b e)))
          | false ↦ λ e. ltb-false a b e
        ] refl

    rest_has : (k : ℕ) → x ≡ y → has k xs ≡ has k ys
    rest_has k first =
        elim (x == k) as (λ v. (x == k) ≡ v → has k xs ≡ has k ys) [
          | true ↦ λ e.
              let at : x ≡ k = eqb-true x k e in
              below_all k (x + 1) xs p.1 (omega arith) ∙ sym (below_all k (y + 1) ys q.1 (omega arith))
          | false ↦ λ e.
              ap (λ b. b || has k xs) (sym e) ∙ same k ∙ ap (λ b. b || has k ys) (ap (λ z. z == k) (sym first) ∙ e)
        ] refl

-- ---- both lists rise

with_number-rises : (low n : ℕ) (ms : List ℕ) → low ≤ n → Rises low ms → Rises low (with_number n ms)
with_number-rises low n [] le up = (le, tt)
with_number-rises low n (m ∷ ms) le up =
    elim (n == m) as (λ b. (n == m) ≡ b → Rises low (cond b (m ∷ ms) (cond (nat_lt n m) (n ∷ m ∷ ms) (m ∷ with_number n ms)))) [
      | true ↦ λ _. up
      | false ↦ λ apart. elim (nat_lt n m) as (λ b. nat_lt n m ≡ b → Rises low (cond b (n ∷ m ∷ ms) (m ∷ with_number n ms))) [
        | true ↦ λ e. (le, ((let lt : n < m = ltb-true n m e in omega arith), up.1))
        | false ↦ λ e.
            let ge : m ≤ n = ltb-false n m e in
            let ne : n ≢ m = eqb-false n m apart in
            (up.0, with_number-rises (m + 1) n ms (omega arith) up.1)
      ] refl
    ] refl

tuples_of-rises : (table : ℕ) (cs : List Change) → Rises 0 (tuples_of cs table)
tuples_of-rises table [] = tt
tuples_of-rises table (c ∷ cs) =
    elim (c.table == table) as (λ b. Rises 0 (cond b (with_number c.tuple (tuples_of cs table)) (tuples_of cs table))) [
      | true ↦ with_number-rises 0 c.tuple (tuples_of cs table) (omega arith) (tuples_of-rises table cs)
      | false ↦ tuples_of-rises table cs
    ]

from_increasing : (low x : ℕ) (xs : List ℕ) → low ≤ x → IsStrictlyIncreasing (x ∷ xs) → Rises low (x ∷ xs)
from_increasing low x [] le up = (le, tt)
from_increasing low x (y ∷ ys) le up =
    let lt : x < y = up 0 (omega arith) in
    (le, from_increasing (x + 1) y ys (omega arith) (λ k h. simp unary_clauses (simp unary_clauses at (up (suc k) (omega arith)))))

increasing-rises : (xs : List ℕ) → IsStrictlyIncreasing xs → Rises 0 xs
increasing-rises [] up = tt
increasing-rises (x ∷ xs) up = from_increasing 0 x xs (omega arith) up

-- ---- both lists have the same numbers

module _ (p : ℕ → Bool) where
  any-dedup_from : (x : ℕ) (xs : List ℕ) → list_any p (dedup_from eqb x xs) ≡ (p x || list_any p xs)
  any-dedup_from x [] = refl
  any-dedup_from x (y ∷ ys) =
      elim (eqb y x) as (λ b. eqb y x ≡ b → list_any p (cond b (dedup_from eqb x ys) (x ∷ dedup_from eqb y ys)) ≡ (p x || (p y || list_any p ys))) [
        | true ↦ λ e. any-dedup_from x ys ∙ or_twice (p x) (list_any p ys) ∙ ap (λ z. p x || (p z || list_any p ys)) (sym (eqb-true y x e))
        | false ↦ λ _. ap (λ b. p x || b) (any-dedup_from y ys)
      ] refl

  any-dedup : (xs : List ℕ) → list_any p (dedup eqb xs) ≡ list_any p xs
  any-dedup [] = refl
  any-dedup (x ∷ xs) = any-dedup_from x xs

module _ (p : ℕ → Bool) (who : Who) (table since : ℕ) where
  abbrev of : ChangeKind → List Record → Bool
  of k rs = list_any (λ r. p r.1.tuple) (selected (is_op who table k) since rs)

  abbrev pub numbers : ChangeKind → List Record → List ℕ
  numbers k rs = map (λ r. r.1.tuple) (walk (is_op who table k) since rs)

  any-numbers : (k : ChangeKind) (rs : List Record) → list_any p (numbers k rs) ≡ of k rs
  unfolding walk
  any-numbers k rs = list_any-map p (λ (r : Record). r.1.tuple) (walk (is_op who table k) since rs) ∙ any-reverse (λ (r : Record). p r.1.tuple) (selected (is_op who table k) since rs)

  any-all : (rs : List Record) → list_any p ((numbers Inserted rs ++ numbers Deleted rs) ++ numbers Updated rs) ≡ list_any p (tuples_of (changes_since who since rs) table)
  any-all rs =
      list_any-append p (numbers Inserted rs ++ numbers Deleted rs) (numbers Updated rs)
      ∙ ap (λ b. b || list_any p (numbers Updated rs)) (list_any-append p (numbers Inserted rs) (numbers Deleted rs))
      ∙ (λ j. (any-numbers Inserted rs j || any-numbers Deleted rs j) || any-numbers Updated rs j)
      ∙ by_kinds (λ _ r. p r.1.tuple) who table since rs
      ∙ sym (any-tuples_of p table (changes_since who since rs) ∙ list_any-map (λ (c : Change). (c.table == table) && p c.tuple) (λ (r : Record). r.1) (selected (is_by who) since rs))

pub sorted_tuples : (who : Who) (table since : ℕ) (rs : List Record) (all sorted : List ℕ)
    → all ≡ (map (λ r. r.1.tuple) (walk (is_op who table Inserted) since rs) ++ map (λ r. r.1.tuple) (walk (is_op who table Deleted) since rs)) ++ map (λ r. r.1.tuple) (walk (is_op who table Updated) since rs)
    → IsPermutation all sorted → IsSorted nat_cmp sorted → dedup eqb sorted ≡ tuples_of (changes_since who since rs) table
sorted_tuples who table since rs all sorted are perm order =
    same_rising 0 (dedup eqb sorted) (tuples_of (changes_since who since rs) table) (increasing-rises (dedup eqb sorted) (IsStrictlyIncreasing-dedup sorted order)) (tuples_of-rises table (changes_since who since rs))
    (λ k. let p : ℕ → Bool = λ x. x == k in any-dedup p sorted ∙ sym (list_any-IsPermutation p all sorted perm) ∙ ap (list_any p) are ∙ any-all p who table since rs)

-- three lists, pushed one after the other
pub pushed : (d e f g x y z : List ℕ) → d ≡ [] → e ≡ d ++ x → f ≡ e ++ y → g ≡ f ++ z → g ≡ (x ++ y) ++ z
pushed d e f g x y z a b c h = h ∙ ap (λ l. l ++ z) (c ∙ ap (λ l. l ++ y) (b ∙ ap (λ l. l ++ x) a))
