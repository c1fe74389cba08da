-- Of a legal trail the receipts that its entries want, of all sessions together, are as many as its entries.
use Rattle.std.proofs.Common.{◌≡◌, ℕ, zero, suc, ◌+◌, ◌<◌, ◌≤◌, ◌==◌, Bool, true, false, cond, List, [], ◌∷◌, length, Vec, refl, sym, ap, ◌∙◌, inl, inr, ◌⊎◌, arith, ltb-true, eq-eqb}
use Rattle.std.specs.Global.{Global}
use Rattle.std.specs.List.Sorted.{IsPermutation}
use Rattle.std.proofs.lemmas.Bool.{cases_order, ne_eqb}
use Rattle.std.proofs.lemmas.List.Sums.{sum_by-cons}
use Rattle.std.proofs.lemmas.List.Sorted.{length_permutation}
use Rattle.sb_tenant.specs.declared.bound.Bound.{Bound}
use Rattle.sb_tenant.specs.declared.reply.Entry.{Entry}
use Rattle.sb_tenant.specs.Limits.{session_count}
use Rattle.sb_tenant.specs.State.{State}
use Rattle.sb_tenant.specs.Trail.{IsLegal}
use Rattle.sb_desk.specs.declared.receipts.Receipt.{Receipt}
use Rattle.sb_desk.specs.Receipts.{numbered, receipt, receipts_of}
use Rattle.sb_host.specs.Finish.{row_at}
use Rattle.sb_host.specs.Renewal.{AllAreEntries}
use Rattle.sb_host.specs.Renewing.{receipt_count}

-- f k + f (k + 1) + .., with so many summands
abbrev pub sum_from : (ℕ → ℕ) → ℕ → ℕ → ℕ
sum_from f k zero = 0
sum_from f k (suc n) = f k + sum_from f (suc k) n

same_sums : (f g : ℕ → ℕ) (k n : ℕ) → ((i : ℕ) → f i ≡ g i) → sum_from f k n ≡ sum_from g k n
same_sums f g k zero h = refl
same_sums f g k (suc n) h = λ i. h k i + same_sums f g (suc k) n h i

no_sum : (f : ℕ → ℕ) (k n : ℕ) → ((i : ℕ) → f i ≡ 0) → sum_from f k n ≡ 0
no_sum f k zero h = refl
no_sum f k (suc n) h = let here = h k in omega (arith, here, no_sum f (suc k) n h)

-- one more at e
module _ (e : ℕ) (g : ℕ → ℕ) where
  abbrev more : ℕ → ℕ
  more s = cond (e == s) (suc (g s)) (g s)

  other : (s : ℕ) → (e ≡ s → ⊥) → more s ≡ g s
  other s apart = ap (λ (b : Bool). cond b (suc (g s)) (g s)) (ne_eqb e s apart)

  past : (k n : ℕ) → e < k → sum_from more k n ≡ sum_from g k n
  past k zero h = refl
  past k (suc n) h = λ i. other k (λ (same : e ≡ k). omega (arith, same, h)) i + past (suc k) n (omega (arith, h)) i

  within : (k n : ℕ) → k ≤ e → e < k + n → sum_from more k n ≡ sum_from g k n + 1
  within k zero low high = absurd (omega (arith, low, high))
  within k (suc n) low high = by (cases_order k e) (λ (before : k < e). within (suc k) n (omega (arith, before)) (omega (arith, high)))
    where
      by : (k ≡ e) ⊎ ((k < e) ⊎ (e < k)) → (k < e → sum_from more (suc k) n ≡ sum_from g (suc k) n + 1) → more k + sum_from more (suc k) n ≡ g k + sum_from g (suc k) n + 1
      by (inl same) rest =
          let here : more k ≡ suc (g k) = ap (λ (b : Bool). cond b (suc (g k)) (g k)) (eq-eqb e k (sym same)) in
          omega (arith, here, past (suc k) n (omega (arith, same)))
      by (inr (inl before)) rest = omega (arith, other k (λ (same : e ≡ k). omega (arith, same, before)), rest before)
      by (inr (inr behind)) rest = absurd (omega (arith, low, behind))

-- ---- what a trail wants

length_by : (b : Bool) (r : Receipt) (rest : List Receipt) → length (cond b (r ∷ rest) rest) ≡ cond b (suc (length rest)) (length rest)
length_by true r rest = refl
length_by false r rest = refl

one_longer : (n : ℕ) → n + 1 ≡ suc n
one_longer n = omega arith

module _ (tenant : ℕ) (bound : Bound) where
  wanted_count : (n : ℕ) (es : List Entry) (before after : State) → IsLegal tenant bound before es after → sum_from (λ s. length (receipts_of s n es)) 0 session_count ≡ length es
  wanted_count n [] before after h = no_sum (λ s. 0) 0 8 (λ s. refl)
  wanted_count n (e ∷ es) before after h =
      let small : e.session < 8 = ltb-true e.session session_count h.1.0 in
      let split : sum_from (λ s. length (receipts_of s n (e ∷ es))) 0 8 ≡ sum_from (more e.session (λ s. length (receipts_of s (n + 1) es))) 0 8 =
      same_sums (λ s. length (receipts_of s n (e ∷ es))) (more e.session (λ s. length (receipts_of s (n + 1) es))) 0 8
      (λ s. length_by (e.session == s) (receipt e.line (numbered n e.reply)) (receipts_of s (n + 1) es)) in
      split
      ∙ within e.session (λ s. length (receipts_of s (n + 1) es)) 0 8 (omega arith) small
      ∙ ap (λ (k : ℕ). k + 1) (wanted_count (n + 1) es h.0 after h.2)
      ∙ one_longer (length es)

-- ---- what rows have

first_at : (f : ℕ → ℕ) (k : ℕ) → f (k + 0) ≡ f k
first_at f k = let same : k + 0 ≡ k = omega arith in ap f same

next_at : (f : ℕ → ℕ) (k i : ℕ) → f (k + suc i) ≡ f (suc k + i)
next_at f k i = let same : k + suc i ≡ suc k + i = omega arith in ap f same

from_none : (f : ℕ → ℕ) (i : ℕ) → f i ≡ f (0 + i)
from_none f i = let same : i ≡ 0 + i = omega arith in ap f same

rows_count : (rows : List (Vec Receipt Global)) (k : ℕ) (f : ℕ → ℕ) → ((i : ℕ) → i < length rows → length (row_at rows i) ≡ f (k + i)) → receipt_count rows ≡ sum_from f k (length rows)
rows_count [] k f h = refl
rows_count (v ∷ vs) k f h =
    let here : length v.items ≡ f k = h 0 (omega arith) ∙ first_at f k in
    let rest : receipt_count vs ≡ sum_from f (suc k) (length vs) = rows_count vs (suc k) f (λ i below. h (suc i) (omega (arith, below)) ∙ next_at f k i) in
    sum_by-cons (λ (row : Vec Receipt Global). length row.items) v vs ∙ (λ i. here i + rest i)

-- rows of the same lengths
same_count : (rows others : List (Vec Receipt Global)) → length rows ≡ length others → ((k : ℕ) → length (row_at rows k) ≡ length (row_at others k)) → receipt_count rows ≡ receipt_count others
same_count rows others long h =
    rows_count rows 0 (λ k. length (row_at others k)) (λ i below. h i ∙ from_none (λ k. length (row_at others k)) i)
    ∙ ap (sum_from (λ k. length (row_at others k)) 0) long
    ∙ sym (rows_count others 0 (λ k. length (row_at others k)) (λ i below. from_none (λ k. length (row_at others k)) i))

pub count_reordered : (rows others : List (Vec Receipt Global)) → length rows ≡ length others → ((k : ℕ) → IsPermutation (row_at rows k) (row_at others k)) → receipt_count rows ≡ receipt_count others
count_reordered rows others long h = same_count rows others long (λ k. sym (length_permutation (row_at rows k) (row_at others k) (h k)))

-- no receipts
pub none_count : (rows : List (Vec Receipt Global)) → ((k : ℕ) → row_at rows k ≡ []) → receipt_count rows ≡ 0
none_count rows h = rows_count rows 0 (λ k. 0) (λ i below. ap length (h i)) ∙ no_sum (λ k. 0) 0 (length rows) (λ k. refl)

-- rows that are the entries of a legal trail have as many receipts as it has entries
pub entries_count : (tenant : ℕ) (bound : Bound) (trail : List Entry) (before after : State) (rows : List (Vec Receipt Global)) → IsLegal tenant bound before trail after → length rows ≡ session_count → AllAreEntries trail (row_at rows) → receipt_count rows ≡ length trail
entries_count tenant bound trail before after rows legal long all =
    rows_count rows 0 (λ s. length (receipts_of s 1 trail))
    (λ i below. sym (length_permutation (row_at rows i) (receipts_of i 1 trail) (all i (omega (arith, below, long)))) ∙ from_none (λ s. length (receipts_of s 1 trail)) i)
    ∙ ap (sum_from (λ s. length (receipts_of s 1 trail)) 0) long
    ∙ wanted_count tenant bound 1 trail before after legal
