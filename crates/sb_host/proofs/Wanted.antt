-- The receipts that a trail wants, and those that are held, as far as a loop has come.
use Rattle.std.proofs.Common.{◌≡◌, ℕ, suc, ◌+◌, ◌<◌, ◌≤◌, ◌==◌, ◌&&◌, Bool, true, false, cond, MatchBool, Decides, List, [], ◌∷◌, ◌++◌, length, take, get_or, refl, sym, ap, ◌∙◌, subst, inl, inr, ◌⊎◌, arith, min}
use Rattle.std.specs.List.Sorted.{IsPermutation, IsNonDecreasingBy}
use Rattle.std.proofs.lemmas.Bool.{true≢false}
use Rattle.std.proofs.lemmas.Bool.Decides.{Decides-and, Decides-like}
use Rattle.std.proofs.lemmas.List.{get_or-take, get_or_at, length-append, length-take, take-take, take_all, take_at, take_more}
use Rattle.std.proofs.lemmas.List.Sorted.{IsPermutation-sym, IsPermutation-trans, length_permutation}
use Rattle.sb_tenant.specs.declared.reply.Entry.{Entry}
use Rattle.sb_desk.specs.declared.receipts.Receipt.{Receipt}
use Rattle.sb_desk.specs.Receipts.{numbered, receipt, receipts_of}
use Rattle.sb_host.specs.declared.comparing.ReceiptComparison.{ReceiptComparison}
use Rattle.sb_host.specs.declared.comparing.ReceiptComparison.TheVariants.{Equal, Fewer, Different}
use Rattle.sb_host.specs.declared.comparing.SeenEntries.{SeenEntries}
use Rattle.sb_host.specs.Comparing.{Compares, IsSeen, Lists, Tells, wanted_of}
use Rattle.sb_host.specs.Finish.{step_of}
use Rattle.sb_host.proofs.Rising.{RisesFrom, only_rising}

-- ---- what a trail wants

-- of one entry more
pub wants_more : (s n : ℕ) (es : List Entry) (e : Entry) → receipts_of s n (es ++ e ∷ []) ≡ receipts_of s n es ++ wanted_of s (n + length es) e
wants_more s n [] e = by (e.session == s)
  where
    by : (b : Bool) → cond b (receipt e.line (numbered n e.reply) ∷ []) [] ≡ cond b (receipt e.line (numbered (n + 0) e.reply) ∷ []) []
    by true = ap (λ (k : ℕ). receipt e.line (numbered k e.reply) ∷ []) (omega arith)
    by false = refl
wants_more s n (x ∷ xs) e = by (x.session == s) (wants_more s (n + 1) xs e ∙ ap (λ (k : ℕ). receipts_of s (n + 1) xs ++ wanted_of s k e) (omega arith))
  where
    by : (b : Bool) → receipts_of s (n + 1) (xs ++ e ∷ []) ≡ receipts_of s (n + 1) xs ++ wanted_of s (n + suc (length xs)) e
        → cond b (receipt x.line (numbered n x.reply) ∷ receipts_of s (n + 1) (xs ++ e ∷ [])) (receipts_of s (n + 1) (xs ++ e ∷ [])) ≡ cond b (receipt x.line (numbered n x.reply) ∷ receipts_of s (n + 1) xs) (receipts_of s (n + 1) xs) ++ wanted_of s (n + suc (length xs)) e
    by true h = ap (λ l. receipt x.line (numbered n x.reply) ∷ l) h
    by false h = h

-- the steps that it wants rise
lower : (m k : ℕ) → m ≤ k → (rs : List Receipt) → RisesFrom step_of k rs → RisesFrom step_of m rs
lower m k h [] rises = tt
lower m k h (r ∷ rs) rises = (omega (arith, rises.0), rises.1)

pub wants_rise : (s n : ℕ) (es : List Entry) → RisesFrom step_of n (receipts_of s n es)
wants_rise s n [] = tt
wants_rise s n (e ∷ es) = by (e.session == s) (subst (λ (k : ℕ). RisesFrom step_of k (receipts_of s (n + 1) es)) (omega arith) (wants_rise s (n + 1) es))
  where
    by : (b : Bool) → RisesFrom step_of (suc n) (receipts_of s (n + 1) es) → RisesFrom step_of n (cond b (receipt e.line (numbered n e.reply) ∷ receipts_of s (n + 1) es) (receipts_of s (n + 1) es))
    by true h = (omega arith, h)
    by false h = lower n (suc n) (omega arith) (receipts_of s (n + 1) es) h

-- ---- what is held

-- sorted by their steps, receipts compare as they do in any order
pub sorted_compares : (s : ℕ) (es : List Entry) (held sorted : List Receipt) (found : ReceiptComparison) → IsPermutation held sorted → IsNonDecreasingBy step_of sorted → Lists sorted (receipts_of s 1 es) found → Compares held (receipts_of s 1 es) found
sorted_compares s es held sorted Equal perm up h = subst (λ (rs : List Receipt). IsPermutation held rs) h perm
sorted_compares s es held sorted Fewer perm up h = let as_long = length_permutation held sorted perm in omega (arith, h, as_long)
sorted_compares s es held sorted Different perm up h =
    let as_long = length_permutation held sorted perm in (
      omega (arith, h.0, as_long),
      λ p. h.1 (only_rising step_of 1 sorted (receipts_of s 1 es) (IsPermutation-trans sorted held (receipts_of s 1 es) (IsPermutation-sym held sorted perm) p) up (wants_rise s 1 es)),
    )

decided : {P : Type 0} (b : Bool) → MatchBool b P (P → ⊥) → Decides b P
decided true h = (λ e. h, λ p. refl)
decided false h = (λ e. absurd (true≢false (sym e)), λ p. absurd (h p))

told : {P : Type 0} (b : Bool) → Decides b P → MatchBool b P (P → ⊥)
told true h = h.0 refl
told false h = λ p. true≢false (sym (h.1 p))

-- the receipt that is next is there, and is this one
abbrev pub IsNext : List Receipt → ℕ → Receipt → Type 0
IsNext held n r = (n < length held) × (get_or held n r ≡ r)

module _ (held due : List Receipt) (r : Receipt) where
  one_longer : length (due ++ r ∷ []) ≡ length due + 1
  one_longer = length-append due (r ∷ [])

  goes_on : (take (length due) held ≡ due) × IsNext held (length due) r → take (length (due ++ r ∷ [])) held ≡ due ++ r ∷ []
  goes_on h =
      ap (λ (k : ℕ). take k held) one_longer ∙ take_more held (length due) r h.1.0 ∙ (λ i. h.0 i ++ h.1.1 i ∷ [])

  went_on : take (length (due ++ r ∷ [])) held ≡ due ++ r ∷ [] → (take (length due) held ≡ due) × IsNext held (length due) r
  went_on e =
      let all : take (length due + 1) held ≡ due ++ r ∷ [] = ap (λ (k : ℕ). take k held) (sym one_longer) ∙ e in
      let long : min (length due + 1) (length held) ≡ length due + 1 = sym (length-take (length due + 1) held) ∙ ap length all ∙ one_longer in (
        sym (take-take (length due) (length due + 1) held (omega arith)) ∙ ap (take (length due)) all ∙ take_at due (r ∷ []) (length due) refl,
        (omega (arith, long), sym (get_or-take (length due + 1) held (length due) r (omega arith)) ∙ ap (λ l. get_or l (length due) r) all ∙ get_or_at due r [] r (length due) refl),
      )

  pub next_seen : (one two : Bool) → Tells one (take (length due) held) due → MatchBool two (IsNext held (length due) r) (length due < length held → get_or held (length due) r ≡ r → ⊥) → Tells (one && two) (take (length (due ++ r ∷ [])) held) (due ++ r ∷ [])
  next_seen one two a b = told (one && two) (Decides-like (one && two) goes_on went_on (Decides-and one two (decided one a) (decided two (by two b))))
    where
      by : (t : Bool) → MatchBool t (IsNext held (length due) r) (length due < length held → get_or held (length due) r ≡ r → ⊥) → MatchBool t (IsNext held (length due) r) (IsNext held (length due) r → ⊥)
      by true h = h
      by false h = λ p. h p.0 p.1

-- ---- at the end of the trail

module _ (held due : List Receipt) (seen : SeenEntries) (is : IsSeen held due seen) where
  pub fewer_at_end : length held < seen.count → Lists held due Fewer
  fewer_at_end h = omega (arith, is.0)

  pub equal_at_end : seen.count ≡ length held → seen.same ≡ true → Lists held due Equal
  equal_at_end all same = sym (take_all (length due) held (omega (arith, is.0))) ∙ (decided seen.same is.1).0 same

  pub different_at_end : seen.count ≤ length held → (seen.same ≡ false) ⊎ (seen.count ≡ length held → ⊥) → Lists held due Different
  different_at_end many why = (omega (arith, is.0), λ e. by e why)
    where
      by : held ≡ due → (seen.same ≡ false) ⊎ (seen.count ≡ length held → ⊥) → ⊥
      by e (inl other) = true≢false (sym ((decided seen.same is.1).1 (take_all (length due) held (let n = ap length e in omega (arith, n)) ∙ e)) ∙ other)
      by e (inr other) = other (is.0 ∙ sym (ap length e))
