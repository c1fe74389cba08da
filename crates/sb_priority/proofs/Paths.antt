-- What a set of pairs leads to. Each fact takes the law that the test of precedence is the transitive closure.
use Rattle.std.proofs.lemmas.Bool.{false≢true, and_parts, or_cases, or_left}
use Rattle.std.proofs.Common.{◌≡◌, ℕ, Bool, true, false, not, cond, ◌&&◌, ◌||◌, ◌==◌, List, [], ◌∷◌, ◌++◌, map, filter, ◌⊎◌, refl, sym, inl, inr, ap, ◌∙◌, subst, eqb-true}
use Rattle.std.proofs.Math.Bool.{and-false}
use Rattle.std.proofs.lemmas.List.Folds.{list_any-append}
use Rattle.sb_value.specs.Order.{Precedes, pair, onward, precedes}
use Rattle.sb_value.specs.Laws.{PrecedesIsClosure}
use Rattle.sb_priority.specs.Closed.{has_pair}
use Rattle.sb_priority.specs.Ranks.{IsAcyclic, pairs_of, pairs_without, pairs_apart, is_between}
use Rattle.sb_priority.proofs.Tests.{same_test, not_true}

-- ---- only the set of pairs counts

led : (ps qs : List (ℕ × ℕ)) → ((a b : ℕ) → has_pair ps a b ≡ true → has_pair qs a b ≡ true) → {a b : ℕ} → Precedes ps a b → Precedes qs a b
led ps qs h (pair {a = a} {b = b} p) = pair (h a b p)
led ps qs h (onward f g) = onward (led ps qs h f) (led ps qs h g)

pub precedes_more : PrecedesIsClosure → (ps qs : List (ℕ × ℕ)) → ((a b : ℕ) → has_pair ps a b ≡ true → has_pair qs a b ≡ true) →
    (a b : ℕ) → precedes ps a b ≡ true → precedes qs a b ≡ true
precedes_more law ps qs h a b p = (law qs a b).0 (led ps qs h ((law ps a b).1 p))

pub precedes_same : PrecedesIsClosure → (ps qs : List (ℕ × ℕ)) → ((a b : ℕ) → has_pair ps a b ≡ has_pair qs a b) → (a b : ℕ) → precedes ps a b ≡ precedes qs a b
precedes_same law ps qs h a b =
    same_test (precedes ps a b) (precedes qs a b)
    (precedes_more law ps qs (λ x y p. sym (h x y) ∙ p) a b)
    (precedes_more law qs ps (λ x y p. h x y ∙ p) a b)

-- ---- a cycle goes through the new rule

abbrev Reaches : List (ℕ × ℕ) → ℕ → ℕ → Type 0
Reaches qs a b = (a ≡ b) ⊎ Precedes qs a b

before_reach : (qs : List (ℕ × ℕ)) {a b c : ℕ} → Precedes qs a b → Reaches qs b c → Precedes qs a c
before_reach qs {a = a} f (inl e) = subst (λ x. Precedes qs a x) e f
before_reach qs f (inr g) = onward f g

reach_before : (qs : List (ℕ × ℕ)) {a b c : ℕ} → Reaches qs a b → Precedes qs b c → Precedes qs a c
reach_before qs {c = c} (inl e) g = subst (λ x. Precedes qs x c) (sym e) g
reach_before qs (inr f) g = onward f g

-- the pairs that are new name the rule
abbrev NamesNew : ℕ → List (ℕ × ℕ) → List (ℕ × ℕ) → Type 0
NamesNew r ps qs = (a b : ℕ) → has_pair qs a b ≡ true → (has_pair ps a b ≡ true) ⊎ ((a ≡ r) ⊎ (b ≡ r))

through : (r : ℕ) (ps qs : List (ℕ × ℕ)) → ((a b : ℕ) → has_pair ps a b ≡ true → has_pair qs a b ≡ true) → NamesNew r ps qs →
    {a b : ℕ} → Precedes qs a b → Precedes ps a b ⊎ (Reaches qs a r × Reaches qs r b)
through r ps qs m h (pair {a = a} {b = b} p) =
    elim (h a b p) [
      | inl old ↦ inl (pair old)
      | inr new ↦ elim new [
        | inl e ↦ inr (inl e, inr (subst (λ x. Precedes qs x b) e (pair p)))
        | inr e ↦ inr (inr (subst (λ x. Precedes qs a x) e (pair p)), inl (sym e))
      ]
    ]
through r ps qs m h (onward f g) =
    elim (through r ps qs m h f) [
      | inl f₁ ↦ elim (through r ps qs m h g) [
        | inl g₁ ↦ inl (onward f₁ g₁)
        | inr w ↦ inr (inr (before_reach qs f w.0), w.1)
      ]
      | inr v ↦ inr (v.0, inr (reach_before qs v.1 g))
    ]

round : (r : ℕ) (ps qs : List (ℕ × ℕ)) {a : ℕ} → Precedes qs a a → Precedes ps a a ⊎ (Reaches qs a r × Reaches qs r a) → Precedes ps a a ⊎ Precedes qs r r
round r ps qs f (inl old) = inl old
round r ps qs f (inr w) = inr (reach_before qs w.1 (before_reach qs f w.0))

still_acyclic : PrecedesIsClosure → (r : ℕ) (ps qs : List (ℕ × ℕ)) → ((a b : ℕ) → has_pair ps a b ≡ true → has_pair qs a b ≡ true) → NamesNew r ps qs →
    IsAcyclic ps → precedes qs r r ≡ false → IsAcyclic qs
still_acyclic law r ps qs m h old new a =
    not_true (precedes qs a a) (λ p.
    let f : Precedes qs a a = (law qs a a).1 p in
    elim (round r ps qs f (through r ps qs m h f)) [
      | inl g ↦ sym (old a) ∙ (law ps a a).0 g
      | inr g ↦ sym new ∙ (law qs r r).0 g
    ])

-- ---- the pairs of a new rule

leads : (r : ℕ) (xs : List ℕ) (a b : ℕ) → has_pair (map (λ x. (r, x)) xs) a b ≡ true → a ≡ r
leads r [] a b h = absurd (false≢true h)
leads r (x ∷ xs) a b h =
    elim (or_cases ((r == a) && (x == b)) (has_pair (map (λ x. (r, x)) xs) a b) h) [
      | inl here ↦ sym (eqb-true r a (and_parts (r == a) (x == b) here).0)
      | inr there ↦ leads r xs a b there
    ]

pub trails : (r : ℕ) (xs : List ℕ) (a b : ℕ) → has_pair (map (λ x. (x, r)) xs) a b ≡ true → b ≡ r
trails r [] a b h = absurd (false≢true h)
trails r (x ∷ xs) a b h =
    elim (or_cases ((x == a) && (r == b)) (has_pair (map (λ x. (x, r)) xs) a b) h) [
      | inl here ↦ sym (eqb-true r b (and_parts (x == a) (r == b) here).1)
      | inr there ↦ trails r xs a b there
    ]

pub has_pair-append : (ps qs : List (ℕ × ℕ)) (a b : ℕ) → has_pair (ps ++ qs) a b ≡ (has_pair ps a b || has_pair qs a b)
has_pair-append ps qs a b = list_any-append (λ p. (p.0 == a) && (p.1 == b)) ps qs

names_new : (r : ℕ) (ps : List (ℕ × ℕ)) (xs ys : List ℕ) → NamesNew r ps (ps ++ pairs_of r xs ys)
names_new r ps xs ys a b h =
    let first : List (ℕ × ℕ) = map (λ x. (r, x)) xs in
    let second : List (ℕ × ℕ) = map (λ y. (y, r)) ys in
    elim (or_cases (has_pair ps a b) (has_pair (pairs_of r xs ys) a b) (sym (has_pair-append ps (pairs_of r xs ys) a b) ∙ h)) [
      | inl old ↦ inl old
      | inr new ↦ elim (or_cases (has_pair first a b) (has_pair second a b) (sym (has_pair-append first second a b) ∙ new)) [
        | inl e ↦ inr (inl (leads r xs a b e))
        | inr e ↦ inr (inr (trails r ys a b e))
      ]
    ]

-- with the pairs of a new rule there is a cycle only where that rule precedes itself
pub added_acyclic : PrecedesIsClosure → (r : ℕ) (ps : List (ℕ × ℕ)) (xs ys : List ℕ) → IsAcyclic ps → precedes (ps ++ pairs_of r xs ys) r r ≡ false → IsAcyclic (ps ++ pairs_of r xs ys)
added_acyclic law r ps xs ys old new =
    still_acyclic law r ps (ps ++ pairs_of r xs ys)
    (λ a b h. has_pair-append ps (pairs_of r xs ys) a b ∙ or_left (has_pair ps a b) (has_pair (pairs_of r xs ys) a b) h)
    (names_new r ps xs ys) old new

-- ---- fewer pairs

kept_more : (same kept h hs named : Bool) → (same ≡ true → named ≡ kept) → h ≡ (hs && named) → cond kept (same || h) h ≡ ((same || hs) && named)
kept_more true true h hs named e g = sym (e refl)
kept_more true false h hs named e g = g ∙ ap (λ k. hs && k) (e refl) ∙ and-false hs ∙ sym (e refl)
kept_more false true h hs named e g = g
kept_more false false h hs named e g = g

has_pair-cond : (kept : Bool) (p : ℕ × ℕ) (ps : List (ℕ × ℕ)) (a b : ℕ) → has_pair (cond kept (p ∷ ps) ps) a b ≡ cond kept (((p.0 == a) && (p.1 == b)) || has_pair ps a b) (has_pair ps a b)
has_pair-cond true p ps a b = refl
has_pair-cond false p ps a b = refl

-- of the pairs that pass a test
pub has_pair-kept : (keep : ℕ × ℕ → Bool) (ps : List (ℕ × ℕ)) (a b : ℕ) → has_pair (filter keep ps) a b ≡ (has_pair ps a b && keep (a, b))
has_pair-kept keep [] a b = refl
has_pair-kept keep (p ∷ ps) a b =
    has_pair-cond (keep p) p (filter keep ps) a b
    ∙ kept_more ((p.0 == a) && (p.1 == b)) (keep p) (has_pair (filter keep ps) a b) (has_pair ps a b) (keep (a, b))
    (λ e i. keep (sym (eqb-true p.0 a (and_parts (p.0 == a) (p.1 == b) e).0) i, sym (eqb-true p.1 b (and_parts (p.0 == a) (p.1 == b) e).1) i))
    (has_pair-kept keep ps a b)

pub has_pair-without : (r : ℕ) (ps : List (ℕ × ℕ)) (a b : ℕ) → has_pair (pairs_without r ps) a b ≡ (has_pair ps a b && (not (a == r) && not (b == r)))
has_pair-without r ps a b = has_pair-kept (λ p. not (p.0 == r) && not (p.1 == r)) ps a b

pub has_pair-apart : (r : ℕ) (xs : List ℕ) (ps : List (ℕ × ℕ)) (a b : ℕ) → has_pair (pairs_apart r xs ps) a b ≡ (has_pair ps a b && not (is_between r xs a b))
has_pair-apart r xs ps a b = has_pair-kept (λ p. not (is_between r xs p.0 p.1)) ps a b

-- fewer pairs close no cycle
kept_acyclic : PrecedesIsClosure → (keep : ℕ × ℕ → Bool) (ps : List (ℕ × ℕ)) → IsAcyclic ps → IsAcyclic (filter keep ps)
kept_acyclic law keep ps old a =
    not_true (precedes (filter keep ps) a a) (λ p. sym (old a) ∙ precedes_more law (filter keep ps) ps (λ x y h. (and_parts (has_pair ps x y) (keep (x, y)) (sym (has_pair-kept keep ps x y) ∙ h)).0) a a p)

pub dropped_acyclic : PrecedesIsClosure → (r : ℕ) (ps : List (ℕ × ℕ)) → IsAcyclic ps → IsAcyclic (pairs_without r ps)
dropped_acyclic law r ps old = kept_acyclic law (λ p. not (p.0 == r) && not (p.1 == r)) ps old

pub apart_acyclic : PrecedesIsClosure → (r : ℕ) (xs : List ℕ) (ps : List (ℕ × ℕ)) → IsAcyclic ps → IsAcyclic (pairs_apart r xs ps)
apart_acyclic law r xs ps old = kept_acyclic law (λ p. not (is_between r xs p.0 p.1)) ps old
