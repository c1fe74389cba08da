-- The receipts of stubs, gathered in rows.
use Rattle.std.proofs.Common.{◌≡◌, ℕ, zero, suc, ◌+◌, ◌<◌, ◌≤◌, ◌==◌, ◌&&◌, Bool, true, false, cond, nat_le, MatchOption, List, [], ◌∷◌, ◌++◌, length, set, Option, Some, None, Vec, refl, sym, ap, ◌∙◌, subst, inl, inr, ◌⊎◌, append_assoc, append-nil, length-append, eq-eqb, eqb-true, arith}
use Rattle.std.specs.Global.{Global}
use Rattle.std.specs.List.Sorted.{IsPermutation}
use Rattle.std.proofs.lemmas.Bool.{and_parts, cases_eq, leb-false, leb-true, ne_eqb, true≢false}
use Rattle.std.proofs.lemmas.List.Sorted.{IsPermutation-refl}
use Rattle.sb_tenant.specs.Limits.{session_count}
use Rattle.sb_desk.specs.declared.receipts.Receipt.{Receipt}
use Rattle.sb_host.specs.declared.gathering.SessionPlace.{SessionPlace}
use Rattle.sb_desk.specs.declared.stub.Stub.{Stub}
use Rattle.sb_host.specs.Comparing.{IsFirstStray}
use Rattle.sb_host.specs.Finish.{gathered, rank, receipts_in, row_at}

-- ---- rows

module _ {A : Type 0} where
  pub row_set : (rows : List (Vec A Global)) (n : ℕ) (v : Vec A Global) → n < length rows → row_at (set rows n v) n ≡ v.items
  row_set [] n v h = absurd (omega arith)
  row_set (w ∷ ws) zero v h = refl
  row_set (w ∷ ws) (suc n) v h = row_set ws n v (omega arith)

  pub row_stays : (rows : List (Vec A Global)) (n k : ℕ) (v : Vec A Global) → (k ≡ n → ⊥) → row_at (set rows n v) k ≡ row_at rows k
  row_stays [] n k v h = refl
  row_stays (w ∷ ws) zero zero v h = absurd (h refl)
  row_stays (w ∷ ws) zero (suc k) v h = refl
  row_stays (w ∷ ws) (suc n) zero v h = refl
  row_stays (w ∷ ws) (suc n) (suc k) v h = row_stays ws n k v (λ e. h (ap suc e))

  -- one more empty row
  still_blank : (rows : List (Vec A Global)) (v : Vec A Global) → v.items ≡ [] → ((n : ℕ) → row_at rows n ≡ []) → (n : ℕ) → row_at (rows ++ v ∷ []) n ≡ []
  still_blank [] v e h zero = e
  still_blank [] v e h (suc n) = refl
  still_blank (w ∷ ws) v e h zero = h zero
  still_blank (w ∷ ws) v e h (suc n) = still_blank ws v e (λ k. h (suc k)) n

  abbrev pub AreBlank : ℕ → List (Vec A Global) → Type 0
  AreBlank k rows = (length rows ≡ k) × ((n : ℕ) → row_at rows n ≡ [])

  pub blank_more : (k : ℕ) (rows more : List (Vec A Global)) (v : Vec A Global) → AreBlank k rows → more ≡ rows ++ v ∷ [] → v.items ≡ [] → AreBlank (k + 1) more
  blank_more k rows more v h e none = subst (AreBlank (k + 1)) (sym e) (let long = length-append rows (v ∷ []) in omega (arith, long, h.0), still_blank rows v none h.1)

  -- a fact about each row and its number is kept by a row for which it holds
  pub kept_by_set : (P : ℕ → List A → Type 0) (rows : List (Vec A Global)) (n : ℕ) (v : Vec A Global) → ((k : ℕ) → P k (row_at rows k)) → P n v.items → (k : ℕ) → P k (row_at (set rows n v) k)
  kept_by_set P [] n v all one k = all k
  kept_by_set P (w ∷ ws) zero v all one zero = one
  kept_by_set P (w ∷ ws) zero v all one (suc k) = all (suc k)
  kept_by_set P (w ∷ ws) (suc n) v all one zero = all zero
  kept_by_set P (w ∷ ws) (suc n) v all one (suc k) = kept_by_set (λ j. P (suc j)) ws n v (λ j. all (suc j)) one k

  -- the rows of other places are as they were, and this one is another order of what it was
  pub reordered_by_set : (rows : List (Vec A Global)) (n : ℕ) (v : Vec A Global) → IsPermutation (row_at rows n) v.items → (k : ℕ) → IsPermutation (row_at rows k) (row_at (set rows n v) k)
  reordered_by_set rows n v same = kept_by_set (λ k l. IsPermutation (row_at rows k) l) rows n v (λ k. IsPermutation-refl (row_at rows k)) same

  -- a row that is laid at a place
  pub row_laid : (rows : List (Vec A Global)) (at : ℕ) (v : Vec A Global) (n : ℕ) → at < length rows → row_at (set rows at v) n ≡ cond (at == n) v.items (row_at rows n)
  row_laid rows at v n within = by (cases_eq at n)
    where
      by : (at ≡ n) ⊎ (at ≡ n → ⊥) → row_at (set rows at v) n ≡ cond (at == n) v.items (row_at rows n)
      by (inl same) = ap (row_at (set rows at v)) (sym same) ∙ row_set rows at v within ∙ sym (ap (λ b. cond b v.items (row_at rows n)) (eq-eqb at n same))
      by (inr other) = row_stays rows at n v (λ e. other (sym e)) ∙ sym (ap (λ b. cond b v.items (row_at rows n)) (ne_eqb at n other))

-- ---- stubs

pub gathered-more : (t s : ℕ) (xs : List Stub) (x : Stub) → gathered t s (xs ++ x ∷ []) ≡ gathered t s xs ++ receipts_in t s x
gathered-more t s [] x = append-nil (receipts_in t s x)
gathered-more t s (y ∷ ys) x = ap (λ l. receipts_in t s y ++ l) (gathered-more t s ys x) ∙ sym (append_assoc (receipts_in t s y) (gathered t s ys) (receipts_in t s x))

pub own_in : (t s : ℕ) (x : Stub) → x.tenant ≡ t → x.session ≡ s → receipts_in t s x ≡ x.receipts.items
own_in t s x e f = by (x.tenant == t) (x.session == s) (eq-eqb x.tenant t e) (eq-eqb x.session s f)
  where
    by : (a b : Bool) → a ≡ true → b ≡ true → cond (a && b) x.receipts.items [] ≡ x.receipts.items
    by true true h k = refl
    by true false h k = absurd (true≢false (sym k))
    by false b h k = absurd (true≢false (sym h))

-- a stub of another session, or without receipts, has none
pub others_in : (t s : ℕ) (x : Stub) → ((x.tenant ≡ t) × (x.session ≡ s) → ⊥) → receipts_in t s x ≡ []
others_in t s x h = by ((x.tenant == t) && (x.session == s)) (λ e. let p = and_parts (x.tenant == t) (x.session == s) e in h (eqb-true _ _ p.0, eqb-true _ _ p.1))
  where
    by : (b : Bool) → (b ≡ true → ⊥) → cond b x.receipts.items [] ≡ []
    by true k = absurd (k refl)
    by false k = refl

none_in : (t s : ℕ) (x : Stub) → x.receipts.items ≡ [] → receipts_in t s x ≡ []
none_in t s x e = by ((x.tenant == t) && (x.session == s))
  where
    by : (b : Bool) → cond b x.receipts.items [] ≡ []
    by true = e
    by false = refl

-- ---- a stub's receipts in a row

pub deals : (rows : List (Vec Receipt Global)) (x : Stub) (v : Vec Receipt Global) → x.session < session_count → rank x.tenant x.session < length rows → v.items ≡ row_at rows (rank x.tenant x.session) ++ x.receipts.items
    → (t s : ℕ) → s < session_count → row_at (set rows (rank x.tenant x.session) v) (rank t s) ≡ row_at rows (rank t s) ++ receipts_in t s x
deals rows x v own_small within is t s small = by (cases_eq (rank t s) (rank x.tenant x.session))
  where
    by : (rank t s ≡ rank x.tenant x.session) ⊎ (rank t s ≡ rank x.tenant x.session → ⊥) → row_at (set rows (rank x.tenant x.session) v) (rank t s) ≡ row_at rows (rank t s) ++ receipts_in t s x
    by (inl e) =
        ap (row_at (set rows (rank x.tenant x.session) v)) e
        ∙ row_set rows (rank x.tenant x.session) v within
        ∙ is
        ∙ ap (λ (k : ℕ). row_at rows k ++ x.receipts.items) (sym e)
        ∙ ap (λ l. row_at rows (rank t s) ++ l) (sym (own_in t s x (omega (arith, e)) (omega (arith, e))))
    by (inr other) =
        row_stays rows (rank x.tenant x.session) (rank t s) v other
        ∙ sym (append-nil (row_at rows (rank t s)))
        ∙ ap (λ l. row_at rows (rank t s) ++ l) (sym (others_in t s x (λ e. other (omega (arith, e.0, e.1)))))

pub deals_none : (rows : List (Vec Receipt Global)) (x : Stub) (t s : ℕ) → t < x.tenant → row_at rows (rank t s) ≡ row_at rows (rank t s) ++ receipts_in t s x
deals_none rows x t s far =
    sym (append-nil (row_at rows (rank t s))) ∙ ap (λ l. row_at rows (rank t s) ++ l) (sym (others_in t s x (λ e. omega (arith, e.0))))

-- ---- the first stray

pub nothing : (xs : List Receipt) → length xs ≡ 0 → xs ≡ []
nothing [] h = refl
nothing (x ∷ xs) h = absurd (omega arith)

append_empty : (xs ys : List Receipt) → xs ++ ys ≡ [] → xs ≡ []
append_empty [] ys e = refl
append_empty (x ∷ xs) ys e = absurd (cc)

module _ (tenants : ℕ) (xs : List Stub) (x : Stub) where
  more : (t s : ℕ) → receipts_in t s x ≡ [] → gathered t s (xs ++ x ∷ []) ≡ gathered t s xs
  more t s e = gathered-more t s xs x ∙ ap (λ l. gathered t s xs ++ l) e ∙ append-nil (gathered t s xs)

  -- a stub that adds nothing
  pub stays_first : (o : Option SessionPlace) → ((t s : ℕ) → tenants ≤ t → receipts_in t s x ≡ []) → IsFirstStray tenants xs o → IsFirstStray tenants (xs ++ x ∷ []) o
  stays_first None quiet h = λ t s far. more t s (quiet t s far) ∙ h t s far
  stays_first (Some p) quiet h = (h.0, h.1, λ e. h.2 (sym (more p.tenant p.session (quiet p.tenant p.session h.0)) ∙ e), λ t s far small before. more t s (quiet t s far) ∙ h.3 t s far small before)

  pub quiet_within : x.tenant < tenants → (t s : ℕ) → tenants ≤ t → receipts_in t s x ≡ []
  quiet_within h t s far = others_in t s x (λ e. omega (arith, e.0))

  pub quiet_empty : x.receipts.items ≡ [] → (t s : ℕ) → tenants ≤ t → receipts_in t s x ≡ []
  quiet_empty h t s far = none_in t s x h

  -- a stub of a session that isn't before the first
  pub first_stays : (p : SessionPlace) → rank p.tenant p.session ≤ rank x.tenant x.session → IsFirstStray tenants xs (Some p) → IsFirstStray tenants (xs ++ x ∷ []) (Some p)
  first_stays p behind h = (
    h.0,
    h.1,
    λ e. h.2 (append_empty (gathered p.tenant p.session xs) (receipts_in p.tenant p.session x) (sym (gathered-more p.tenant p.session xs x) ∙ e)),
    λ t s far small before. more t s (others_in t s x (λ e. omega (arith, e.0, e.1))) ∙ h.3 t s far small before,
  )

  -- a stub of the first session so far
  pub comes_first : tenants ≤ x.tenant → x.session < session_count → (x.receipts.items ≡ [] → ⊥) → ((t s : ℕ) → tenants ≤ t → s < session_count → rank t s < rank x.tenant x.session → gathered t s xs ≡ [])
      → IsFirstStray tenants (xs ++ x ∷ []) (Some (record { tenant = x.tenant; session = x.session }))
  comes_first far small some before = (
    far,
    small,
    λ e. some (sym (own_in x.tenant x.session x refl refl) ∙ right (gathered x.tenant x.session xs) (receipts_in x.tenant x.session x) (sym (gathered-more x.tenant x.session xs x) ∙ e)),
    λ t s far' small' h. more t s (others_in t s x (λ e. omega (arith, e.0, e.1))) ∙ before t s far' small' h,
  )
    where
      right : (xs ys : List Receipt) → xs ++ ys ≡ [] → ys ≡ []
      right [] ys e = e
      right (y ∷ xs) ys e = absurd (cc)

  -- so by whether there is a first one that isn't behind it
  pub ahead : (o : Option SessionPlace) (b : Bool) → MatchOption o (b ≡ false) (λ p. b ≡ nat_le (rank p.tenant p.session) (rank x.tenant x.session)) → b ≡ true → IsFirstStray tenants xs o → IsFirstStray tenants (xs ++ x ∷ []) o
  ahead None b is so h = absurd (true≢false (sym so ∙ is))
  ahead (Some p) b is so h = first_stays p (leb-true (rank p.tenant p.session) (rank x.tenant x.session) (sym is ∙ so)) h

  pub behind : (o : Option SessionPlace) (b : Bool) → MatchOption o (b ≡ false) (λ p. b ≡ nat_le (rank p.tenant p.session) (rank x.tenant x.session)) → b ≡ false → tenants ≤ x.tenant → x.session < session_count → (x.receipts.items ≡ [] → ⊥)
      → IsFirstStray tenants xs o → IsFirstStray tenants (xs ++ x ∷ []) (Some (record { tenant = x.tenant; session = x.session }))
  behind None b is so far small some h = comes_first far small some (λ t s far' small' before. h t s far')
  behind (Some p) b is so far small some h =
      let after : rank x.tenant x.session < rank p.tenant p.session = leb-false (rank p.tenant p.session) (rank x.tenant x.session) (sym is ∙ so) in
      comes_first far small some (λ t s far' small' before. h.3 t s far' small' (omega (arith, before, after)))
