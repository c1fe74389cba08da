-- Rules of a set, as flags and as a list in order of creation.
use Rattle.std.proofs.lemmas.Bool.{false≢true, and_parts, and_from, or_cases, or_left, or_right, true≢false}
use Rattle.std.proofs.Common.{◌≡◌, ℕ, zero, suc, Bool, true, false, not, cond, ◌&&◌, ◌||◌, ◌==◌, List, [], ◌∷◌, refl, sym, ap, ◌∙◌, subst, eqb-true, eq-eqb, Option, Some, find, inl, inr}
use Rattle.std.specs.List.{list_any, filter}
use Rattle.sb_value.specs.Flags.{flag_at, has_none, share_place}
use Rattle.sb_priority.specs.Ranks.{ranked}
use Rattle.sb_priority.proofs.Tests.{same_test}

-- ---- flags

shared_place : (xs ys : List Bool) → share_place xs ys ≡ true → (k : ℕ) × (flag_at xs k ≡ true) × (flag_at ys k ≡ true)
shared_place [] ys h = absurd (false≢true h)
shared_place (x ∷ xs) [] h = absurd (false≢true h)
shared_place (x ∷ xs) (y ∷ ys) h =
    elim (or_cases (x && y) (share_place xs ys) h) [
      | inl here ↦ (zero, (and_parts x y here).0, (and_parts x y here).1)
      | inr there ↦ let w = shared_place xs ys there in (suc w.0, w.1, w.2)
    ]

place_shared : (xs ys : List Bool) (k : ℕ) → flag_at xs k ≡ true → flag_at ys k ≡ true → share_place xs ys ≡ true
place_shared [] ys k g h = absurd (false≢true g)
place_shared (x ∷ xs) [] k g h = absurd (false≢true h)
place_shared (x ∷ xs) (y ∷ ys) zero g h = or_left (x && y) (share_place xs ys) (and_from x y g h)
place_shared (x ∷ xs) (y ∷ ys) (suc k) g h = or_right (x && y) (share_place xs ys) (place_shared xs ys k g h)

-- ---- lists

any-cond : (f : ℕ → Bool) (kept : Bool) (x : ℕ) (xs : List ℕ) → list_any f (cond kept (x ∷ xs) xs) ≡ ((kept && f x) || list_any f xs)
any-cond f true x xs = refl
any-cond f false x xs = refl

listed : (f g : ℕ → Bool) (rules : List ℕ) → list_any f (filter g rules) ≡ true → (k : ℕ) × (list_any (λ r. r == k) rules ≡ true) × (g k ≡ true) × (f k ≡ true)
listed f g [] h = absurd (false≢true h)
listed f g (x ∷ xs) h =
    elim (or_cases (g x && f x) (list_any f (filter g xs)) (sym (any-cond f (g x) x (filter g xs)) ∙ h)) [
      | inl here ↦ (x, or_left (x == x) (list_any (λ r. r == x) xs) (eq-eqb x x refl), (and_parts (g x) (f x) here).0, (and_parts (g x) (f x) here).1)
      | inr there ↦ let w = listed f g xs there in (w.0, or_right (x == w.0) (list_any (λ r. r == w.0) xs) w.1, w.2, w.3)
    ]

in_list : (f g : ℕ → Bool) (rules : List ℕ) (k : ℕ) → list_any (λ r. r == k) rules ≡ true → g k ≡ true → f k ≡ true → list_any f (filter g rules) ≡ true
in_list f g [] k h p q = absurd (false≢true h)
in_list f g (x ∷ xs) k h p q =
    any-cond f (g x) x (filter g xs)
    ∙ elim (or_cases (x == k) (list_any (λ r. r == k) xs) h) [
      | inl here ↦ or_left (g x && f x) (list_any f (filter g xs)) (subst (λ r. (g r && f r) ≡ true) (sym (eqb-true x k here)) (and_from (g k) (f k) p q))
      | inr there ↦ or_right (g x && f x) (list_any f (filter g xs)) (in_list f g xs k there p q)
    ]

-- ---- both

-- a row meets the listed rules of the set where it has one of them
pub meets_listed : (row others set : List Bool) (rules : List ℕ) (f : ℕ → Bool) →
    ((k : ℕ) → flag_at others k ≡ (list_any (λ r. r == k) rules && flag_at set k)) → ((k : ℕ) → flag_at row k ≡ f k) →
    share_place row others ≡ list_any f (ranked set rules)
meets_listed row others set rules f g h =
    same_test (share_place row others) (list_any f (ranked set rules))
    (λ e.
    let w = shared_place row others e in
    let both : (list_any (λ r. r == w.0) rules && flag_at set w.0) ≡ true = sym (g w.0) ∙ w.2 in
    in_list f (λ r. flag_at set r) rules w.0 (and_parts (list_any (λ r. r == w.0) rules) (flag_at set w.0) both).0 (and_parts (list_any (λ r. r == w.0) rules) (flag_at set w.0) both).1 (sym (h w.0) ∙ w.1))
    (λ e.
    let w = listed f (λ r. flag_at set r) rules e in
    place_shared row others w.0 (h w.0 ∙ w.3) (g w.0 ∙ and_from (list_any (λ r. r == w.0) rules) (flag_at set w.0) w.1 w.2))

-- a rule that doesn't precede itself is no exception
not_itself_by : (f : ℕ → Bool) (r q : ℕ) (same : Bool) → f r ≡ false → (q == r) ≡ same → f q ≡ (not same && f q)
not_itself_by f r q true h e = ap f (eqb-true q r e) ∙ h
not_itself_by f r q false h e = refl

pub not_itself : (f : ℕ → Bool) (r q : ℕ) → f r ≡ false → f q ≡ (not (q == r) && f q)
not_itself f r q h = not_itself_by f r q (q == r) h refl

-- ---- the first of a filtered list

find_cond : (f : ℕ → Bool) (kept : Bool) (x : ℕ) (xs : List ℕ) → find f (cond kept (x ∷ xs) xs) ≡ cond (kept && f x) (Some x) (find f xs)
find_cond f true x xs = refl
find_cond f false x xs = refl

pub find_filter : (f g : ℕ → Bool) (xs : List ℕ) → find f (filter g xs) ≡ find (λ r. g r && f r) xs
find_filter f g [] = refl
find_filter f g (x ∷ xs) = find_cond f (g x) x (filter g xs) ∙ ap (λ (o : Option ℕ). cond (g x && f x) (Some x) o) (find_filter f g xs)

-- ---- no rule

no_flag : (set : List Bool) (k : ℕ) → list_any (λ b. b) set ≡ false → flag_at set k ≡ false
no_flag [] k h = refl
no_flag (true ∷ set) k h = absurd (true≢false h)
no_flag (false ∷ set) zero h = refl
no_flag (false ∷ set) (suc k) h = no_flag set k h

none_by : (set : List Bool) (b : Bool) → list_any (λ x. x) set ≡ b → true ≡ not b → list_any (λ x. x) set ≡ false
none_by set true e h = absurd (true≢false h)
none_by set false e h = e

pub none_flagged : (set : List Bool) → true ≡ has_none set → (k : ℕ) → flag_at set k ≡ false
none_flagged set h k = no_flag set k (none_by set (list_any (λ x. x) set) refl h)
