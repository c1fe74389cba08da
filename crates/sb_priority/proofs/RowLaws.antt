-- Steps of the loops over lists of rules and over rows.
use Rattle.std.proofs.Common.{◌≡◌, ℕ, zero, suc, ◌+◌, ◌<◌, ◌≤◌, Bool, true, false, not, ◌&&◌, ◌||◌, ◌==◌, nat_lt, List, [], ◌∷◌, ◌++◌, map, take, length, get_or, refl, sym, ap, ◌∙◌, arith, eqb-true, ne_eqb, slice_set, replicate, ◌≢◌}
use Rattle.std.proofs.lemmas.Bool.{ltb-true, ltb-false, lt-ltb, eqb-false, false≢true}
use Rattle.std.proofs.Math.ListN.{get_or-eq_default}
use Rattle.std.proofs.lemmas.List.{get_or_read, get_or-set_same, get_or-set_other}
use Rattle.std.proofs.lemmas.List.Folds.{list_any_more}
use Rattle.std.proofs.Math.Bool.{and-true, and-false, or-false, or_assoc}
use Rattle.std.specs.List.{list_any}
use Rattle.sb_value.specs.Flags.{flag_at}
use Rattle.sb_priority.specs.Closed.{relates, has_pair, HasPairs}
use Rattle.sb_priority.specs.Ranks.{is_between}
use Rattle.sb_priority.proofs.Paths.{has_pair-append}
use Rattle.sb_priority.proofs.Tests.{same_test, same_turned, not_true}
use Rattle.sb_priority.proofs.Flags.{none_related}

-- ---- pairs for each rule of a list

any_mapped : (p : ℕ × ℕ → Bool) (f : ℕ → ℕ × ℕ) (xs : List ℕ) → list_any p (map f xs) ≡ list_any (λ x. p (f x)) xs
any_mapped p f [] = refl
any_mapped p f (x ∷ xs) = ap (λ b. p (f x) || b) (any_mapped p f xs)

-- one rule more of the list is linked
pub linked_more : (f : ℕ → ℕ × ℕ) (old new : List (List Bool)) (pairs : List (ℕ × ℕ)) (xs : List ℕ) (i x : ℕ) → i < length xs → x ≡ get_or xs i x →
    HasPairs old (pairs ++ map f (take i xs)) → ((a b : ℕ) → relates new a b ≡ (relates old a b || (((f x).0 == a) && ((f x).1 == b)))) →
    HasPairs new (pairs ++ map f (take (i + 1) xs))
linked_more f old new pairs xs i x h is before step a b =
    let p : ℕ × ℕ → Bool = λ (q : ℕ × ℕ). (q.0 == a) && (q.1 == b) in
    step a b
    ∙ ap (λ (t : Bool). t || p (f x)) (before a b ∙ has_pair-append pairs (map f (take i xs)) a b)
    ∙ or_assoc (has_pair pairs a b) (has_pair (map f (take i xs)) a b) (p (f x))
    ∙ ap (λ (t : Bool). has_pair pairs a b || t)
    (ap (λ (t : Bool). t || p (f x)) (any_mapped p f (take i xs))
    ∙ ap (λ (y : ℕ). list_any (λ z. p (f z)) (take i xs) || p (f y)) (get_or_read xs i x h is 0)
    ∙ sym (list_any_more (λ z. p (f z)) xs i 0 h)
    ∙ sym (any_mapped p f (take (i + 1) xs)))
    ∙ sym (has_pair-append pairs (map f (take (i + 1) xs)) a b)

-- ---- rows in turn

lt_or_eq : (b i : ℕ) (below same : Bool) → nat_lt b i ≡ below → (i == b) ≡ same → (below || same) ≡ true → b < i + 1
lt_or_eq b i true same e f h = omega (arith, ltb-true b i e)
lt_or_eq b i false true e f h = omega (arith, eqb-true i b f)
lt_or_eq b i false false e f h = absurd (false≢true h)

or_beyond : (b i : ℕ) (below same : Bool) → nat_lt b i ≡ below → (i == b) ≡ same → b < i + 1 → (below || same) ≡ true
or_beyond b i true same e f h = refl
or_beyond b i false true e f h = refl
or_beyond b i false false e f h = absurd (eqb-false i b f (omega (arith, ltb-false b i e)))

pub below_next : (b i : ℕ) → nat_lt b (i + 1) ≡ (nat_lt b i || (i == b))
below_next b i =
    same_test (nat_lt b (i + 1)) (nat_lt b i || (i == b))
    (λ e. or_beyond b i (nat_lt b i) (i == b) refl refl (ltb-true b (i + 1) e))
    (λ e. lt-ltb b (i + 1) (lt_or_eq b i (nat_lt b i) (i == b) refl refl e))

kept_row_by : (below row kept rest same : Bool) → (same ≡ true → rest ≡ (row && kept)) → ((below && rest) || ((row && kept) && same)) ≡ ((below || same) && rest)
kept_row_by below row kept rest true h =
    ap (λ b. (below && rest) || b) (and-true (row && kept) ∙ sym (h refl)) ∙ taken below rest
  where
    taken : (x y : Bool) → ((x && y) || y) ≡ ((x || true) && y)
    taken true true = refl
    taken true false = refl
    taken false true = refl
    taken false false = refl
kept_row_by below row kept rest false h = ap (λ b. (below && rest) || b) (and-false (row && kept)) ∙ passed_by below rest
  where
    passed_by : (x y : Bool) → ((x && y) || false) ≡ ((x || false) && y)
    passed_by true true = refl
    passed_by true false = refl
    passed_by false true = refl
    passed_by false false = refl

-- one row more is linked, as far as its pairs are kept
pub kept_more : (rows : List (List Bool)) (old new keep : ℕ → ℕ → Bool) (row : List Bool) (i : ℕ) →
    ((a b : ℕ) → old a b ≡ (nat_lt b i && (relates rows a b && keep a b))) → ((a : ℕ) → flag_at row a ≡ (relates rows a i && keep a i)) →
    ((a b : ℕ) → new a b ≡ (old a b || (flag_at row a && (i == b)))) → (a b : ℕ) → new a b ≡ (nat_lt b (i + 1) && (relates rows a b && keep a b))
kept_more rows old new keep row i before of_row step a b =
    let rest : Bool = relates rows a b && keep a b in
    step a b
    ∙ (λ j. before a b j || (of_row a j && (i == b)))
    ∙ kept_row_by (nat_lt b i) (relates rows a i) (keep a i) rest (i == b) (λ e j. relates rows a (sym (eqb-true i b e) j) && keep a (sym (eqb-true i b e) j))
    ∙ sym (ap (λ t. t && rest) (below_next b i))

all_rows_by : (rows : List (List Bool)) (n a b : ℕ) (rest below : Bool) → length rows ≤ n → nat_lt b n ≡ below → (below && (relates rows a b && rest)) ≡ (relates rows a b && rest)
all_rows_by rows n a b rest true h e = refl
all_rows_by rows n a b rest false h e =
    let past : length rows ≤ b = omega (arith, ltb-false b n e) in
    sym (ap (λ (row : List Bool). flag_at row a && rest) (get_or-eq_default rows [] past))

-- past the last row no rules are related
pub all_rows : (rows : List (List Bool)) (n a b : ℕ) (rest : Bool) → length rows ≤ n → (nat_lt b n && (relates rows a b && rest)) ≡ (relates rows a b && rest)
all_rows rows n a b rest h = all_rows_by rows n a b rest (nat_lt b n) h refl

-- ---- a row without some rules

-- one rule more of the list is out of the row
pub less_more : (f g h : ℕ → Bool) (xs : List ℕ) (i x : ℕ) → i < length xs → x ≡ get_or xs i x → ((a : ℕ) → g a ≡ (f a && not (list_any (λ o. o == a) (take i xs)))) → ((a : ℕ) → h a ≡ (g a && not (a == x)))
    → (a : ℕ) → h a ≡ (f a && not (list_any (λ o. o == a) (take (i + 1) xs)))
less_more f g h xs i x below is before step a =
    step a
    ∙ ap (λ b. b && not (a == x)) (before a)
    ∙ two_out (f a) (list_any (λ o. o == a) (take i xs)) (a == x)
    ∙ ap (λ b. f a && not b)
    (ap (λ b. list_any (λ o. o == a) (take i xs) || b) (same_turned a x) ∙ ap (λ y. list_any (λ o. o == a) (take i xs) || (y == a)) (get_or_read xs i x below is 0) ∙ sym (list_any_more (λ o. o == a) xs i 0 below))
  where
    two_out : (x y z : Bool) → ((x && not y) && not z) ≡ (x && not (y || z))
    two_out true true z = refl
    two_out true false z = refl
    two_out false y z = refl

-- a row without the rules that the rule of the row is put apart from, or the others' rows without that rule
pub apart_own : (keeps : Bool) (r : ℕ) (xs : List ℕ) (a b : ℕ) → (b == r) ≡ true → (keeps && not (list_any (λ o. o == a) xs)) ≡ (keeps && not (is_between r xs a b))
apart_own keeps r xs a b own = ap (λ t. keeps && not t) (by (a == r) refl)
  where
    listed : ℕ → Bool
    listed c = list_any (λ o. o == c) xs

    by : (t : Bool) → (a == r) ≡ t → listed a ≡ is_between r xs a b
    by true e = sym (both (listed a)) ∙ (λ i. (sym e i && listed (same i)) || (sym own i && listed a))
      where
        both : (t : Bool) → (t || t) ≡ t
        both true = refl
        both false = refl

        same : a ≡ b
        same = eqb-true a r e ∙ sym (eqb-true b r own)
    by false e = λ i. (sym e i && listed b) || (sym own i && listed a)

pub apart_listed : (keeps : Bool) (r : ℕ) (xs : List ℕ) (a b : ℕ) → (b == r) ≡ false → list_any (λ o. o == b) xs ≡ true → (keeps && not (a == r)) ≡ (keeps && not (is_between r xs a b))
apart_listed keeps r xs a b other is = ap (λ t. keeps && not t) (sym (or-false (a == r)) ∙ (λ i. sym (and-true (a == r)) i || false) ∙ (λ i. ((a == r) && sym is i) || (sym other i && list_any (λ o. o == a) xs)))

pub apart_other : (keeps : Bool) (r : ℕ) (xs : List ℕ) (a b : ℕ) → (b == r) ≡ false → list_any (λ o. o == b) xs ≡ false → keeps ≡ (keeps && not (is_between r xs a b))
apart_other keeps r xs a b other is = sym (and-true keeps) ∙ ap (λ t. keeps && not t) (sym (or-false false) ∙ (λ i. sym (and-false (a == r)) i || false) ∙ (λ i. ((a == r) && sym is i) || (sym other i && list_any (λ o. o == a) xs)))

-- ---- rows one after another

-- with one row more as it is wanted, those up to it are
pub next_done : (want : ℕ → ℕ → Bool) (rows : List (List Bool)) (i : ℕ) (row : List Bool) → i < length rows → ((a b : ℕ) → b < i → relates rows a b ≡ want a b) → ((a : ℕ) → flag_at row a ≡ want a i)
    → (a b : ℕ) → b < i + 1 → relates (slice_set rows i row) a b ≡ want a b
next_done want rows i row low before here a b h = by (b == i) refl
  where
    by : (same : Bool) → (b == i) ≡ same → relates (slice_set rows i row) a b ≡ want a b
    by true e =
        let at : b ≡ i = eqb-true b i e in
        (λ j. flag_at (get_or (slice_set rows i row) (at j) []) a) ∙ ap (λ (r : List Bool). flag_at r a) (get_or-set_same rows i row [] low) ∙ here a ∙ ap (want a) (sym at)
    by false e =
        ap (λ (r : List Bool). flag_at r a) (get_or-set_other rows i b row [] (eqb-false b i e))
        ∙ before a b (let other = eqb-false b i e in omega (arith, h, other))

-- the rows behind it stay
pub next_kept : (old rows : List (List Bool)) (i : ℕ) (row : List Bool) → ((b : ℕ) → i ≤ b → get_or rows b [] ≡ get_or old b []) → (b : ℕ) → i + 1 ≤ b → get_or (slice_set rows i row) b [] ≡ get_or old b []
next_kept old rows i row kept b h = get_or-set_other rows i b row [] (λ e. absurd (omega (arith, h, e))) ∙ kept b (omega (arith, h))

-- behind the last row nothing is linked
pub all_linked : (old new : List (List Bool)) (through : List Bool) (n s : ℕ) → length old ≤ n → s < n →
    ((a b : ℕ) → b < n → relates new a b ≡ (relates old a b || (flag_at through a && ((s == b) || relates old s b)))) → ((b : ℕ) → n ≤ b → get_or new b [] ≡ get_or old b []) →
    (a b : ℕ) → relates new a b ≡ (relates old a b || (flag_at through a && ((s == b) || relates old s b)))
all_linked old new through n s long low linked kept a b = by (nat_lt b n) refl
  where
    by : (below : Bool) → nat_lt b n ≡ below → relates new a b ≡ (relates old a b || (flag_at through a && ((s == b) || relates old s b)))
    by true e = linked a b (ltb-true b n e)
    by false e =
        let past : n ≤ b = ltb-false b n e in
        let none : relates old s b ≡ false = ap (λ (row : List Bool). flag_at row s) (get_or-eq_default old [] (omega (arith, past, long))) in
        let other : (s == b) ≡ false = ne_eqb s b (λ q. absurd (omega (arith, q, low, past))) in
        ap (λ (row : List Bool). flag_at row a) (kept b past)
        ∙ sym (or-false (relates old a b))
        ∙ (λ j. relates old a b || (sym (and-false (flag_at through a)) j))
        ∙ (λ j. relates old a b || (flag_at through a && (sym other j || sym none j)))

flag_at-past : (flags : List Bool) (k : ℕ) → length flags ≤ k → flag_at flags k ≡ false
flag_at-past [] k h = refl
flag_at-past (x ∷ flags) zero h = absurd (omega arith)
flag_at-past (x ∷ flags) (suc k) h = flag_at-past flags k (omega arith)

-- past the capacity of a set there is no rule
pub all_bits : (row : List Bool) (n a : ℕ) (t : Bool) → length row ≤ n → (nat_lt a n && (flag_at row a && t)) ≡ (flag_at row a && t)
all_bits row n a t long = by (nat_lt a n) refl
  where
    by : (below : Bool) → nat_lt a n ≡ below → (below && (flag_at row a && t)) ≡ (flag_at row a && t)
    by true e = refl
    by false e = λ j. sym (flag_at-past row a (omega (arith, long, ltb-false a n e))) j && t

-- ---- rows taken over

pub none_taken : (n : ℕ) (row : List Bool) (a b : ℕ) → flag_at row a ≡ false → (rest : Bool) → flag_at (get_or (replicate n row) b []) a ≡ (nat_lt b 0 && rest)
none_taken n row a b h rest = none_related n row a b h ∙ sym (ap (λ t. t && rest) (not_true (nat_lt b 0) (λ e. absurd (let low : b < 0 = ltb-true b 0 e in omega (arith, low)))))

pub all_taken : (from : List (List Bool)) (n a b : ℕ) → length from ≤ n → (nat_lt b n && relates from a b) ≡ relates from a b
all_taken from n a b long = by (nat_lt b n) refl
  where
    by : (below : Bool) → nat_lt b n ≡ below → (below && relates from a b) ≡ relates from a b
    by true e = refl
    by false e = sym (ap (λ (row : List Bool). flag_at row a) (get_or-eq_default from [] (omega (arith, long, ltb-false b n e))))

below_other : (b i : ℕ) → b ≢ i → nat_lt b i ≡ nat_lt b (i + 1)
below_other b i other = same_test (nat_lt b i) (nat_lt b (i + 1)) (λ e. lt-ltb b (i + 1) (omega (arith, ltb-true b i e))) (λ e. lt-ltb b i (omega (arith, ltb-true b (i + 1) e, other)))

-- one row more is taken over
pub taken_next : (from to : List (List Bool)) (i : ℕ) (row : List Bool) → i < length to → ((a b : ℕ) → relates to a b ≡ (nat_lt b i && relates from a b)) → ((a : ℕ) → flag_at row a ≡ relates from a i)
    → (a b : ℕ) → relates (slice_set to i row) a b ≡ (nat_lt b (i + 1) && relates from a b)
taken_next from to i row low before here a b = by (b == i) refl
  where
    by : (same : Bool) → (b == i) ≡ same → relates (slice_set to i row) a b ≡ (nat_lt b (i + 1) && relates from a b)
    by true e =
        let at : b ≡ i = eqb-true b i e in
        (λ j. flag_at (get_or (slice_set to i row) (at j) []) a) ∙ ap (λ (r : List Bool). flag_at r a) (get_or-set_same to i row [] low) ∙ here a ∙ ap (relates from a) (sym at)
        ∙ (λ j. sym (lt-ltb b (i + 1) (omega (arith, at))) j && relates from a b)
    by false e =
        let other = eqb-false b i e in
        ap (λ (r : List Bool). flag_at r a) (get_or-set_other to i b row [] other)
        ∙ before a b
        ∙ (λ j. below_other b i other j && relates from a b)
