-- Codes: texts in order, and how many come before one.
use Rattle.std.proofs.Common.{◌≡◌, ◌≤◌, ◌<◌, ◌^◌, ℕ, zero, suc, ◌+◌, pos, Bool, true, false, cond, Bor, List, [], ◌∷◌, length, get_or, map, Ordering, Less, Equal, Greater, refl, sym, ap, ◌∙◌, to_z, w64, arith}
use Rattle.std.specs.Cmp.{IsStrictWeakOrder, int_cmp_is}
use Rattle.std.specs.Cmp.Lexicographic.{slice_cmp}
use Rattle.std.specs.List.{Contains, count_by}
use Rattle.std.specs.List.Sorted.{IsPartitionedBy, IsPartitionPoint}
use Rattle.std.specs.Ordering.{int_cmp, is_le, is_lt, nat_cmp, ordering_index, ordering_reverse}
use Rattle.std.proofs.lemmas.Bool.{false≢true}
use Rattle.std.proofs.lemmas.Cmp.{int_cmp_total, nat_list_cmp_total, tied_itself}
use Rattle.std.proofs.lemmas.Int.{ints, to_z_pos}
use Rattle.std.proofs.lemmas.List.Sorted.{ranks_by, searchable_from_sorted}
use Rattle.std.proofs.lemmas.List.Sums.{sum_by-cons}
use Rattle.std.proofs.lemmas.Map.Lookups.{exact_bytes}
use Rattle.sb_rows.specs.Codes.{InOrder, code_of, key_of, precedes, reaches}

abbrev text_cmp : List ℕ → List ℕ → Ordering
text_cmp = slice_cmp nat_cmp

-- the order of texts
pub ordered : IsStrictWeakOrder (λ (a b : Bor (List ℕ)). precedes a.now b.now)
ordered = ranks_by nat_list_cmp_total (λ (a : Bor (List ℕ)). a.now)

-- what an order tells of those before it
lower : (o r : Ordering) → ordering_index o ≤ ordering_index r → is_lt r ≡ true → is_lt o ≡ true
lower Less r h t = refl
lower Equal Less h t = absurd (omega arith)
lower Equal Equal h t = t
lower Equal Greater h t = t
lower Greater Less h t = absurd (omega arith)
lower Greater Equal h t = t
lower Greater Greater h t = t

-- texts in order are those before a text, and the others
pub parted : (text : List ℕ) (texts : List (Bor (List ℕ))) → InOrder texts → IsPartitionedBy (λ other. precedes other.now text) texts
parted text texts up i j d le lt h =
    lower (text_cmp (get_or texts i d).now text) (text_cmp (get_or texts j d).now text)
    (searchable_from_sorted nat_list_cmp_total (λ (a : Bor (List ℕ)). a.now) texts text up i j d le lt) h

-- how many stand before a place
count_parted : {X : Type 0} (p : X → Bool) (xs : List X) (n : ℕ) → n ≤ length xs → IsPartitionPoint (λ x. p x ≡ true) (λ x. p x ≡ false) xs n → count_by p xs ≡ n
count_parted p [] n le parts = omega arith
count_parted p (x ∷ xs) zero le parts =
    sum_by-cons (λ y. cond (p y) 1 0) x xs
    ∙ ap (λ b. cond b 1 0 + count_by p xs) (parts.1 0 x (omega arith) (omega arith))
    ∙ omega (arith, count_parted p xs zero (omega arith) ((λ k d h j. absurd (omega arith)), (λ k d h j. parts.1 (suc k) d (omega arith) (omega arith))))
count_parted p (x ∷ xs) (suc n) le parts =
    sum_by-cons (λ y. cond (p y) 1 0) x xs
    ∙ ap (λ b. cond b 1 0 + count_by p xs) (parts.0 0 x (omega arith) (omega arith))
    ∙ omega (arith, count_parted p xs n (omega arith) ((λ k d h j. parts.0 (suc k) d (omega arith) (omega arith)), (λ k d h j. parts.1 (suc k) d (omega arith) (omega arith))))

count_seen_by : (p : List ℕ → Bool) (texts : List (Bor (List ℕ))) → count_by (λ (other : Bor (List ℕ)). p other.now) texts ≡ count_by p (map (λ t. t.now) texts)
count_seen_by p [] = refl
count_seen_by p (t ∷ texts) =
    sum_by-cons (λ (y : Bor (List ℕ)). cond (p y.now) 1 0) t texts
    ∙ ap (λ n. cond (p t.now) 1 0 + n) (count_seen_by p texts)
    ∙ sym (sum_by-cons (λ y. cond (p y) 1 0) t.now (map (λ u. u.now) texts))

-- the place that parts the texts by a test is how many pass it
pub count_at : (p : List ℕ → Bool) (seen : List (Bor (List ℕ))) (texts : List (List ℕ)) (n : ℕ) → map (λ t. t.now) seen ≡ texts → n ≤ length seen → n < 2 ^ 63
    → IsPartitionPoint (λ (t : Bor (List ℕ)). p t.now ≡ true) (λ (t : Bor (List ℕ)). p t.now ≡ false) seen n → to_z w64 n ≡ pos (count_by p texts)
count_at p seen texts n same within small parts =
    to_z_pos w64 n small ∙ ap pos (sym (count_parted (λ (t : Bor (List ℕ)). p t.now) seen n within parts) ∙ count_seen_by p seen ∙ ap (count_by p) same)

-- what an order tells of those that don't come behind it
lower_or_same : (o r : Ordering) → ordering_index o ≤ ordering_index r → is_le r ≡ true → is_le o ≡ true
lower_or_same Less r h t = refl
lower_or_same Equal r h t = refl
lower_or_same Greater Less h t = absurd (omega arith)
lower_or_same Greater Equal h t = absurd (omega arith)
lower_or_same Greater Greater h t = t

-- texts in order are those that don't come behind a text, and the others
pub parted_behind : (text : List ℕ) (texts : List (Bor (List ℕ))) → InOrder texts → IsPartitionedBy (λ other. reaches other.now text) texts
parted_behind text texts up i j d le lt h =
    lower_or_same (text_cmp (get_or texts i d).now text) (text_cmp (get_or texts j d).now text)
    (searchable_from_sorted nat_list_cmp_total (λ (a : Bor (List ℕ)). a.now) texts text up i j d le lt) h

-- ---- codes compare as texts do

-- what a test is worth in a count
abbrev bit : Bool → ℕ
bit b = cond b 1 0

bit_le : (a b : Bool) → (a ≡ true → b ≡ true) → cond a 1 0 ≤ cond b 1 0
bit_le true true h = omega arith
bit_le true false h = absurd (false≢true (h refl))
bit_le false b h = omega arith

count_le : {X : Type 0} (p q : X → Bool) (xs : List X) → ((x : X) → p x ≡ true → q x ≡ true) → count_by p xs ≤ count_by q xs
count_le p q [] more = omega arith
count_le p q (x ∷ xs) more =
    omega (arith, count_le p q xs more, bit_le (p x) (q x) (more x), sum_by-cons (λ y. cond (p y) 1 0) x xs, sum_by-cons (λ y. cond (q y) 1 0) x xs)

-- an element that only the second test takes
count_lt : {X : Type 0} (p q : X → Bool) (xs : List X) (k : ℕ) (one : X) → ((x : X) → p x ≡ true → q x ≡ true) → k < length xs → get_or xs k one ≡ one → p one ≡ false → q one ≡ true → count_by p xs < count_by q xs
count_lt p q [] k one more within is misses takes = absurd (omega arith)
count_lt p q (x ∷ xs) zero one more within is misses takes =
    omega (
      arith,
      count_le p q xs more,
      sum_by-cons (λ y. cond (p y) 1 0) x xs,
      sum_by-cons (λ y. cond (q y) 1 0) x xs,
      ap (λ y. bit (p y)) is,
      ap bit misses,
      ap (λ y. bit (q y)) is,
      ap bit takes,
    )
count_lt p q (x ∷ xs) (suc k) one more within is misses takes =
    omega (arith, count_lt p q xs k one more (omega arith) is misses takes, bit_le (p x) (q x) (more x), sum_by-cons (λ y. cond (p y) 1 0) x xs, sum_by-cons (λ y. cond (q y) 1 0) x xs)

count_same : {X : Type 0} (p q : X → Bool) (xs : List X) → ((x : X) → p x ≡ q x) → count_by p xs ≡ count_by q xs
count_same p q [] same = refl
count_same p q (x ∷ xs) same =
    omega (arith, count_same p q xs same, ap bit (same x), sum_by-cons (λ y. cond (p y) 1 0) x xs, sum_by-cons (λ y. cond (q y) 1 0) x xs)

less_from : (o : Ordering) → is_lt o ≡ true → o ≡ Less
less_from Less h = refl
less_from Equal h = absurd (false≢true h)
less_from Greater h = absurd (false≢true h)

-- a text that comes before another has a lower code
code_lower : (texts : List (List ℕ)) (a b : List ℕ) → Contains texts a → text_cmp a b ≡ Less → code_of texts a < code_of texts b
code_lower texts a b one is =
    count_lt (λ other. precedes other a) (λ other. precedes other b) texts one.0 a
    (λ other h. ap is_lt (nat_list_cmp_total.trans other a b (less_from (text_cmp other a) h) is))
    one.1 one.2 (ap is_lt (tied_itself nat_list_cmp_total a)) (ap is_lt is)

-- equal texts have one code
code_same : (texts : List (List ℕ)) (a b : List ℕ) → text_cmp a b ≡ Equal → code_of texts a ≡ code_of texts b
code_same texts a b is =
    count_same (λ other. precedes other a) (λ other. precedes other b) texts (λ other.
    ap is_lt (nat_list_cmp_total.antisymm other a ∙ ap ordering_reverse (nat_list_cmp_total.congr a b other is) ∙ sym (nat_list_cmp_total.antisymm other b)))

by_order : (texts : List (List ℕ)) (a b : List ℕ) → Contains texts a → Contains texts b → (o : Ordering) → text_cmp a b ≡ o → o ≡ int_cmp (pos (code_of texts a)) (pos (code_of texts b))
by_order texts a b one two Less is = int_cmp_is (pos (code_of texts a)) (pos (code_of texts b)) Less (omega (arith, ints, code_lower texts a b one is))
by_order texts a b one two Equal is = int_cmp_is (pos (code_of texts a)) (pos (code_of texts b)) Equal (ap pos (code_same texts a b is))
by_order texts a b one two Greater is =
    int_cmp_is (pos (code_of texts a)) (pos (code_of texts b)) Greater
    (omega (arith, ints, code_lower texts b a two (nat_list_cmp_total.antisymm b a ∙ ap ordering_reverse is)))

pub codes_in_order : (texts : List (List ℕ)) (a b : List ℕ) → Contains texts a → Contains texts b → int_cmp (pos (code_of texts a)) (pos (code_of texts b)) ≡ text_cmp a b
codes_in_order texts a b one two = sym (by_order texts a b one two (text_cmp a b) refl)

-- ---- keys compare as texts do, where one of them is coded

-- what doesn't come behind a text doesn't come behind a later one
reach_more : (a b other : List ℕ) → text_cmp a b ≡ Less → (o : Ordering) → text_cmp other a ≡ o → is_le o ≡ true → is_le (text_cmp other b) ≡ true
reach_more a b other is Less e h = ap is_le (nat_list_cmp_total.trans other a b e is)
reach_more a b other is Equal e h = ap is_le (nat_list_cmp_total.congr other a b e ∙ is)
reach_more a b other is Greater e h = absurd (false≢true h)

-- how many don't come behind a text
abbrev reached_of : List (List ℕ) → List ℕ → ℕ
reached_of texts text = count_by (λ other. reaches other text) texts

code_rises : (texts : List (List ℕ)) (a b : List ℕ) → text_cmp a b ≡ Less → code_of texts a ≤ code_of texts b
code_rises texts a b is =
    count_le (λ other. precedes other a) (λ other. precedes other b) texts
    (λ other h. ap is_lt (nat_list_cmp_total.trans other a b (less_from (text_cmp other a) h) is))

reached_rises : (texts : List (List ℕ)) (a b : List ℕ) → text_cmp a b ≡ Less → reached_of texts a ≤ reached_of texts b
reached_rises texts a b is =
    count_le (λ other. reaches other a) (λ other. reaches other b) texts (λ other h. reach_more a b other is (text_cmp other a) refl h)

-- the later of two is coded
reached_lower : (texts : List (List ℕ)) (a b : List ℕ) → Contains texts b → text_cmp a b ≡ Less → text_cmp b a ≡ Greater → reached_of texts a < reached_of texts b
reached_lower texts a b one is back =
    count_lt (λ other. reaches other a) (λ other. reaches other b) texts one.0 b (λ other h. reach_more a b other is (text_cmp other a) refl h) one.1 one.2
    (ap is_le back) (ap is_le (tied_itself nat_list_cmp_total b))

reached_same : (texts : List (List ℕ)) (a b : List ℕ) → text_cmp a b ≡ Equal → reached_of texts a ≡ reached_of texts b
reached_same texts a b is =
    count_same (λ other. reaches other a) (λ other. reaches other b) texts (λ other.
    ap is_le (nat_list_cmp_total.antisymm other a ∙ ap ordering_reverse (nat_list_cmp_total.congr a b other is) ∙ sym (nat_list_cmp_total.antisymm other b)))

keys_by_order : (texts : List (List ℕ)) (a b : List ℕ) → Contains texts a → (o : Ordering) → text_cmp a b ≡ o → o ≡ int_cmp (pos (key_of texts a)) (pos (key_of texts b))
keys_by_order texts a b one Less is =
    int_cmp_is (pos (key_of texts a)) (pos (key_of texts b)) Less (omega (arith, ints, code_lower texts a b one is, reached_rises texts a b is))
keys_by_order texts a b one Equal is =
    int_cmp_is (pos (key_of texts a)) (pos (key_of texts b)) Equal (ap pos (omega (arith, code_same texts a b is, reached_same texts a b is)))
keys_by_order texts a b one Greater is =
    let back : text_cmp b a ≡ Less = nat_list_cmp_total.antisymm b a ∙ ap ordering_reverse is in
    int_cmp_is (pos (key_of texts a)) (pos (key_of texts b)) Greater (omega (arith, ints, code_rises texts b a back, reached_lower texts b a one back is))

pub keys_in_order : (texts : List (List ℕ)) (a b : List ℕ) → Contains texts a → int_cmp (pos (key_of texts a)) (pos (key_of texts b)) ≡ text_cmp a b
keys_in_order texts a b one = sym (keys_by_order texts a b one (text_cmp a b) refl)

-- the same where the second is coded
pub keys_in_order_back : (texts : List (List ℕ)) (a b : List ℕ) → Contains texts b → int_cmp (pos (key_of texts a)) (pos (key_of texts b)) ≡ text_cmp a b
keys_in_order_back texts a b two =
    int_cmp_total.antisymm (pos (key_of texts a)) (pos (key_of texts b)) ∙ ap ordering_reverse (keys_in_order texts b a two) ∙ sym (nat_list_cmp_total.antisymm a b)

-- ---- where fewer come before a text than don't come behind it, it is coded

one_more : (x t : List ℕ) (xs : List (List ℕ)) → Contains xs t → Contains (x ∷ xs) t
one_more x t xs one = (suc one.0, omega (arith, one.1), one.2)

-- another text in front counts in both or in neither
other_in_front : (x t : List ℕ) (xs : List (List ℕ)) → is_lt (text_cmp x t) ≡ is_le (text_cmp x t) → code_of (x ∷ xs) t < reached_of (x ∷ xs) t → code_of xs t < reached_of xs t
other_in_front x t xs both h = omega (
  arith,
  h,
  sum_by-cons (λ y. cond (precedes y t) 1 0) x xs,
  sum_by-cons (λ y. cond (reaches y t) 1 0) x xs,
  ap bit both,
)

first_or_later : (o : Ordering) (x t : List ℕ) (xs : List (List ℕ)) → text_cmp x t ≡ o → (code_of xs t < reached_of xs t → Contains xs t)
    → code_of (x ∷ xs) t < reached_of (x ∷ xs) t → Contains (x ∷ xs) t
first_or_later Equal x t xs is later h = (0, omega arith, exact_bytes x t is)
first_or_later Less x t xs is later h = one_more x t xs (later (other_in_front x t xs (rw is refl) h))
first_or_later Greater x t xs is later h = one_more x t xs (later (other_in_front x t xs (rw is refl) h))

pub contained : (texts : List (List ℕ)) (t : List ℕ) → code_of texts t < reached_of texts t → Contains texts t
contained [] t h = absurd (omega (arith, h))
contained (x ∷ xs) t h = first_or_later (text_cmp x t) x t xs refl (contained xs t) h
