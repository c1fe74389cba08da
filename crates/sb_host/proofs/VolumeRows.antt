-- The rows of a volume's receipts: more receipts in one of them, and the rows as stubs.
use Rattle.std.proofs.Common.{◌≡◌, ℕ, zero, suc, ◌+◌, ◌<◌, ◌==◌, Bool, cond, List, [], ◌∷◌, ◌++◌, length, take, get_or, set, Vec, refl, sym, ap, ◌∙◌, subst, inl, inr, ◌⊎◌, append_assoc, append-nil, length-append, eq-eqb, arith}
use Rattle.std.specs.Global.{Global}
use Rattle.std.proofs.lemmas.Bool.{cases_eq, ne_eqb}
use Rattle.std.proofs.lemmas.List.Sums.{sum_by-set}
use Rattle.std.proofs.lemmas.List.{length-take-le, take_more}
use Rattle.std.proofs.lemmas.List.Elements.{All-cons, All-nil}
use Rattle.std.specs.List.Sorted.{IsPermutation}
use Rattle.std.proofs.lemmas.List.Sorted.{IsPermutation-append_comm, IsPermutation-append_left, IsPermutation-append_right, IsPermutation-trans}
use Rattle.sb_tenant.specs.declared.reply.Entry.{Entry}
use Rattle.sb_desk.specs.declared.receipts.Receipt.{Receipt}
use Rattle.sb_desk.specs.Receipts.{receipts_of}
use Rattle.sb_desk.specs.declared.stub.Stub.{Stub}
use Rattle.sb_host.specs.Comparing.{wanted_of}
use Rattle.sb_host.specs.Finish.{gathered, receipts_in, row_at}
use Rattle.sb_host.specs.Renewal.{AreOf}
use Rattle.sb_host.specs.Renewing.{left_to, VolumeStubs, held_by, list_at, lists_of, receipt_count}
use Rattle.sb_host.proofs.Rows.{others_in, own_in, row_laid}
use Rattle.sb_host.proofs.Wanted.{wants_more}

-- ---- as contracts see them

pub list_at-row : (rows : List (Vec Receipt Global)) (s : ℕ) → list_at (lists_of rows) s ≡ row_at rows s
list_at-row [] s = refl
list_at-row (v ∷ vs) zero = refl
list_at-row (v ∷ vs) (suc s) = list_at-row vs s

-- what each session has is what its row has
pub held_are : (rows : List (Vec Receipt Global)) (stubs : VolumeStubs) → lists_of rows ≡ stubs.lists → held_by stubs ≡ row_at rows
held_are rows stubs view = λ i s. (ap (λ (ls : List (List Receipt)). list_at ls s) (sym view) ∙ list_at-row rows s) i

-- ---- more receipts in the row of a session

row_get : (rows : List (Vec Receipt Global)) (n : ℕ) (d : Vec Receipt Global) → n < length rows → (get_or rows n d).items ≡ row_at rows n
row_get [] n d h = absurd (omega arith)
row_get (w ∷ ws) zero d h = refl
row_get (w ∷ ws) (suc n) d h = row_get ws n d (omega arith)

module _ (rows : List (Vec Receipt Global)) (at : ℕ) (v : Vec Receipt Global) (more : List Receipt) (within : at < length rows) (held : v.items ≡ row_at rows at ++ more) where
  pub row_more : (s : ℕ) → row_at (set rows at v) s ≡ row_at rows s ++ cond (at == s) more []
  row_more s = row_laid rows at v s within ∙ by (cases_eq at s)
    where
      by : (at ≡ s) ⊎ (at ≡ s → ⊥) → cond (at == s) v.items (row_at rows s) ≡ row_at rows s ++ cond (at == s) more []
      by (inl same) =
          ap (λ (b : Bool). cond b v.items (row_at rows s)) (eq-eqb at s same) ∙ held
          ∙ (λ i. row_at rows (same i) ++ cond (sym (eq-eqb at s same) i) more [])
      by (inr other) =
          ap (λ (b : Bool). cond b v.items (row_at rows s)) (ne_eqb at s other) ∙ sym (append-nil (row_at rows s))
          ∙ ap (λ (b : Bool). row_at rows s ++ cond b more []) (sym (ne_eqb at s other))

  pub count_more : receipt_count (set rows at v) ≡ receipt_count rows + length more
  count_more =
      let sum = sum_by-set (λ (row : Vec Receipt Global). length row.items) rows at v v within in
      let was : length (get_or rows at v).items ≡ length (row_at rows at) = ap length (row_get rows at v within) in
      let is : length v.items ≡ length (row_at rows at) + length more = ap length held ∙ length-append (row_at rows at) more in
      omega (arith, sum, was, is)

-- a row with the same receipts changes no row
pub row_stays_with : (rows : List (Vec Receipt Global)) (at : ℕ) (v : Vec Receipt Global) → at < length rows → v.items ≡ row_at rows at → (s : ℕ) → row_at (set rows at v) s ≡ row_at rows s
row_stays_with [] at v h e s = absurd (omega (arith, h))
row_stays_with (w ∷ ws) zero v h e zero = e
row_stays_with (w ∷ ws) zero v h e (suc s) = refl
row_stays_with (w ∷ ws) (suc at) v h e zero = refl
row_stays_with (w ∷ ws) (suc at) v h e (suc s) = row_stays_with ws at v (omega (arith, h)) e s

-- ---- the rows as stubs

-- one for each row, whose sessions have the numbers from n on
abbrev pub stubs_of : ℕ → ℕ → List (Vec Receipt Global) → List Stub
stubs_of t n [] = []
stubs_of t n (v ∷ vs) = record { tenant = t; session = n; receipts = v } ∷ stubs_of t (n + 1) vs

module _ (t : ℕ) where
  none_before : (n s : ℕ) (rows : List (Vec Receipt Global)) → s < n → gathered t s (stubs_of t n rows) ≡ []
  none_before n s [] h = refl
  none_before n s (v ∷ vs) h =
      let x : Stub = record { tenant = t; session = n; receipts = v } in
      (λ i. others_in t s x (λ e. omega (arith, e.1, h)) i ++ none_before (n + 1) s vs (omega arith) i)

  pub gathered_at : (n i : ℕ) (rows : List (Vec Receipt Global)) → gathered t (n + i) (stubs_of t n rows) ≡ row_at rows i
  gathered_at n i [] = refl
  gathered_at n zero (v ∷ vs) =
      let x : Stub = record { tenant = t; session = n; receipts = v } in
      (λ k. own_in t (n + 0) x refl (omega arith) k ++ none_before (n + 1) (n + 0) vs (omega arith) k) ∙ append-nil v.items
  gathered_at n (suc i) (v ∷ vs) =
      let x : Stub = record { tenant = t; session = n; receipts = v } in
      let next : n + suc i ≡ (n + 1) + i = omega arith in
      (λ k. others_in t (n + suc i) x (λ e. omega (arith, e.1)) k ++ gathered t (next k) (stubs_of t (n + 1) vs)) ∙ gathered_at (n + 1) i vs

  pub none_of_others : (u s n : ℕ) (rows : List (Vec Receipt Global)) → (u ≡ t → ⊥) → gathered u s (stubs_of t n rows) ≡ []
  none_of_others u s n [] h = refl
  none_of_others u s n (v ∷ vs) h =
      let x : Stub = record { tenant = t; session = n; receipts = v } in
      (λ i. others_in u s x (λ e. h (sym e.0)) i ++ none_of_others u s (n + 1) vs h i)

pub gathered_all : (t s : ℕ) (rows : List (Vec Receipt Global)) → gathered t s (stubs_of t 0 rows) ≡ row_at rows s
gathered_all t s rows = let from_none : s ≡ 0 + s = omega arith in ap (λ (k : ℕ). gathered t k (stubs_of t 0 rows)) from_none ∙ gathered_at t 0 s rows

-- those of two lists together
pub gathered_both : (t s : ℕ) (xs ys : List Stub) → gathered t s (xs ++ ys) ≡ gathered t s xs ++ gathered t s ys
gathered_both t s [] ys = refl
gathered_both t s (x ∷ xs) ys = ap (λ (l : List Receipt). receipts_in t s x ++ l) (gathered_both t s xs ys) ∙ sym (append_assoc (receipts_in t s x) (gathered t s xs) (gathered t s ys))

pub are_of : (t n : ℕ) (rows : List (Vec Receipt Global)) → AreOf t (stubs_of t n rows)
are_of t n [] = All-nil (λ (stub : Stub). stub.tenant ≡ t)
are_of t n (v ∷ vs) = All-cons (λ (stub : Stub). stub.tenant ≡ t) (record { tenant = t; session = n; receipts = v }) (stubs_of t (n + 1) vs) refl (are_of t (n + 1) vs)

-- ---- the receipts of stubs, dealt to rows

-- what a stub of the tenant leaves to a session
pub left_in : (t s : ℕ) (x : Stub) → x.tenant ≡ t → left_to s x ≡ receipts_in t s x
left_in t s x own = by (cases_eq x.session s)
  where
    by : (x.session ≡ s) ⊎ (x.session ≡ s → ⊥) → left_to s x ≡ receipts_in t s x
    by (inl same) = ap (λ (b : Bool). cond b x.receipts.items []) (eq-eqb x.session s same) ∙ sym (own_in t s x own same)
    by (inr other) = ap (λ (b : Bool). cond b x.receipts.items []) (ne_eqb x.session s other) ∙ sym (others_in t s x (λ e. other e.1))

module _ (all row left x rest : List Receipt) (so_far : IsPermutation all ((row ++ left) ++ (x ++ rest))) where
  -- in the row of its session
  pub dealt : IsPermutation all (((row ++ x) ++ left) ++ rest)
  dealt =
      let inner : IsPermutation (row ++ (left ++ x)) (row ++ (x ++ left)) = IsPermutation-append_right row (left ++ x) (x ++ left) (IsPermutation-append_comm left x) in
      let outer : IsPermutation ((row ++ (left ++ x)) ++ rest) ((row ++ (x ++ left)) ++ rest) = IsPermutation-append_left rest (row ++ (left ++ x)) (row ++ (x ++ left)) inner in
      let was : (row ++ left) ++ (x ++ rest) ≡ (row ++ (left ++ x)) ++ rest = sym (append_assoc (row ++ left) x rest) ∙ ap (λ (l : List Receipt). l ++ rest) (append_assoc row left x) in
      let is : (row ++ (x ++ left)) ++ rest ≡ ((row ++ x) ++ left) ++ rest = ap (λ (l : List Receipt). l ++ rest) (sym (append_assoc row x left)) in
      subst (IsPermutation all) is (IsPermutation-trans all ((row ++ (left ++ x)) ++ rest) ((row ++ (x ++ left)) ++ rest) (subst (IsPermutation all) was so_far) outer)

  -- among those that are given back
  pub put_by : IsPermutation all ((row ++ (left ++ x)) ++ rest)
  put_by = subst (IsPermutation all) (sym (append_assoc (row ++ left) x rest) ∙ ap (λ (l : List Receipt). l ++ rest) (append_assoc row left x)) so_far

-- ---- the rows that a trail wants

-- with one entry more
pub wants_next : (s i : ℕ) (es : List Entry) (e : Entry) (old new : List Receipt) → i < length es → e ≡ get_or es i e → old ≡ receipts_of s 1 (take i es) → new ≡ old ++ wanted_of s (i + 1) e → new ≡ receipts_of s 1 (take (i + 1) es)
wants_next s i es e old new below is so_far more =
    let long : length (take i es) ≡ i = length-take-le i es (omega arith) in
    let number : i + 1 ≡ 1 + length (take i es) = omega (arith, long) in
    let entries : take i es ++ e ∷ [] ≡ take (i + 1) es = ap (λ (x : Entry). take i es ++ x ∷ []) is ∙ sym (take_more es i e below) in
    more ∙ (λ k. so_far k ++ wanted_of s (number k) e) ∙ sym (wants_more s 1 (take i es) e) ∙ ap (receipts_of s 1) entries
