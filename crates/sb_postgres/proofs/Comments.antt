-- What closes a comment: the function against the comments inside.
use Rattle.std.proofs.Common.{◌≡◌, ◌≤◌, ◌+◌, ◌-◌, ◌==◌, ◌&&◌, ℕ, zero, suc, true, false, List, [], ◌∷◌, ◌++◌, length, take, Option, Some, None, refl, ap, sym, ◌∙◌, subst, add-one, arith}
use Rattle.std.proofs.lemmas.Bool.{eqb-true, eqb-false, ne_eqb, and_parts, and_right, cond_both}
use Rattle.sb_postgres.specs.Pieces.{Closes, last, close_one, open_one, other_byte, StaysOpen, to_the_end, one_closed, one_opened, another_byte, opens_comment, closes_comment}
use Rattle.sb_postgres.specs.Scan.{comment_end}

-- the bytes up to the end of the outermost
pub record Ended (depth n : ℕ) (bs : List ℕ) (m : ℕ) : Type 0 where
  pub len : ℕ
  pub total : m ≡ n + len
  pub closes : Closes depth (take len bs)
  pub some : 2 ≤ len
  pub within : len ≤ length bs

abbrev pub EndSound : ℕ → ℕ → List ℕ → Option ℕ → Type 0
EndSound depth n bs (Some m) = Ended depth n bs m
EndSound depth n bs None = StaysOpen depth bs

two-are : (p q b c : ℕ) (bs : List ℕ) → (b == p && c == q) ≡ true → p ∷ q ∷ bs ≡ b ∷ c ∷ bs
two-are p q b c bs e =
    let s = and_parts (b == p) (c == q) e in
    ap (λ x. x ∷ q ∷ bs) (sym (eqb-true b p s.0)) ∙ ap (λ x. b ∷ x ∷ bs) (sym (eqb-true c q s.1))

last-step : (depth n b c : ℕ) (bs : List ℕ) → closes_comment (b ∷ c ∷ bs) ≡ true → (depth == 0) ≡ true → Ended depth n (b ∷ c ∷ bs) (n + 2)
last-step depth n b c bs e z = record {
  len = 2;
  total = refl;
  closes = subst (λ (d : ℕ). Closes d (b ∷ c ∷ [])) (sym (eqb-true depth 0 z)) (subst (λ (xs : List ℕ). Closes 0 xs) (two-are 42 47 b c [] e) last);
  some = omega arith;
  within = omega arith;
}

close-step : (depth n b c : ℕ) (bs : List ℕ) (r : Option ℕ) → closes_comment (b ∷ c ∷ bs) ≡ true → EndSound depth (n + 2) bs r → EndSound (suc depth) n (b ∷ c ∷ bs) r
close-step depth n b c bs None e h = subst (λ (xs : List ℕ). StaysOpen (suc depth) xs) (two-are 42 47 b c bs e) (one_closed h)
close-step depth n b c bs (Some m) e h =
    let t = h.total in
    let w = h.within in
    let s = h.some in
    record {
      len = suc (suc h.len);
      total = omega arith;
      closes = subst (λ (xs : List ℕ). Closes (suc depth) xs) (two-are 42 47 b c (take h.len bs) e) (close_one h.closes);
      some = omega arith;
      within = omega arith;
    }

open-step : (depth n b c : ℕ) (bs : List ℕ) (r : Option ℕ) → opens_comment (b ∷ c ∷ bs) ≡ true → EndSound (suc depth) (n + 2) bs r → EndSound depth n (b ∷ c ∷ bs) r
open-step depth n b c bs None e h = subst (λ (xs : List ℕ). StaysOpen depth xs) (two-are 47 42 b c bs e) (one_opened h)
open-step depth n b c bs (Some m) e h =
    let t = h.total in
    let w = h.within in
    let s = h.some in
    record {
      len = suc (suc h.len);
      total = omega arith;
      closes = subst (λ (xs : List ℕ). Closes depth xs) (two-are 47 42 b c (take h.len bs) e) (open_one h.closes);
      some = omega arith;
      within = omega arith;
    }

-- only the first two bytes tell
other-closes : (depth len b c : ℕ) (bs : List ℕ) → 2 ≤ len → closes_comment (b ∷ c ∷ bs) ≡ false → opens_comment (b ∷ c ∷ bs) ≡ false → Closes depth (take len (c ∷ bs)) → Closes depth (b ∷ take len (c ∷ bs))
other-closes depth zero b c bs l e f h = absurd (omega arith)
other-closes depth (suc len) b c bs l e f h = other_byte e f h

other-step : (depth n b c : ℕ) (bs : List ℕ) (r : Option ℕ) → closes_comment (b ∷ c ∷ bs) ≡ false → opens_comment (b ∷ c ∷ bs) ≡ false → EndSound depth (n + 1) (c ∷ bs) r → EndSound depth n (b ∷ c ∷ bs) r
other-step depth n b c bs None e f h = another_byte e f h
other-step depth n b c bs (Some m) e f h =
    let t = h.total in
    let w = h.within in
    let s = h.some in
    record { len = suc h.len; total = omega arith; closes = other-closes depth h.len b c bs s e f h.closes; some = omega arith; within = omega arith }

less-one : (depth n b c : ℕ) (bs : List ℕ) → (depth == 0) ≡ false → closes_comment (b ∷ c ∷ bs) ≡ true → EndSound (depth - 1) (n + 2) bs (comment_end (depth - 1) (n + 2) bs) → EndSound depth n (b ∷ c ∷ bs) (comment_end (depth - 1) (n + 2) bs)
less-one zero n b c bs z e h = absurd (eqb-false 0 0 z refl)
less-one (suc d) n b c bs z e h =
    let k : suc d - 1 ≡ d = omega arith in
    close-step d n b c bs (comment_end (suc d - 1) (n + 2) bs) e (subst (λ (i : ℕ). EndSound i (n + 2) bs (comment_end (suc d - 1) (n + 2) bs)) k h)

pub comment-sound : (depth n : ℕ) (bs : List ℕ) → EndSound depth n bs (comment_end depth n bs)
comment-sound depth n [] = to_the_end
comment-sound depth n (b ∷ []) = another_byte (and_right (b == 42) false refl) (and_right (b == 47) false refl) to_the_end
comment-sound depth n (b ∷ c ∷ bs) =
    let back = comment-sound (depth - 1) (n + 2) bs in
    let deeper = subst (λ (d : ℕ). EndSound d (n + 2) bs (comment_end (depth + 1) (n + 2) bs)) (add-one depth) (comment-sound (depth + 1) (n + 2) bs) in
    let near = comment-sound depth (n + 1) (c ∷ bs) in
    cond_both (closes_comment (b ∷ c ∷ bs)) _ _ (EndSound depth n (b ∷ c ∷ bs))
    (λ e. cond_both (depth == 0) (Some (n + 2)) (comment_end (depth - 1) (n + 2) bs) (EndSound depth n (b ∷ c ∷ bs)) (λ z. last-step depth n b c bs e z) (λ z. less-one depth n b c bs z e back))
    (λ e. cond_both (opens_comment (b ∷ c ∷ bs)) (comment_end (depth + 1) (n + 2) bs) (comment_end depth (n + 1) (c ∷ bs)) (EndSound depth n (b ∷ c ∷ bs))
    (λ f. open-step depth n b c bs (comment_end (depth + 1) (n + 2) bs) f deeper)
    (λ f. other-step depth n b c bs (comment_end depth (n + 1) (c ∷ bs)) e f near))

-- ---- what closes is read

pub comment-reads : (depth n : ℕ) (bytes rest : List ℕ) → Closes depth bytes → comment_end depth n (bytes ++ rest) ≡ Some (n + length bytes)
comment-reads depth n bytes rest last = refl
comment-reads depth n bytes rest (close_one {n = d} {bs = bs} h) =
    let k : suc d - 1 ≡ d = omega arith in
    let z : (suc d == 0) ≡ false = ne_eqb (suc d) 0 (λ e. omega arith) in
    let sum : n + 2 + length bs ≡ n + suc (suc (length bs)) = omega arith in
    let e : comment_end (suc d) n (42 ∷ 47 ∷ (bs ++ rest)) ≡ comment_end (suc d - 1) (n + 2) (bs ++ rest) = rw z refl in
    e ∙ (ap (λ i. comment_end i (n + 2) (bs ++ rest)) k ∙ (comment-reads d (n + 2) bs rest h ∙ ap Some sum))
comment-reads depth n bytes rest (open_one {n = d} {bs = bs} h) =
    let sum : n + 2 + length bs ≡ n + suc (suc (length bs)) = omega arith in
    ap (λ i. comment_end i (n + 2) (bs ++ rest)) (add-one d) ∙ (comment-reads (suc d) (n + 2) bs rest h ∙ ap Some sum)
comment-reads depth n bytes rest (other_byte {n = d} {b = b} {bs = []} e f h) = elim h [ ]
comment-reads depth n bytes rest (other_byte {n = d} {b = b} {bs = x ∷ bs} e f h) =
    let sum : n + 1 + length (x ∷ bs) ≡ n + suc (length (x ∷ bs)) = omega arith in
    let k : comment_end d n (b ∷ x ∷ (bs ++ rest)) ≡ comment_end d (n + 1) (x ∷ (bs ++ rest)) = rw (e, f) refl in
    k ∙ (comment-reads d (n + 1) (x ∷ bs) rest h ∙ ap Some sum)

pub comment-open : (depth n : ℕ) (bytes : List ℕ) → StaysOpen depth bytes → comment_end depth n bytes ≡ None
comment-open depth n bytes to_the_end = refl
comment-open depth n bytes (one_closed {n = d} {bs = bs} h) =
    let k : suc d - 1 ≡ d = omega arith in
    let z : (suc d == 0) ≡ false = ne_eqb (suc d) 0 (λ e. omega arith) in
    let e : comment_end (suc d) n (42 ∷ 47 ∷ bs) ≡ comment_end (suc d - 1) (n + 2) bs = rw z refl in
    e ∙ (ap (λ i. comment_end i (n + 2) bs) k ∙ comment-open d (n + 2) bs h)
comment-open depth n bytes (one_opened {n = d} {bs = bs} h) = ap (λ i. comment_end i (n + 2) bs) (add-one d) ∙ comment-open (suc d) (n + 2) bs h
comment-open depth n bytes (another_byte {n = d} {b = b} {bs = []} e f h) = refl
comment-open depth n bytes (another_byte {n = d} {b = b} {bs = x ∷ bs} e f h) =
    let k : comment_end d n (b ∷ x ∷ bs) ≡ comment_end d (n + 1) (x ∷ bs) = rw (e, f) refl in
    k ∙ comment-open d (n + 1) (x ∷ bs) h
