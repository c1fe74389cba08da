-- What closes a quote: the function against the doubled quotes.
use Rattle.std.proofs.Common.{◌≡◌, ◌≤◌, ◌+◌, ◌==◌, ℕ, suc, Bool, true, false, cond, List, [], ◌∷◌, ◌++◌, length, drop, take, Option, Some, None, refl, ap, sym, ◌∙◌, arith}
use Rattle.std.proofs.lemmas.Bool.{eqb-true, eq-eqb, cond_both}
use Rattle.sb_postgres.specs.Bytes.{begins}
use Rattle.sb_postgres.specs.Pieces.{doubled}
use Rattle.sb_postgres.specs.Scan.{closing}

-- the bytes up to the closing quote
pub record Closed (quote n : ℕ) (bs : List ℕ) (m : ℕ) : Type 0 where
  pub value : List ℕ
  pub len : ℕ
  pub total : m ≡ n + len
  pub spelled : take len bs ≡ doubled quote value ++ quote ∷ []
  pub ends : begins (λ b. b == quote) (drop len bs) ≡ false
  pub some : 1 ≤ len
  pub within : len ≤ length bs

-- there is none
pub record Open (quote : ℕ) (bs : List ℕ) : Type 0 where
  pub value : List ℕ
  pub spelled : bs ≡ doubled quote value

abbrev pub CloseSound : ℕ → ℕ → List ℕ → Option ℕ → Type 0
CloseSound quote n bs (Some m) = Closed quote n bs m
CloseSound quote n bs None = Open quote bs

doubled-quote : (quote : ℕ) (value : List ℕ) → doubled quote (quote ∷ value) ≡ quote ∷ quote ∷ doubled quote value
doubled-quote quote value = rw (eq-eqb quote quote refl) refl

doubled-byte : (quote b : ℕ) (value : List ℕ) → (b == quote) ≡ false → doubled quote (b ∷ value) ≡ b ∷ doubled quote value
doubled-byte quote b value other = rw other refl

closed_now : (quote n b : ℕ) (bs : List ℕ) → (b == quote) ≡ true → begins (λ b. b == quote) bs ≡ false → Closed quote n (b ∷ bs) (n + 1)
closed_now quote n b bs is ended = record { value = []; len = 1; total = refl; spelled = ap (λ x. x ∷ []) (eqb-true b quote is); ends = ended; some = omega arith; within = omega arith }

pair-step : (quote n b c : ℕ) (bs : List ℕ) (r : Option ℕ) → (b == quote) ≡ true → (c == quote) ≡ true → CloseSound quote (n + 2) bs r → CloseSound quote n (b ∷ c ∷ bs) r
pair-step quote n b c bs None is js h =
    let e : b ∷ c ∷ bs ≡ quote ∷ quote ∷ bs = ap (λ x. x ∷ c ∷ bs) (eqb-true b quote is) ∙ ap (λ x. quote ∷ x ∷ bs) (eqb-true c quote js) in
    record { value = quote ∷ h.value; spelled = e ∙ (ap (λ xs. quote ∷ quote ∷ xs) h.spelled ∙ sym (doubled-quote quote h.value)) }
pair-step quote n b c bs (Some m) is js h =
    let e : b ∷ c ∷ take h.len bs ≡ quote ∷ quote ∷ take h.len bs = ap (λ x. x ∷ c ∷ take h.len bs) (eqb-true b quote is) ∙ ap (λ x. quote ∷ x ∷ take h.len bs) (eqb-true c quote js) in
    let t = h.total in
    let w = h.within in
    record {
      value = quote ∷ h.value;
      len = suc (suc h.len);
      total = omega arith;
      spelled = e ∙ (ap (λ xs. quote ∷ quote ∷ xs) h.spelled ∙ ap (λ xs. xs ++ quote ∷ []) (sym (doubled-quote quote h.value)));
      ends = h.ends;
      some = omega arith;
      within = omega arith;
    }

byte-step : (quote n b : ℕ) (bs : List ℕ) (r : Option ℕ) → (b == quote) ≡ false → CloseSound quote (n + 1) bs r → CloseSound quote n (b ∷ bs) r
byte-step quote n b bs None other h = record { value = b ∷ h.value; spelled = ap (λ xs. b ∷ xs) h.spelled ∙ sym (doubled-byte quote b h.value other) }
byte-step quote n b bs (Some m) other h =
    let t = h.total in
    let w = h.within in
    record {
      value = b ∷ h.value;
      len = suc h.len;
      total = omega arith;
      spelled = ap (λ xs. b ∷ xs) h.spelled ∙ ap (λ xs. xs ++ quote ∷ []) (sym (doubled-byte quote b h.value other));
      ends = h.ends;
      some = omega arith;
      within = omega arith;
    }

pub closing-sound : (quote n : ℕ) (bs : List ℕ) → CloseSound quote n bs (closing quote n bs)
closing-sound quote n [] = record { value = []; spelled = refl }
closing-sound quote n (b ∷ []) =
    cond_both (b == quote) (Some (n + 1)) None (CloseSound quote n (b ∷ []))
    (λ is. closed_now quote n b [] is refl)
    (λ other. byte-step quote n b [] None other (record { value = []; spelled = refl }))
closing-sound quote n (b ∷ c ∷ bs) =
    let far = closing-sound quote (n + 2) bs in
    let near = closing-sound quote (n + 1) (c ∷ bs) in
    cond_both (b == quote) (cond (c == quote) (closing quote (n + 2) bs) (Some (n + 1))) (closing quote (n + 1) (c ∷ bs)) (CloseSound quote n (b ∷ c ∷ bs))
    (λ is. cond_both (c == quote) (closing quote (n + 2) bs) (Some (n + 1)) (CloseSound quote n (b ∷ c ∷ bs))
    (λ js. pair-step quote n b c bs (closing quote (n + 2) bs) is js far)
    (λ other. closed_now quote n b (c ∷ bs) is other))
    (λ other. byte-step quote n b (c ∷ bs) (closing quote (n + 1) (c ∷ bs)) other near)

-- ---- what is doubled is read

closes : (quote n : ℕ) (rest : List ℕ) → begins (λ b. b == quote) rest ≡ false → closing quote n (quote ∷ rest) ≡ Some (n + 1)
closes quote n [] e = rw (eq-eqb quote quote refl) refl
closes quote n (c ∷ rest) e = rw (eq-eqb quote quote refl, e) refl

passes : (quote n b : ℕ) (bs : List ℕ) → (b == quote) ≡ false → closing quote n (b ∷ bs) ≡ closing quote (n + 1) bs
passes quote n b [] e = rw e refl
passes quote n b (c ∷ bs) e = rw e refl

pub closing-reads : (quote n : ℕ) (value rest : List ℕ) → begins (λ b. b == quote) rest ≡ false → closing quote n (doubled quote value ++ quote ∷ rest) ≡ Some (n + length (doubled quote value ++ quote ∷ []))
closing-reads quote n [] rest ends = closes quote n rest ends
closing-reads quote n (b ∷ value) rest ends = go (b == quote) refl (closing-reads quote (n + 2) value rest ends) (closing-reads quote (n + 1) value rest ends)
  where
    go : (t : Bool) → (b == quote) ≡ t → closing quote (n + 2) (doubled quote value ++ quote ∷ rest) ≡ Some (n + 2 + length (doubled quote value ++ quote ∷ [])) → closing quote (n + 1) (doubled quote value ++ quote ∷ rest) ≡ Some (n + 1 + length (doubled quote value ++ quote ∷ []))
        → closing quote n (cond t (b ∷ b ∷ doubled quote value) (b ∷ doubled quote value) ++ quote ∷ rest) ≡ Some (n + length (cond t (b ∷ b ∷ doubled quote value) (b ∷ doubled quote value) ++ quote ∷ []))
    go true is far near =
        let sum : n + 2 + length (doubled quote value ++ quote ∷ []) ≡ n + suc (suc (length (doubled quote value ++ quote ∷ []))) = omega arith in
        let e : closing quote n (b ∷ b ∷ (doubled quote value ++ quote ∷ rest)) ≡ closing quote (n + 2) (doubled quote value ++ quote ∷ rest) = rw is refl in
        e ∙ (far ∙ ap Some sum)
    go false is far near =
        let sum : n + 1 + length (doubled quote value ++ quote ∷ []) ≡ n + suc (length (doubled quote value ++ quote ∷ [])) = omega arith in
        passes quote n b (doubled quote value ++ quote ∷ rest) is ∙ (near ∙ ap Some sum)

pub closing-open : (quote n : ℕ) (value : List ℕ) → closing quote n (doubled quote value) ≡ None
closing-open quote n [] = refl
closing-open quote n (b ∷ value) = go (b == quote) refl (closing-open quote (n + 2) value) (closing-open quote (n + 1) value)
  where
    go : (t : Bool) → (b == quote) ≡ t → closing quote (n + 2) (doubled quote value) ≡ None → closing quote (n + 1) (doubled quote value) ≡ None → closing quote n (cond t (b ∷ b ∷ doubled quote value) (b ∷ doubled quote value)) ≡ None
    go true is far near =
        let e : closing quote n (b ∷ b ∷ doubled quote value) ≡ closing quote (n + 2) (doubled quote value) = rw is refl in
        e ∙ far
    go false is far near = passes quote n b (doubled quote value) is ∙ near
