-- A line of an output names the tenant and the session that it answers.
use Rattle.std.proofs.Common.{◌≡◌, ◌∙◌, sym, ap, subst, refl, ℕ, ◌^◌, ◌<◌, Bool, true, false, ◌&&◌, ◌==◌, nat_le, not, ◌||◌, cond, List, [], ◌∷◌, ◌++◌, length, Option, Some, None, option_map, append_assoc, eq-eqb, leb-true, eqb-true, arith}
use Rattle.std.specs.Prelude.{decimal, option_and_then}
use Rattle.std.specs.Char.{is_ascii_digit}
use Rattle.std.specs.List.{list_all}
use Rattle.std.specs.Str.{all_ascii_digits}
use Rattle.std.specs.Str.Parse.{digits_value}
use Rattle.std.proofs.lemmas.Bool.{and_parts}
use Rattle.std.proofs.lemmas.Option.{same_Some}
use Rattle.std.proofs.lemmas.Fmt.{decimal-digits_value}
use Rattle.std.proofs.lemmas.Str.Parse.{IsNumeralModel, digits_value_short, numerals_by_value, tells_all_ascii_digits}
use Rattle.sb_wire.specs.Lines.{space, split_space, number_of, number_before, Addressed, addressed_of}

-- ---- a number that is read is written so

numerals : IsNumeralModel (λ ds. all_ascii_digits ds ≡ true) (digits_value 10)
numerals = numerals_by_value (λ ds. all_ascii_digits ds ≡ true) tells_all_ascii_digits

are-digits : (ds : List ℕ) → list_all is_ascii_digit ds ≡ true → all_ascii_digits ds ≡ true
are-digits [] h = refl
are-digits (d ∷ ds) h = let p = and_parts (is_ascii_digit d) (list_all is_ascii_digit ds) h in rw (p.0, are-digits ds p.1) refl

-- what the number is where a test lets it be one
passed : (test : Bool) (v n : ℕ) → cond test (Some v) None ≡ Some n → (test ≡ true) × (v ≡ n)
passed true v n h = (refl, same_Some v n h)
passed false v n h = absurd (let e = h in cc)

-- a number without leading zeros
no-lead : (b : ℕ) (bytes : List ℕ) → (not (b == 48) || (length bytes == 0)) ≡ true → b ≡ 48 → length (b ∷ bytes) ≡ 1
no-lead b bytes h zero = by (b == 48) (eq-eqb b 48 zero) h
  where
    by : (t : Bool) → t ≡ true → (not t || (length bytes == 0)) ≡ true → length (b ∷ bytes) ≡ 1
    by true e k = let none = eqb-true (length bytes) 0 k in omega (arith, none)
    by false e k = absurd (let x = e in cc)

-- the number and a space are read back
record IsRead (n : ℕ) : Type 0 where
  pub back : number_of (decimal n) ≡ Some n
  pub digits : list_all is_ascii_digit (decimal n) ≡ true

number-read : (bytes : List ℕ) (n : ℕ) → number_of bytes ≡ Some n → IsRead n
number-read [] n h = absurd (let e = h in cc)
number-read (b ∷ bytes) n h =
    let test = passed _ _ _ h in
    let first = and_parts (list_all is_ascii_digit (b ∷ bytes) && nat_le (length (b ∷ bytes)) 9) (not (b == 48) || (length bytes == 0)) test.0 in
    let both = and_parts (list_all is_ascii_digit (b ∷ bytes)) (nat_le (length (b ∷ bytes)) 9) first.0 in
    let small : digits_value 10 (b ∷ bytes) < 10 ^ 9 = digits_value_short numerals (b ∷ bytes) 9 (are-digits (b ∷ bytes) both.0) (leb-true (length (b ∷ bytes)) 9 both.1) in
    let same : decimal n ≡ b ∷ bytes =
    ap decimal (sym test.1)
    ∙ decimal-digits_value numerals (b ∷ bytes) (are-digits (b ∷ bytes) both.0) (omega arith) (no-lead b bytes first.1) (omega (arith, small)) in
    record { back = ap number_of same ∙ h; digits = ap (list_all is_ascii_digit) same ∙ both.0 }

-- ---- what stands in front of a space

split-digits : (ds rest : List ℕ) → list_all is_ascii_digit ds ≡ true → split_space (ds ++ space ∷ rest) ≡ Some (ds, rest)
split-digits [] rest h = refl
split-digits (d ∷ ds) rest h =
    let p = and_parts (is_ascii_digit d) (list_all is_ascii_digit ds) h in
    let other : (d == space) ≡ false = by (d == space) refl p.0 in
    let more : split_space (ds ++ space ∷ rest) ≡ Some (ds, rest) = split-digits ds rest p.1 in
    rw (other, more) refl
  where
    by : (t : Bool) → (d == space) ≡ t → is_ascii_digit d ≡ true → (d == space) ≡ false
    by false e k = e
    by true e k = absurd (let x : is_ascii_digit 32 ≡ true = subst (λ (c : ℕ). is_ascii_digit c ≡ true) (eqb-true d 32 e) k in cc)

before-again : (n : ℕ) (rest : List ℕ) → IsRead n → number_before (decimal n ++ space ∷ rest) ≡ Some (n, rest)
before-again n rest is =
    ap (option_and_then (λ p. option_map (λ k. (k, p.1)) (number_of p.0))) (split-digits (decimal n) rest is.digits)
    ∙ ap (option_map (λ k. (k, rest))) is.back

-- ---- the numbers of a line

before-read : (bytes : List ℕ) (p : ℕ × List ℕ) → number_before bytes ≡ Some p → IsRead p.0
before-read bytes p h = by (split_space bytes) h
  where
    number : (q : List ℕ × List ℕ) (o : Option ℕ) → number_of q.0 ≡ o → option_map (λ n. (n, q.1)) o ≡ Some p → IsRead p.0
    number q None e k = absurd (let x = k in cc)
    number q (Some n) e k = subst IsRead (ap (λ (r : ℕ × List ℕ). r.0) (same_Some (n, q.1) p k)) (number-read q.0 n e)

    by : (o : Option (List ℕ × List ℕ)) → option_and_then (λ q. option_map (λ n. (n, q.1)) (number_of q.0)) o ≡ Some p → IsRead p.0
    by None k = absurd (let x = k in cc)
    by (Some q) k = number q (number_of q.0) refl k

-- both numbers of a line are read back
numbers-read : (bytes : List ℕ) (a : Addressed) → addressed_of bytes ≡ Some a → IsRead a.tenant × IsRead a.session
numbers-read bytes a h = by (number_before bytes) refl h
  where
    made : ℕ × List ℕ → ℕ × List ℕ → Addressed
    made t s = record { tenant = t.0; session = s.0; command = s.1 }

    session : (t : ℕ × List ℕ) → IsRead t.0 → (o : Option (ℕ × List ℕ)) → number_before t.1 ≡ o → option_map (λ s. made t s) o ≡ Some a → IsRead a.tenant × IsRead a.session
    session t read None e k = absurd (let x = k in cc)
    session t read (Some s) e k = subst (λ (b : Addressed). IsRead b.tenant × IsRead b.session) (same_Some (made t s) a k) (read, before-read t.1 s e)

    by : (o : Option (ℕ × List ℕ)) → number_before bytes ≡ o → option_and_then (λ t. option_map (λ s. made t s) (number_before t.1)) o ≡ Some a → IsRead a.tenant × IsRead a.session
    by None e k = absurd (let x = k in cc)
    by (Some t) e k = session t (before-read bytes t e) (number_before t.1) refl k

-- and so name it in front of any text
pub named-again : (bytes : List ℕ) (a : Addressed) → addressed_of bytes ≡ Some a → (text : List ℕ)
    → addressed_of ((decimal a.tenant ++ space ∷ decimal a.session) ++ space ∷ text) ≡ Some (record { tenant = a.tenant; session = a.session; command = text })
named-again bytes a h text =
    let read = numbers-read bytes a h in
    ap addressed_of (append_assoc (decimal a.tenant) (space ∷ decimal a.session) (space ∷ text))
    ∙ ap (option_and_then (λ t. option_map (λ s. record { tenant = t.0; session = s.0; command = s.1 }) (number_before t.1))) (before-again a.tenant (decimal a.session ++ space ∷ text) read.0)
    ∙ ap (option_map (λ s. record { tenant = a.tenant; session = s.0; command = s.1 })) (before-again a.session text read.1)
