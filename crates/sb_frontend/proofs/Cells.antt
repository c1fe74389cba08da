-- The text of a value is read as what a message has of it, whatever stands behind it.
use Rattle.std.proofs.Common.{◌≡◌, ◌≤◌, ◌<◌, ◌-◌, ◌^◌, ℕ, suc, Bool, true, false, nat_eq, nat_le, List, [], ◌∷◌, ◌++◌, length, take, drop, pos, negsuc, refl, sym, ap, ◌∙◌, arith, take_at, drop_at}
use Rattle.std.proofs.lemmas.Bool.{and_parts, and_from, leb-true, ne_eqb, eqb-true}
use Rattle.std.proofs.lemmas.Fmt.{decimal_is_IsNumeral}
use Rattle.std.proofs.lemmas.List.{append_assoc}
use Rattle.std.proofs.lemmas.Str.Parse.{digit_from_value}
use Rattle.std.specs.Fmt.{decimal}
use Rattle.std.specs.List.{flat_map}
use Rattle.std.specs.Str.Parse.{AllDigits}
use Rattle.sb_value.specs.Laws.{IsInRange}
use Rattle.sb_value.specs.Literal.{doubled, value_text}
use Rattle.sb_value.specs.declared.value.Value.{Value}
use Rattle.sb_value.specs.declared.value.Value.TheVariants.{Int, Text}
use Rattle.sb_postgres.specs.Bytes.{all, begins}
use Rattle.sb_postgres.proofs.Runs.{run-all}
use Rattle.sb_frontend.specs.Cells.{unquoted, with_byte, is_in_number, number_len, cell}
use Rattle.sb_frontend.specs.Rows.{wire_text}

-- what stands behind a value: nothing, a comma or a newline
abbrev pub IsApart : List ℕ → Type 0
IsApart [] = Unit {0}
IsApart (c ∷ cs) = (nat_eq c 39 ≡ false) × (is_in_number c ≡ false)

-- ---- texts

unquoted-other : (b : ℕ) (tail : List ℕ) → nat_eq b 39 ≡ false → 0 < length tail → unquoted (b ∷ tail) ≡ with_byte b (unquoted tail)
unquoted-other b [] e l = absurd (omega arith)
unquoted-other b (c ∷ bs) e l = rw e refl

unquoted-end : (rest : List ℕ) → IsApart rest → unquoted (39 ∷ rest) ≡ ([], rest)
unquoted-end [] h = refl
unquoted-end (c ∷ cs) h = rw h.0 refl

doubled-quote : (b : ℕ) → nat_eq b 39 ≡ true → doubled b ≡ 39 ∷ 39 ∷ []
doubled-quote b is = rw is refl

doubled-plain : (b : ℕ) → nat_eq b 39 ≡ false → doubled b ≡ b ∷ []
doubled-plain b is = rw is refl

some-behind : (xs rest : List ℕ) → 0 < length (xs ++ 39 ∷ rest)
some-behind [] rest = omega arith
some-behind (x ∷ xs) rest = omega arith

unquoted-text : (bytes rest : List ℕ) → IsApart rest → unquoted (flat_map doubled bytes ++ 39 ∷ rest) ≡ (bytes, rest)
unquoted-text [] rest h = unquoted-end rest h
unquoted-text (b ∷ bytes) rest h = go (nat_eq b 39) refl (unquoted-text bytes rest h)
  where
    tail : List ℕ
    tail = flat_map doubled bytes ++ 39 ∷ rest

    go : (q : Bool) → nat_eq b 39 ≡ q → unquoted (flat_map doubled bytes ++ 39 ∷ rest) ≡ (bytes, rest) → unquoted ((doubled b ++ flat_map doubled bytes) ++ 39 ∷ rest) ≡ (b ∷ bytes, rest)
    go true is rec =
        let b-is : b ≡ 39 = eqb-true b 39 is in
        ap (λ d. unquoted ((d ++ flat_map doubled bytes) ++ 39 ∷ rest)) (doubled-quote b is)
        ∙ (ap (with_byte 39) rec ∙ ap (λ c. (c ∷ bytes, rest)) (sym b-is))
    go false is rec =
        ap (λ d. unquoted ((d ++ flat_map doubled bytes) ++ 39 ∷ rest)) (doubled-plain b is)
        ∙ (unquoted-other b (flat_map doubled bytes ++ 39 ∷ rest) is (some-behind (flat_map doubled bytes) rest) ∙ ap (with_byte b) rec)

-- ---- integers

not-apart : (b c : ℕ) → 45 ≤ b → c < 45 → nat_eq b c ≡ false
not-apart b c l low = ne_eqb b c (λ e. absurd (omega arith))

in-number : (b : ℕ) → 45 ≤ b → is_in_number b ≡ true
in-number b l = rw (not-apart b 44 l (omega arith), not-apart b 10 l (omega arith)) refl

digits-in-number : (ds : List ℕ) → AllDigits 10 ds → all is_in_number ds ≡ true
digits-in-number [] h = refl
digits-in-number (d ∷ ds) h =
    let r = digit_from_value d h.0 in
    and_from _ _ (in-number d (omega arith)) (digits-in-number ds h.1)

apart-ends : (rest : List ℕ) → IsApart rest → begins is_in_number rest ≡ false
apart-ends [] h = refl
apart-ends (c ∷ cs) h = h.1

number-read : (ds rest : List ℕ) → all is_in_number ds ≡ true → IsApart rest → (take (number_len (ds ++ rest)) (ds ++ rest) ≡ ds) × (drop (number_len (ds ++ rest)) (ds ++ rest) ≡ rest)
number-read ds rest run h =
    let n : number_len (ds ++ rest) ≡ length ds = run-all is_in_number ds rest run (apart-ends rest h) in
    (ap (λ i. take i (ds ++ rest)) n ∙ take_at ds rest (length ds) refl, ap (λ i. drop i (ds ++ rest)) n ∙ drop_at ds rest (length ds) refl)

-- a number begins with no quote
number-cell : (d : ℕ) (ds rest : List ℕ) → 45 ≤ d → all is_in_number (d ∷ ds) ≡ true → IsApart rest → ((cell (d ∷ ds ++ rest)).0 ≡ d ∷ ds) × ((cell (d ∷ ds ++ rest)).1 ≡ rest)
number-cell d ds rest l run h =
    let r = number-read (d ∷ ds) rest run h in
    let c : cell (d ∷ ds ++ rest) ≡ (take (number_len (d ∷ ds ++ rest)) (d ∷ ds ++ rest), drop (number_len (d ∷ ds ++ rest)) (d ∷ ds ++ rest)) = rw (not-apart d 39 l (omega arith)) refl in
    (ap (λ p. p.0) c ∙ r.0, ap (λ p. p.1) c ∙ r.1)

decimal-cell : (ds rest : List ℕ) → 0 < length ds → AllDigits 10 ds → IsApart rest → ((cell (ds ++ rest)).0 ≡ ds) × ((cell (ds ++ rest)).1 ≡ rest)
decimal-cell [] rest l h a = absurd (omega arith)
decimal-cell (d ∷ ds) rest l h a =
    let r = digit_from_value d h.0 in
    number-cell d ds rest (omega arith) (digits-in-number (d ∷ ds) h) a

negative-cell : (ds rest : List ℕ) → AllDigits 10 ds → IsApart rest → ((cell (45 ∷ ds ++ rest)).0 ≡ 45 ∷ ds) × ((cell (45 ∷ ds ++ rest)).1 ≡ rest)
negative-cell ds rest h a = number-cell 45 ds rest (omega arith) (digits-in-number ds h) a

pub positive_below : (n : ℕ) → IsInRange (Int (pos n)) → n < 2 ^ 64
positive_below n h = let most : n ≤ 2 ^ 63 - 1 = leb-true n (2 ^ 63 - 1) h in omega arith

negative_below : (n : ℕ) → IsInRange (Int (negsuc n)) → suc n < 2 ^ 64
negative_below n h = let most : n ≤ 2 ^ 63 - 1 = leb-true n (2 ^ 63 - 1) (and_parts (nat_le n (2 ^ 63 - 1)) true h).0 in omega arith

-- ---- values

pub value-cell : (v : Value) (rest : List ℕ) → IsInRange v → IsApart rest → ((cell (value_text v ++ rest)).0 ≡ wire_text v) × ((cell (value_text v ++ rest)).1 ≡ rest)
value-cell (Int (pos n)) rest r a =
    let h = decimal_is_IsNumeral n (positive_below n r) in
    decimal-cell (decimal n) rest h.0.0 h.0.1 a
value-cell (Int (negsuc n)) rest r a =
    let h = decimal_is_IsNumeral (suc n) (negative_below n r) in
    negative-cell (decimal (suc n)) rest h.0.1 a
value-cell (Text bytes) rest r a =
    let u : unquoted ((flat_map doubled bytes ++ 39 ∷ []) ++ rest) ≡ (bytes, rest) = ap unquoted (append_assoc (flat_map doubled bytes) (39 ∷ []) rest) ∙ unquoted-text bytes rest a in
    (ap (λ p. p.0) u, ap (λ p. p.1) u)
