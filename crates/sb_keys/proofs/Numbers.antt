-- Numbers of at most nine digits, as the library reads them.
use Rattle.std.proofs.Common.{◌≡◌, ◌≢◌, ◌∙◌, ℕ, ◌^◌, ◌<◌, ◌≤◌, Bool, true, false, ◌&&◌, cond, List, [], ◌∷◌, length, get_or, Some, None, Result, Ok, Err, refl, sym, ap, arith, le-leb}
use Rattle.std.proofs.Math.Nat.{pow-le-pow_right}
use Rattle.std.proofs.lemmas.Bool.{false≢true, leb-true}
use Rattle.std.proofs.lemmas.Fmt.{IsAscii-from_digits}
use Rattle.std.proofs.lemmas.Int.Digits.{digits_value-lt}
use Rattle.std.proofs.lemmas.Str.{IsUtf8-from_ascii}
use Rattle.std.proofs.lemmas.Str.Parse.{IsNumeralModel, numerals_by_value, parse_plain, tells_all_ascii_digits}
use Rattle.std.specs.Char.{is_ascii_digit}
use Rattle.std.specs.List.{list_all}
use Rattle.std.specs.Prelude.{nat_le}
use Rattle.std.specs.Result.{OkIff, result_ok}
use Rattle.std.specs.Str.{IsUtf8, all_ascii_digits}
use Rattle.std.specs.Str.Parse.{ParsesUnsigned, digits_value}
use Rattle.sb_keys.specs.Text.{number_of}

numerals : IsNumeralModel (λ ds. all_ascii_digits ds ≡ true) (digits_value 10)
numerals = numerals_by_value (λ ds. all_ascii_digits ds ≡ true) tells_all_ascii_digits

same-test : (ds : List ℕ) → list_all is_ascii_digit ds ≡ all_ascii_digits ds
same-test [] = refl
same-test (d ∷ ds) = λ i. is_ascii_digit d && same-test ds i

-- it is a number
record IsFew (ds : List ℕ) : Type 0 where
  some : 1 ≤ length ds
  few : length ds ≤ 9
  digits : all_ascii_digits ds ≡ true

small : (ds : List ℕ) → IsFew ds → digits_value 10 ds < 2 ^ 32
small ds is =
    let below : digits_value 10 ds < 10 ^ length ds = digits_value-lt 10 ds (numerals.to ds is.digits) in
    let most : 10 ^ length ds ≤ 10 ^ 9 = pow-le-pow_right {n = 10} (omega arith) {i = length ds} {j = 9} is.few in
    omega (arith, below, most)

is-number : (ds : List ℕ) → IsFew ds → number_of ds ≡ Some (digits_value 10 ds)
is-number ds is = rw (le-leb 1 (length ds) is.some, le-leb (length ds) 9 is.few, same-test ds, is.digits)

no-number : (ds : List ℕ) → (IsFew ds → ⊥) → number_of ds ≡ None
no-number ds never = by (nat_le 1 (length ds)) (nat_le (length ds) 9) (list_all is_ascii_digit ds) refl refl refl
  where
    by : (a b c : Bool) → nat_le 1 (length ds) ≡ a → nat_le (length ds) 9 ≡ b → list_all is_ascii_digit ds ≡ c → cond (a && b && c) (Some (digits_value 10 ds)) None ≡ None
    by true true true p q r = absurd (never (record { some = leb-true 1 (length ds) p; few = leb-true (length ds) 9 q; digits = sym (same-test ds) ∙ r }))
    by true true false p q r = refl
    by true false c p q r = refl
    by false b c p q r = refl

-- a number's bytes are a text
pub no-text : (ds : List ℕ) → (IsUtf8 ds → ⊥) → number_of ds ≡ None
no-text ds never = no-number ds (λ is. never (IsUtf8-from_ascii ds (IsAscii-from_digits ds (numerals.to ds is.digits))))

-- none begins with a plus
pub no-plus : (ds : List ℕ) → get_or ds 0 0 ≡ 43 → number_of ds ≡ None
no-plus [] plus = refl
no-plus (d ∷ ds) plus = no-number (d ∷ ds) (λ is. absurd (false≢true (sym (λ i. is_ascii_digit (plus i) && all_ascii_digits ds) ∙ is.digits)))

-- what the library reads where there is no plus
pub read-number : {E : Type 0} (ds : List ℕ) (read : Result ℕ E) → ParsesUnsigned 32 10 ds read → get_or ds 0 0 ≢ 43 → length ds ≤ 9 → result_ok read ≡ number_of ds
read-number {E = E} ds read parses plain few = by read (parse_plain numerals 32 ds read parses plain)
  where
    by : (r : Result ℕ E) → OkIff r ((all_ascii_digits ds ≡ true) × (0 < length ds) × (digits_value 10 ds < 2 ^ 32)) (digits_value 10 ds) → result_ok r ≡ number_of ds
    by (Ok n) h = ap Some h.1 ∙ sym (is-number ds (record { some = h.0.1; few = few; digits = h.0.0 }))
    by (Err e) h = sym (no-number ds (λ is. h (is.digits, is.some, small ds is)))
