-- The text of a value reads back as the value.
use Rattle.std.proofs.lemmas.Bool.{and_parts}
use Rattle.std.proofs.Common.{◌≡◌, ℕ, suc, ◌-◌, ◌^◌, ◌<◌, ◌≤◌, Bool, true, false, nat_eq, nat_le, List, [], ◌∷◌, ◌++◌, length, Option, Some, Ok, pos, negsuc, neg_ℤ, refl, sym, ap, ◌∙◌, arith, length-append, ne_eqb, le-ltb, leb-true, eqb-true, rules, lit<, ℤ}
use Rattle.std.specs.Option.{option_map}
use Rattle.std.specs.List.{flat_map, list_all, AllPass}
use Rattle.std.specs.Char.{is_ascii_digit}
use Rattle.std.specs.Fmt.{decimal}
use Rattle.std.specs.Str.Parse.{digits_value}
use Rattle.std.proofs.lemmas.Fmt.{decimal_is_IsNumeral, decimal_nonempty, digits_decimal}
use Rattle.std.proofs.lemmas.Str.Parse.{numerals_by_value}
use Rattle.sb_value.specs.declared.value.Value.TheVariants.{Int, Text}
use Rattle.sb_value.specs.Printable.{is_printable}
use Rattle.sb_value.specs.Literal.{doubled, text_of, unsigned_of, literal_of, within_limits, limited, value_text, literal_value}
use Rattle.sb_value.specs.Laws.{IsInRange, LiteralsGiveValuesBack}

-- ---- texts

-- a byte that is no quote is read as itself, where something stands behind it
text_of-plain : (b : ℕ) (bytes : List ℕ) → nat_eq b 39 ≡ false → is_printable b ≡ true → 0 < length bytes → text_of (b ∷ bytes) ≡ option_map (λ t. b ∷ t) (text_of bytes)
text_of-plain b [] other shown some = absurd (omega arith)
text_of-plain b (c ∷ bytes) other shown some = rw (other, shown) refl

length-ends : (bytes : List ℕ) → 0 < length (flat_map doubled bytes ++ 39 ∷ [])
length-ends bytes = omega (arith, length-append (flat_map doubled bytes) (39 ∷ []))

eqb-is : (b c : ℕ) → nat_eq b c ≡ true → b ≡ c
eqb-is b c h = eqb-true b c h

doubled-quote : (b : ℕ) → nat_eq b 39 ≡ true → doubled b ≡ 39 ∷ 39 ∷ []
doubled-quote b is = rw is refl

doubled-plain : (b : ℕ) → nat_eq b 39 ≡ false → doubled b ≡ b ∷ []
doubled-plain b is = rw is refl

text_of-byte : (b : ℕ) (bytes : List ℕ) (is_quote : Bool) → nat_eq b 39 ≡ is_quote → is_printable b ≡ true
    → text_of (flat_map doubled bytes ++ 39 ∷ []) ≡ Some bytes → text_of ((doubled b ++ flat_map doubled bytes) ++ 39 ∷ []) ≡ Some (b ∷ bytes)
text_of-byte b bytes true is shown h =
    ap (λ d. text_of ((d ++ flat_map doubled bytes) ++ 39 ∷ [])) (doubled-quote b is) ∙ ap (option_map (λ t. 39 ∷ t)) h ∙ ap (λ x. Some (x ∷ bytes)) (sym (eqb-is b 39 is))
text_of-byte b bytes false is shown h =
    ap (λ d. text_of ((d ++ flat_map doubled bytes) ++ 39 ∷ [])) (doubled-plain b is)
    ∙ text_of-plain b (flat_map doubled bytes ++ 39 ∷ []) is shown (length-ends bytes) ∙ ap (option_map (λ t. b ∷ t)) h

pub text_of-ends : (bytes : List ℕ) → AllPass is_printable bytes → text_of (flat_map doubled bytes ++ 39 ∷ []) ≡ Some bytes
text_of-ends [] all = refl
text_of-ends (b ∷ bytes) all = text_of-byte b bytes (nat_eq b 39) refl (all 0 b (omega arith)) (text_of-ends bytes (λ k d h. all (suc k) d (omega arith)))

texts_give_back : (bytes : List ℕ) → length bytes ≤ 255 → AllPass is_printable bytes → literal_value (value_text (Text bytes)) ≡ Ok (Text bytes)
texts_give_back bytes few all = ap (λ t. limited (option_map Text t)) (text_of-ends bytes all) ∙ rw (le-ltb 255 (length bytes) few) refl

-- ---- integers

all_digits : (n : ℕ) → n < 2 ^ 64 → list_all is_ascii_digit (decimal n) ≡ true
all_digits n h = digits_decimal (numerals_by_value (λ ds. list_all is_ascii_digit ds ≡ true) (search rules)) n h

unsigned_of-decimal : (ds : List ℕ) (n : ℕ) → 0 < length ds → list_all is_ascii_digit ds ≡ true → digits_value 10 ds ≡ n → unsigned_of ds ≡ Some n
unsigned_of-decimal [] n some all value = absurd (omega arith)
unsigned_of-decimal (d ∷ ds) n some all value = rw all (ap Some value)

no_digit : (d c : ℕ) → is_ascii_digit d ≡ true → c < 48 → nat_eq d c ≡ false
no_digit d c h low = let least : 48 ≤ d = leb-true 48 d (and_parts (nat_le 48 d) (nat_le d 57) h).0 in ne_eqb d c (λ e. absurd (omega arith))

literal_of-digits : (ds : List ℕ) (n : ℕ) → 0 < length ds → list_all is_ascii_digit ds ≡ true → digits_value 10 ds ≡ n → literal_of ds ≡ Some (Int (pos n))
literal_of-digits [] n some all value = absurd (omega arith)
literal_of-digits (d ∷ ds) n some all value =
    let first : is_ascii_digit d ≡ true = (and_parts (is_ascii_digit d) (list_all is_ascii_digit ds) all).0 in
    rw (no_digit d 39 first (lit< tt), no_digit d 45 first (lit< tt)) (ap (option_map (λ m. Int (pos m))) (unsigned_of-decimal (d ∷ ds) n some all value))

within : (z : ℤ) → IsInRange (Int z) → within_limits (Int z) ≡ Ok (Int z)
within z h = rw h refl

positive_below : (n : ℕ) → IsInRange (Int (pos n)) → n < 2 ^ 64
positive_below n h = let most : n ≤ 2 ^ 63 - 1 = leb-true n (2 ^ 63 - 1) h in omega arith

negative_below : (n : ℕ) → IsInRange (Int (negsuc n)) → suc n < 2 ^ 64
negative_below n h = let most : n ≤ 2 ^ 63 - 1 = leb-true n (2 ^ 63 - 1) (and_parts (nat_le n (2 ^ 63 - 1)) true h).0 in omega arith

decimals_read : (n : ℕ) → n < 2 ^ 64 → unsigned_of (decimal n) ≡ Some n
decimals_read n h = unsigned_of-decimal (decimal n) n (decimal_nonempty n h) (all_digits n h) (decimal_is_IsNumeral n h).1

pub literals_give_values_back : LiteralsGiveValuesBack
literals_give_values_back (Text bytes) h = texts_give_back bytes h.0 h.1
literals_give_values_back (Int (pos n)) h =
    let small : n < 2 ^ 64 = positive_below n h in
    ap limited (literal_of-digits (decimal n) n (decimal_nonempty n small) (all_digits n small) (decimal_is_IsNumeral n small).1) ∙ within (pos n) h
literals_give_values_back (Int (negsuc n)) h =
    ap (λ (m : Option ℕ). limited (option_map (λ k. Int (neg_ℤ (pos k))) m)) (decimals_read (suc n) (negative_below n h)) ∙ within (negsuc n) h
