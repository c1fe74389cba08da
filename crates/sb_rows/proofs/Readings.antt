-- What is printed reads back.
use Rattle.std.proofs.Common.{◌≡◌, ◌∙◌, ℕ, suc, ◌-◌, ◌^◌, ◌<◌, ◌≤◌, Bool, true, false, not, ◌&&◌, nat_eq, nat_le, List, [], ◌∷◌, ◌++◌, Ok, pos, negsuc, ℤ, refl, sym, ap, subst, arith, leb-true, ne_eqb, rules, lit<}
use Rattle.std.proofs.lemmas.Bool.{and_parts, le-leb}
use Rattle.std.specs.Bool.{IsTrue}
use Rattle.std.proofs.lemmas.Fmt.{digits_decimal}
use Rattle.std.proofs.lemmas.List.{append_assoc, append-nil}
use Rattle.std.proofs.lemmas.List.Folds.{list_all-append}
use Rattle.std.proofs.lemmas.List.Sums.{fold-append, list_all-from_AllPass}
use Rattle.std.proofs.lemmas.Str.Parse.{numerals_by_value}
use Rattle.std.specs.Char.{is_ascii_digit}
use Rattle.std.specs.Fmt.{decimal, signed_decimal}
use Rattle.std.specs.List.{fold, flat_map, list_all}
use Rattle.sb_value.specs.declared.value.Value.{Value}
use Rattle.sb_value.specs.declared.value.Value.TheVariants.{Int, Text}
use Rattle.sb_value.specs.Laws.{IsInRange, LiteralsGiveValuesBack}
use Rattle.sb_value.specs.Literal.{doubled, value_text, literal_value}
use Rattle.sb_value.specs.Printable.{is_printable}
use Rattle.sb_rows.specs.Reading.{Reading, value_or_zero, open_value, with_byte}
use mir.Syntax.{w64}
use mir.Val.{SFits}
use Rattle.sb_rows.specs.RowText.{has_no_newline}

-- ---- integers

no_digit : (d c : ℕ) → is_ascii_digit d ≡ true → c < 48 → nat_eq d c ≡ false
no_digit d c h low = let least : 48 ≤ d = leb-true 48 d (and_parts (nat_le 48 d) (nat_le d 57) h).0 in ne_eqb d c (λ e. absurd (omega arith))

module _ (rows : List (List Value)) (row : List Value) where
  abbrev reads : List ℕ → Bool → Reading
  reads literal quoted = record { rows = rows; row = row; literal = literal; quoted = quoted }

  digit-read : (literal : List ℕ) (d : ℕ) → is_ascii_digit d ≡ true → with_byte (reads literal false) d ≡ reads (literal ++ d ∷ []) false
  digit-read literal d h = rw (no_digit d 44 h (lit< tt), no_digit d 10 h (lit< tt), no_digit d 39 h (lit< tt)) refl

  digits-read : (literal digits : List ℕ) → list_all is_ascii_digit digits ≡ true → fold with_byte (reads literal false) digits ≡ reads (literal ++ digits) false
  digits-read literal [] h = ap (λ l. reads l false) (sym (append-nil literal))
  digits-read literal (d ∷ digits) h =
      let parts = and_parts (is_ascii_digit d) (list_all is_ascii_digit digits) h in
      ap (λ r. fold with_byte r digits) (digit-read literal d parts.0)
      ∙ digits-read (literal ++ d ∷ []) digits parts.1
      ∙ ap (λ l. reads l false) (append_assoc literal (d ∷ []) digits)

all_digits : (n : ℕ) → n < 2 ^ 64 → list_all is_ascii_digit (decimal n) ≡ true
all_digits n h = digits_decimal (numerals_by_value (λ ds. list_all is_ascii_digit ds ≡ true) (search rules)) n h

positive_below : (n : ℕ) → IsInRange (Int (pos n)) → n < 2 ^ 64
positive_below n h = let most : n ≤ 2 ^ 63 - 1 = leb-true n (2 ^ 63 - 1) h in omega arith

negative_below : (n : ℕ) → IsInRange (Int (negsuc n)) → suc n < 2 ^ 64
negative_below n h = let most : n ≤ 2 ^ 63 - 1 = leb-true n (2 ^ 63 - 1) (and_parts (nat_le n (2 ^ 63 - 1)) true h).0 in omega arith

-- a sign and digits, which a comma or a newline isn't
integer-read : (rows : List (List Value)) (row : List Value) (z : ℤ) → IsInRange (Int z) → fold with_byte (reads rows row [] false) (signed_decimal z) ≡ reads rows row (signed_decimal z) false
integer-read rows row (pos n) h = digits-read rows row [] (decimal n) (all_digits n (positive_below n h))
integer-read rows row (negsuc n) h = digits-read rows row (45 ∷ []) (decimal (suc n)) (all_digits (suc n) (negative_below n h))

-- ---- texts

doubled-quote : (b : ℕ) → nat_eq b 39 ≡ true → doubled b ≡ 39 ∷ 39 ∷ []
doubled-quote b is = rw is refl

doubled-plain : (b : ℕ) → nat_eq b 39 ≡ false → doubled b ≡ b ∷ []
doubled-plain b is = rw is refl

module _ (rows : List (List Value)) (row : List Value) where
  quoted-byte : (literal : List ℕ) (b : ℕ) (is_quote : Bool) → nat_eq b 39 ≡ is_quote → fold with_byte (reads rows row literal true) (doubled b) ≡ reads rows row (literal ++ doubled b) true
  quoted-byte literal b true is =
      ap (fold with_byte (reads rows row literal true)) (doubled-quote b is)
      ∙ ap (λ l. reads rows row l true) (append_assoc literal (39 ∷ []) (39 ∷ []) ∙ ap (λ d. literal ++ d) (sym (doubled-quote b is)))
  quoted-byte literal b false is =
      ap (fold with_byte (reads rows row literal true)) (doubled-plain b is)
      ∙ ap (λ q. reads rows row (literal ++ b ∷ []) (not q)) is
      ∙ ap (λ d. reads rows row (literal ++ d) true) (sym (doubled-plain b is))

  quoted-read : (literal bytes : List ℕ) → fold with_byte (reads rows row literal true) (flat_map doubled bytes) ≡ reads rows row (literal ++ flat_map doubled bytes) true
  quoted-read literal [] = ap (λ l. reads rows row l true) (sym (append-nil literal))
  quoted-read literal (b ∷ bytes) =
      fold-append with_byte (reads rows row literal true) (doubled b) (flat_map doubled bytes)
      ∙ ap (λ r. fold with_byte r (flat_map doubled bytes)) (quoted-byte literal b (nat_eq b 39) refl)
      ∙ quoted-read (literal ++ doubled b) bytes
      ∙ ap (λ l. reads rows row l true) (append_assoc literal (doubled b) (flat_map doubled bytes))

  text-read : (bytes : List ℕ) → fold with_byte (reads rows row [] false) (value_text (Text bytes)) ≡ reads rows row (value_text (Text bytes)) false
  text-read bytes =
      fold-append with_byte (reads rows row (39 ∷ []) true) (flat_map doubled bytes) (39 ∷ [])
      ∙ ap (λ r. with_byte r 39) (quoted-read (39 ∷ []) bytes)

-- ---- values

value-read : (rows : List (List Value)) (row : List Value) (v : Value) → IsInRange v → fold with_byte (reads rows row [] false) (value_text v) ≡ reads rows row (value_text v) false
value-read rows row (Int z) h = integer-read rows row z h
value-read rows row (Text bytes) h = text-read rows row bytes

value_opened : (literal : List ℕ) (v : Value) → literal_value literal ≡ Ok v → open_value literal ≡ v ∷ []
value_opened [] v h = cc
value_opened (b ∷ bytes) v h = ap (λ r. value_or_zero r ∷ []) h

-- a value and the comma behind it are one value more in the open row
pub value_ended : LiteralsGiveValuesBack → (rows : List (List Value)) (row : List Value) (v : Value) → IsInRange v
    → fold with_byte (reads rows row [] false) (value_text v ++ 44 ∷ []) ≡ reads rows (row ++ v ∷ []) [] false
value_ended law rows row v h =
    fold-append with_byte (reads rows row [] false) (value_text v) (44 ∷ [])
    ∙ ap (λ r. with_byte r 44) (value-read rows row v h)
    ∙ ap (λ l. reads rows (row ++ l) [] false) (value_opened (value_text v) v (law v h))

-- ---- lines

digits_line : (digits : List ℕ) → list_all is_ascii_digit digits ≡ true → has_no_newline digits ≡ true
digits_line [] h = refl
digits_line (d ∷ digits) h =
    let parts = and_parts (is_ascii_digit d) (list_all is_ascii_digit digits) h in
    rw (no_digit d 10 parts.0 (lit< tt)) (digits_line digits parts.1)

no_print : (b : ℕ) → is_printable b ≡ true → nat_eq b 10 ≡ false
no_print b h = let least : 32 ≤ b = leb-true 32 b (and_parts (nat_le 32 b) (nat_le b 126) h).0 in ne_eqb b 10 (λ e. absurd (omega arith))

doubled_line : (b : ℕ) (is_quote : Bool) → nat_eq b 39 ≡ is_quote → is_printable b ≡ true → has_no_newline (doubled b) ≡ true
doubled_line b true is h = ap has_no_newline (doubled-quote b is)
doubled_line b false is h = ap has_no_newline (doubled-plain b is) ∙ rw (no_print b h) refl

bytes_line : (bytes : List ℕ) → list_all is_printable bytes ≡ true → has_no_newline (flat_map doubled bytes ++ 39 ∷ []) ≡ true
bytes_line [] h = refl
bytes_line (b ∷ bytes) h =
    let parts = and_parts (is_printable b) (list_all is_printable bytes) h in
    ap has_no_newline (append_assoc (doubled b) (flat_map doubled bytes) (39 ∷ []))
    ∙ list_all-append (λ c. not (nat_eq c 10)) (doubled b) (flat_map doubled bytes ++ 39 ∷ [])
    ∙ rw (doubled_line b (nat_eq b 39) refl parts.0) (bytes_line bytes parts.1)

-- the text of a value is of one line
pub value_line : (v : Value) → IsInRange v → has_no_newline (value_text v) ≡ true
value_line (Int (pos n)) h = digits_line (decimal n) (all_digits n (positive_below n h))
value_line (Int (negsuc n)) h = digits_line (decimal (suc n)) (all_digits (suc n) (negative_below n h))
value_line (Text bytes) h = bytes_line bytes (list_all-from_AllPass is_printable bytes h.1)

-- an integer of 64 bits is in its range
pub integers_fit : (z : ℤ) → SFits w64 z → IsInRange (Int z)
integers_fit (pos n) h = let low : n ≤ 2 ^ 63 - 1 = omega arith in subst (λ (b : Bool). IsTrue b) (sym (le-leb n (2 ^ 63 - 1) low)) refl
integers_fit (negsuc n) h = let low : n ≤ 2 ^ 63 - 1 = omega arith in subst (λ (b : Bool). IsTrue (b && true)) (sym (le-leb n (2 ^ 63 - 1) low)) refl
