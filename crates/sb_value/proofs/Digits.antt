-- One more digit of a number, up to a cap.
use Rattle.std.proofs.Common.{◌≡◌, ℕ, ◌+◌, ◌-◌, ◌*◌, ◌<◌, ◌≤◌, min, true, ◌&&◌, List, length, take, get_or, refl, sym, ap, ◌∙◌, arith, lt-ltb, le-ltb, le-leb}
use Rattle.std.specs.Char.{digit_value, is_ascii_digit}
use Rattle.std.specs.List.{list_all}
use Rattle.std.specs.Str.Parse.{digits_value}
use Rattle.std.proofs.lemmas.Int.Digits.{digits_value_more}
use Rattle.std.proofs.lemmas.List.Folds.{list_all_more}

digit_value-digit : (d : ℕ) → 48 ≤ d → d ≤ 57 → digit_value d ≡ d - 48
digit_value-digit d low high = rw (le-ltb d 48 low, lt-ltb d 58 (omega arith)) refl

pub is_digit-between : (d : ℕ) → 48 ≤ d → d ≤ 57 → is_ascii_digit d ≡ true
is_digit-between d low high = rw (le-leb 48 d low, le-leb d 57 high) refl

capped : (v m n d cap : ℕ) → n ≡ min v cap → m ≡ min (n * 10 + d) cap → m ≡ min (v * 10 + d) cap
capped v m n d cap e f = omega arith

pub size-more : (digits : List ℕ) (i d size next cap : ℕ) → i < length digits → get_or digits i 0 ≡ d → 48 ≤ d → d ≤ 57 → size ≡ min (digits_value 10 (take i digits)) cap → next ≡ min (size * 10 + (d - 48)) cap
    → next ≡ min (digits_value 10 (take (i + 1) digits)) cap
size-more digits i d size next cap within is low high e f =
    let v : digit_value (get_or digits i 0) ≡ d - 48 = ap digit_value is ∙ digit_value-digit d low high in
    let more : digits_value 10 (take (i + 1) digits) ≡ digits_value 10 (take i digits) * 10 + (d - 48) =
    digits_value_more 10 digits i within ∙ ap (λ x. digits_value 10 (take i digits) * 10 + x) v in
    capped (digits_value 10 (take i digits)) next size (d - 48) cap e f ∙ ap (λ x. min x cap) (sym more)

pub digits-more : (digits : List ℕ) (i d : ℕ) → i < length digits → get_or digits i 0 ≡ d → 48 ≤ d → d ≤ 57 → list_all is_ascii_digit (take i digits) ≡ true → list_all is_ascii_digit (take (i + 1) digits) ≡ true
digits-more digits i d within is low high all =
    list_all_more is_ascii_digit digits i 0 within ∙ (λ j. all j && (ap is_ascii_digit is ∙ is_digit-between d low high) j)
