-- The text of a value is read as that value.
use Rattle.std.proofs.Common.{◌≡◌, ℕ, suc, ◌+◌, ◌-◌, ◌*◌, ◌<◌, ◌≤◌, ◌==◌, Bool, true, false, cond, List, [], ◌∷◌, ◌++◌, length, fold, flat_map, pos, negsuc, refl, sym, ap, ◌∙◌, subst, arith, append-nil, length-append, is_some, ◌&&◌}
use Rattle.std.specs.List.{AllPass, list_all}
use Rattle.std.specs.Prelude.{slice_range}
use Rattle.std.proofs.lemmas.List.Sums.{list_all-from_AllPass}
use Rattle.std.specs.Fmt as fmt
use Rattle.std.specs.Str.Parse.{AllDigits, digits_value_after}
use Rattle.std.specs.Char.{digit_value}
use Rattle.std.proofs.lemmas.Bool.{le-leb, and_from, and_parts, eqb-true}
use Rattle.std.proofs.lemmas.Fmt.{decimal_is_IsNumeral}
use Rattle.std.proofs.lemmas.Str.{digit_value_digit}
use Rattle.std.proofs.lemmas.Str.Parse.{digit_from_value}
use Rattle.std.proofs.lemmas.List.{take_all}
use Rattle.sb_value.specs.Literal as printed
use Rattle.sb_value.specs.Printable.{is_printable}
use Rattle.sb_value.specs.declared.value.Value.{Value}
use Rattle.sb_value.specs.declared.value.Value.TheVariants.{Int, Text}
use Rattle.sb_syntax.specs.declared.kind.TokenKind.{TokenKind}
use Rattle.sb_syntax.specs.declared.kind.TokenKind.TheVariants as k
use Rattle.sb_syntax.specs.Cursor.{lexemes}
use Rattle.sb_syntax.specs.Grammar as g
use Rattle.sb_syntax.specs.Grammar.{IsLiteral}
use Rattle.sb_syntax.specs.Input.{Is}
use Rattle.sb_syntax.specs.Lex as lex
use Rattle.sb_syntax.specs.Lex.{IsToken, AreTokens, is_digit, all, begins, doubled, two_bytes}
use Rattle.sb_syntax.specs.Literal.{decimal, inner, negative, unquoted}
use Rattle.sb_syntax.specs.Text.{CanBeHeld, SpellsItself}

-- ---- digits

are_digits : (ds : List ℕ) → AllDigits 10 ds → all is_digit ds ≡ true
are_digits [] h = refl
are_digits (c ∷ cs) h = let r = digit_from_value c h.0 in and_from _ _ (and_from _ _ (le-leb 48 c (omega arith)) (le-leb c 57 (omega arith))) (are_digits cs h.1)

value_after : (ds : List ℕ) (n : ℕ) → AllDigits 10 ds → fold (λ m b. 10 * m + (b - 48)) n ds ≡ digits_value_after 10 n ds
value_after [] n h = refl
value_after (c ∷ cs) n h =
    let v = digit_value_digit c (digit_from_value c h.0) in
    let step : 10 * n + (c - 48) ≡ n * 10 + digit_value c = omega arith in
    ap (λ m. fold (λ m b. 10 * m + (b - 48)) m cs) step ∙ value_after cs (n * 10 + digit_value c) h.1

is_integer : (ds : List ℕ) → 0 < length ds → all is_digit ds ≡ true → IsToken k.Integer ds []
is_integer [] some are = absurd (omega arith)
is_integer (b ∷ bs) some are = let p = and_parts (is_digit b) (all is_digit bs) are in lex.integer p.0 p.1 refl

-- ---- texts

-- the two definitions of doubled quotes
doubled_is : (bs : List ℕ) → flat_map printed.doubled bs ≡ doubled bs
doubled_is [] = refl
doubled_is (b ∷ bs) = go (b == 39) (doubled_is bs)
  where
    go : (t : Bool) → flat_map printed.doubled bs ≡ doubled bs → cond t (39 ∷ 39 ∷ []) (b ∷ []) ++ flat_map printed.doubled bs ≡ cond t (39 ∷ 39 ∷ doubled bs) (b ∷ doubled bs)
    go true rest = ap (λ xs. 39 ∷ 39 ∷ xs) rest
    go false rest = ap (λ xs. b ∷ xs) rest

inner_more : (b : ℕ) (xs : List ℕ) → (b == 39) ≡ false → 0 < length xs → inner (b ∷ xs) ≡ b ∷ inner xs
inner_more b [] e some = absurd (omega arith)
inner_more b (c ∷ cs) e some = ap (λ t. cond t (39 ∷ inner cs) (b ∷ inner (c ∷ cs))) e

inner_is : (bs : List ℕ) → inner (doubled bs ++ 39 ∷ []) ≡ bs
inner_is [] = refl
inner_is (b ∷ bs) = go (b == 39) refl (inner_is bs)
  where
    go : (t : Bool) → (b == 39) ≡ t → inner (doubled bs ++ 39 ∷ []) ≡ bs → inner (cond t (39 ∷ 39 ∷ doubled bs) (b ∷ doubled bs) ++ 39 ∷ []) ≡ b ∷ bs
    go true e rest = ap (λ xs. 39 ∷ xs) rest ∙ ap (λ x. x ∷ bs) (sym (eqb-true b 39 e))
    go false e rest = inner_more b (doubled bs ++ 39 ∷ []) e (omega (arith, length-append (doubled bs) (39 ∷ []))) ∙ ap (λ xs. b ∷ xs) rest

all_is : (p : ℕ → Bool) (bs : List ℕ) → all p bs ≡ list_all p bs
all_is p [] = refl
all_is p (b ∷ bs) = ap (λ t. p b && t) (all_is p bs)

-- ---- values

whole : (xs : List ℕ) → slice_range xs 0 (0 + length xs) ≡ xs
whole xs = take_all (0 + length xs - 0) xs (omega arith)

-- a text of one token
of_one : (v : Value) (kind : TokenKind) (text : List ℕ) → IsToken kind text [] → IsLiteral v (record { kind = kind; text = text } ∷ []) [] → printed.value_text v ≡ text → SpellsItself v
of_one v kind text is literal e = record {
  tokens = record { kind = kind; start = 0; end = 0 + length (printed.value_text v) } ∷ [];
  are = lex.token (subst (λ x. IsToken kind x []) (sym e) is) (sym (append-nil (printed.value_text v))) lex.no_tokens;
  spell = subst (λ (x : List ℕ). IsLiteral v (record { kind = kind; text = x } ∷ []) []) (sym (whole (printed.value_text v) ∙ e)) literal;
}

after_minus : (ds : List ℕ) → begins (λ c. is_some (two_bytes 45 c)) ds ≡ false
after_minus [] = refl
after_minus (d ∷ ds) = refl

pub spells : (v : Value) → CanBeHeld v → SpellsItself v
spells (Int (pos n)) small =
    let ds = fmt.decimal n in
    let h = decimal_is_IsNumeral n (omega arith) in
    let value : decimal ds ≡ n = value_after ds 0 h.0.1 ∙ h.1 in
    of_one (Int (pos n)) k.Integer ds (is_integer ds h.0.0 (are_digits ds h.0.1))
    (subst (λ (m : ℕ). IsLiteral (Int (pos m)) (record { kind = k.Integer; text = ds } ∷ []) []) value (g.integer (omega (arith, value)))) refl
spells (Int (negsuc n)) small =
    let ds = fmt.decimal (suc n) in
    let h = decimal_is_IsNumeral (suc n) (omega arith) in
    let value : decimal ds ≡ suc n = value_after ds 0 h.0.1 ∙ h.1 in
    let rest : slice_range (45 ∷ ds) 1 (1 + length ds) ≡ ds = take_all (1 + length ds - 1) ds (omega arith) in
    record {
      tokens = record { kind = k.Minus; start = 0; end = 1 } ∷ record { kind = k.Integer; start = 1; end = 1 + length ds } ∷ [];
      are = lex.token (lex.one {b = 45} refl (after_minus ds)) refl (lex.token (is_integer ds h.0.0 (are_digits ds h.0.1)) (sym (append-nil ds)) lex.no_tokens);
      spell = subst (λ (m : ℕ). IsLiteral (Int (negative m)) (lexemes (45 ∷ ds) (record { kind = k.Minus; start = 0; end = 1 } ∷ record { kind = k.Integer; start = 1; end = 1 + length ds } ∷ [])) []) value
          (subst (λ (x : List ℕ). IsLiteral (Int (negative (decimal ds))) (record { kind = k.Minus; text = slice_range (45 ∷ ds) 0 1 } ∷ record { kind = k.Integer; text = x } ∷ []) []) (sym rest)
          (g.minus (Is.token) (omega (arith, value))));
    }
spells (Text bytes) held =
    let quoted = 39 ∷ doubled bytes ++ 39 ∷ [] in
    let same : unquoted quoted ≡ bytes = inner_is bytes in
    of_one (Text bytes) k.Text quoted (lex.text bytes (all_is is_printable bytes ∙ list_all-from_AllPass is_printable bytes held.1) held.0 refl)
    (subst (λ (b : List ℕ). IsLiteral (Text b) (record { kind = k.Text; text = quoted } ∷ []) []) same
    (g.text {quoted = quoted} (subst (λ (b : List ℕ). length b ≤ 255) (sym same) held.0) (subst (λ (b : List ℕ). AllPass is_printable b) (sym same) held.1)))
    (ap (λ xs. 39 ∷ xs ++ 39 ∷ []) (doubled_is bytes))
