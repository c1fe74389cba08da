-- The text of a value between two spaces.
use Rattle.std.proofs.Common.{◌≡◌, ℕ, List, [], ◌∷◌, ◌++◌, map, refl, ap, sym, ◌∙◌, append_assoc}
use Rattle.std.specs.Fmt.{signed_decimal}
use Rattle.sb_value.specs.Literal.{value_text}
use Rattle.sb_value.specs.declared.value.Value.{Value}
use Rattle.sb_value.specs.declared.value.Value.TheVariants.{Int, Text}
use Rattle.sb_postgres.specs.Templates.{Cut, text_of, space, spaced}
use Rattle.sb_postgres.proofs.Filled.{single}

text-single : (ds : List ℕ) (cs : Cut) → text_of (map single ds ++ cs) ≡ ds ++ text_of cs
text-single [] cs = refl
text-single (d ∷ ds) cs = ap (λ xs. d ∷ xs) (text-single ds cs)

spaced-text : (v : Value) → text_of (spaced v) ≡ 32 ∷ value_text v ++ 32 ∷ []
spaced-text (Int z) = ap (λ xs. 32 ∷ xs) (text-single (signed_decimal z) (space ∷ []))
spaced-text (Text bytes) = refl

-- what is pushed one behind the other
pub spaced_pushed : (old : List ℕ) (v : Value) → ((old ++ 32 ∷ []) ++ value_text v) ++ 32 ∷ [] ≡ old ++ text_of (spaced v)
spaced_pushed old v =
    append_assoc (old ++ 32 ∷ []) (value_text v) (32 ∷ [])
    ∙ (append_assoc old (32 ∷ []) (value_text v ++ 32 ∷ []) ∙ ap (λ xs. old ++ xs) (sym (spaced-text v)))
