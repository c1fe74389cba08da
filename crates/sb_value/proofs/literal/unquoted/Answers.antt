-- one more byte of the text
use Rattle.std.proofs.Common.{◌≡◌, ◌++◌, ℕ, true, List, [], ◌∷◌, length, get_or, length-append, append_assoc, Option, Some, None, option_map, refl, ap, sym, ◌∙◌, arith}
use Rattle.std.specs.List.{AllPass}
use Rattle.std.proofs.lemmas.List.{get_or_append_left, get_or_push}
use borrow.Author.Count.{below_more}
use Rattle.sb_value.specs.Printable.{is_printable}
use Rattle.sb_value.proofs.literal.unquoted.Goals as goal

joined : (text more : List ℕ) (byte : ℕ) (whole rest tail : Option (List ℕ)) → whole ≡ option_map (λ t. text ++ t) rest → rest ≡ option_map (λ t. byte ∷ t) tail → more ≡ text ++ byte ∷ [] → whole ≡ option_map (λ t. more ++ t) tail
joined text more byte whole rest None e first is = e ∙ ap (option_map (λ t. text ++ t)) first
joined text more byte whole rest (Some t) e first is =
    e ∙ ap (option_map (λ t. text ++ t)) first ∙ ap Some (sym (append_assoc text (byte ∷ []) t)) ∙ ap (λ l. Some (l ++ t)) (sym is)

all_printable : (text more : List ℕ) (byte : ℕ) → AllPass is_printable text → is_printable byte ≡ true → more ≡ text ++ byte ∷ [] → AllPass is_printable more
all_printable text more byte all one is k d lt =
    let here : is_printable (get_or more (length text) d) ≡ true = rw (is, get_or_push text byte d (length text) refl) one in
    below_more (λ j. is_printable (get_or more j d) ≡ true) (length text) (λ j h. rw (is, get_or_append_left text (byte ∷ []) d j h) (all j d h)) here k (omega (arith, ap (length {A = _}) is, length-append text (byte ∷ [])))

pub parts-preserved : goal.parts-preserved
parts-preserved c =
    let items = c.in_ok-push.ensures.items in
    record {
      value = joined _ _ _ _ _ _ c.parts.invariant.value c.in-Some.ensures.first items;
      printable = all_printable _ _ _ c.parts.invariant.printable c.in-Some.ensures.printable items;
    }
