-- Text that is added in parts.
use Rattle.std.proofs.Common.{◌≡◌, ℕ, List, [], ◌∷◌, ◌++◌, length, map, take, refl, ap, sym, ◌∙◌, append_assoc, subst}
use Rattle.sb_value.specs.declared.value.Value.{Value}
use Rattle.sb_rows.specs.RowText.{row_text, started_rows}
use Rattle.sb_wire.specs.Lines.{space}
use Rattle.sb_wire.specs.Output.{prefixed}
use Rattle.std.proofs.lemmas.List.{append-nil, length-map}
use Rattle.std.specs.Prelude.{codes, decimal}
use Rattle.sb_wire.specs.ReplyText.{words, counted}
use Rattle.sb_wire.specs.Written.{IsInFront, started_lines}

-- what stands in front of more stands in front
pub front_before : (old more new : List ℕ) → IsInFront (old ++ more) new → IsInFront old new
front_before [] more new front = refl
front_before (b ∷ old) more [] front = cc
front_before (b ∷ old) more (c ∷ new) front =
    let same : c ≡ b = cc in
    let rest : take (length (old ++ more)) new ≡ old ++ more = cc in
    rw (same, front_before old more new rest) refl

-- the same, by what came to stand between
pub front_through : (old more mid new : List ℕ) → mid ≡ old ++ more → IsInFront mid new → IsInFront old new
front_through old more mid new is front = front_before old more new (subst (λ (m : List ℕ). IsInFront m new) is front)

-- the prefix and a space before each line
pub prefixed_started : (prefix : List ℕ) (lines : List (List ℕ)) → started_lines (prefix ++ space ∷ []) lines ≡ prefixed prefix lines
prefixed_started prefix [] = refl
prefixed_started prefix (line ∷ lines) = rw (prefixed_started prefix lines) (simp append_assoc)

-- each row's line behind the same bytes
pub rows_started : (start : List ℕ) (rows : List (List Value)) → started_rows start rows ≡ started_lines start (map row_text rows)
rows_started start [] = refl
rows_started start (row ∷ rows) = ap (λ t. (start ++ row_text row ++ 10 ∷ []) ++ t) (rows_started start rows)

-- the number of the rows, and their lines
pub rows_added : (old mid new start : List ℕ) (rows : List (List Value)) (count : ℕ) → count ≡ length rows
    → mid ≡ old ++ started_lines start (words (codes "rows" ∷ decimal count ∷ []) ∷ []) → new ≡ mid ++ started_rows start rows
    → new ≡ old ++ started_lines start (counted (codes "rows" ∷ []) (map row_text rows))
rows_added old mid new start rows count is head more =
    let lines : List (List ℕ) = map row_text rows in
    let first : ℕ → List ℕ = λ n. words (codes "rows" ∷ decimal n ∷ []) in
    let number : count ≡ length lines = is ∙ sym (length-map rows row_text) in
    more ∙ ap (λ m. m ++ started_rows start rows) head
    ∙ ap (λ t. (old ++ started_lines start (first count ∷ [])) ++ t) (rows_started start rows)
    ∙ append_assoc old (started_lines start (first count ∷ [])) (started_lines start lines)
    ∙ ap (λ t. old ++ (t ++ started_lines start lines)) (append-nil (start ++ first count ++ 10 ∷ []))
    ∙ ap (λ n. old ++ ((start ++ first n ++ 10 ∷ []) ++ started_lines start lines)) number
