-- A piece of a line in what is made of it.
use Rattle.std.proofs.Common.{◌≡◌, ℕ, List, [], ◌∷◌, ◌++◌, Some, Ok, refl, ap, sym, ◌∙◌}
use Rattle.std.proofs.lemmas.List.{append-nil}
use Rattle.sb_value.specs.declared.value.Value.{Value}
use Rattle.sb_postgres.specs.declared.query.piece.PieceKind.{PieceKind}
use Rattle.sb_postgres.specs.declared.query.piece.PieceKind.TheVariants as k
use Rattle.sb_postgres.specs.Templates.{text_of, spaced, value_of, valued, part}

pub value_part : (values : List Value) (kind : PieceKind) (at : ℕ) (bytes : List ℕ) (v : Value) → kind ≡ k.Parameter → Some v ≡ value_of values bytes → part values kind at bytes ≡ Ok (spaced v)
value_part values kind at bytes v is found = ap (λ (x : PieceKind). part values x at bytes) is ∙ ap (valued at) (sym found)

pub other_part : (values : List Value) (kind : PieceKind) (at : ℕ) (bytes : List ℕ) → (kind ≡ k.Parameter → ⊥) → part values kind at bytes ≡ Ok ((kind, bytes) ∷ [])
other_part values k.Parameter at bytes n = absurd (n refl)
other_part values k.Blank at bytes n = refl
other_part values k.Semicolon at bytes n = refl
other_part values k.Constant at bytes n = refl
other_part values k.QuotedName at bytes n = refl
other_part values k.Word at bytes n = refl
other_part values k.Byte at bytes n = refl

pub other_text : (old new bytes : List ℕ) (kind : PieceKind) → new ≡ old ++ bytes → new ≡ old ++ text_of ((kind, bytes) ∷ [])
other_text old new bytes kind e = e ∙ ap (λ (xs : List ℕ). old ++ xs) (sym (append-nil bytes))
