-- Machine: cutting a text into pieces from left to right, as functions.
use Rattle.std.specs.Prelude.{ℕ, zero, suc, ◌+◌, ◌-◌, ◌&&◌, ◌==◌, if◌then◌else◌, List, [], ◌∷◌, take, drop, Option, Some, None, Result, Ok, Err}
use Rattle.std.specs.List.{prefix_len}
use Rattle.sb_postgres.specs.declared.query.error.Fault.{Fault}
use Rattle.sb_postgres.specs.declared.query.error.Fault.TheVariants as fault
use Rattle.sb_postgres.specs.declared.query.piece.PieceKind.{PieceKind}
use Rattle.sb_postgres.specs.declared.query.piece.PieceKind.TheVariants as k
use Rattle.sb_postgres.specs.Bytes.{is_blank, is_letter, is_digit, is_word, is_in_line, begins}
use Rattle.sb_postgres.specs.Pieces.{opens_comment, closes_comment, is_marked, Pieces, end, refused, piece}

-- a kind, and how many bytes
abbrev pub Found : Type 0
Found = Result (PieceKind × ℕ) Fault

-- behind the opening quote and n bytes: the bytes up to the closing quote, with it
abbrev pub closing : ℕ → ℕ → List ℕ → Option ℕ
closing quote n [] = None
closing quote n (b ∷ []) = if b == quote then Some (n + 1) else None
closing quote n (b ∷ c ∷ bs) = if b == quote then (if c == quote then closing quote (n + 2) bs else Some (n + 1)) else closing quote (n + 1) (c ∷ bs)

-- in so many comments and behind n bytes: the bytes up to the end of the outermost, with it
abbrev pub comment_end : ℕ → ℕ → List ℕ → Option ℕ
comment_end depth n [] = None
comment_end depth n (b ∷ []) = None
comment_end depth n (b ∷ c ∷ bs) =
    if closes_comment (b ∷ c ∷ bs) then (if depth == 0 then Some (n + 2) else comment_end (depth - 1) (n + 2) bs)
    else (if opens_comment (b ∷ c ∷ bs) then comment_end (depth + 1) (n + 2) bs else comment_end depth (n + 1) (c ∷ bs))

-- behind the byte or the two bytes that open it
abbrev pub up_to : PieceKind → ℕ → Option ℕ → Found
up_to kind n None = Err fault.Unclosed
up_to kind n (Some m) = Ok (kind, n + m)

unfoldable pub word_at : List ℕ → Found
word_at text = if is_marked (take (prefix_len is_word text) text) (drop (prefix_len is_word text) text) then Err fault.Unsupported else Ok (k.Word, prefix_len is_word text)

-- behind `$`
unfoldable pub dollar_at : List ℕ → Found
dollar_at text =
    if begins is_digit text then (if begins is_letter (drop (prefix_len is_digit text) text) then Err fault.Unsupported else Ok (k.Parameter, prefix_len is_digit text + 1))
    else (if begins (λ b. b == 36) (drop (prefix_len is_word text) text) then Err fault.Unsupported else Ok (k.Byte, 1))

unfoldable pub piece_at : List ℕ → Found
piece_at [] = Ok (k.Byte, 0)
piece_at (b ∷ bs) =
    if is_blank b then Ok (k.Blank, 1)
    else (if is_letter b then word_at (b ∷ bs)
    else (if b == 39 then up_to k.Constant 1 (closing 39 0 bs)
    else (if b == 34 then up_to k.QuotedName 1 (closing 34 0 bs)
    else (if b == 59 then Ok (k.Semicolon, 1)
    else (if b == 36 then dollar_at bs
    else (if b == 45 && begins (λ c. c == 45) bs then Ok (k.Blank, prefix_len is_in_line (b ∷ bs))
    else (if b == 47 && begins (λ c. c == 42) bs then up_to k.Blank 2 (comment_end 0 0 (drop 1 bs))
    else Ok (k.Byte, 1))))))))

abbrev pub pieces_by : ℕ → List ℕ → Found → (ℕ → Pieces) → Pieces
pieces_by at text (Err f) more = refused f at
pieces_by at text (Ok p) more = piece p.0 at (take p.1 text) (more p.1)

-- The first number counts the bytes left of a piece, the second is the place.
unfoldable pub pieces : ℕ → ℕ → List ℕ → Pieces
pieces left at [] = end
pieces (suc left) at (b ∷ bs) = pieces left (at + 1) bs
pieces zero at (b ∷ bs) = pieces_by at (b ∷ bs) (piece_at (b ∷ bs)) (λ n. pieces (n - 1) (at + 1) bs)
