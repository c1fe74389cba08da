-- Promise: the pieces of a query's text, as PostgreSQL cuts it.
use Rattle.std.specs.Prelude.{◌≡◌, ℕ, suc, ◌+◌, Bool, true, false, ◌&&◌, ◌||◌, ◌==◌, if◌then◌else◌, List, [], ◌∷◌, ◌++◌, length}
use Rattle.sb_postgres.specs.declared.query.error.Fault.{Fault}
use Rattle.sb_postgres.specs.declared.query.error.Fault.TheVariants as fault
use Rattle.sb_postgres.specs.declared.query.piece.PieceKind.{PieceKind}
use Rattle.sb_postgres.specs.declared.query.piece.PieceKind.TheVariants as k
use Rattle.sb_postgres.specs.Bytes.{is_blank, is_letter, is_digit, is_word, is_in_line, is_quote, folded, all, begins, begins_two}

-- Of the bytes below, 34 is `"`, 36 `$`, 38 `&`, 39 `'`, 42 `*`, 45 `-`, 47 `/` and 59 `;`.

-- ---- constants and quoted names

-- each quote doubled
abbrev pub doubled : ℕ → List ℕ → List ℕ
doubled quote [] = []
doubled quote (b ∷ bs) = if b == quote then b ∷ b ∷ doubled quote bs else b ∷ doubled quote bs

-- ---- comments, one in another

abbrev pub opens_comment : List ℕ → Bool
opens_comment = begins_two (λ b. b == 47) (λ b. b == 42)

abbrev pub closes_comment : List ℕ → Bool
closes_comment = begins_two (λ b. b == 42) (λ b. b == 47)

-- the bytes end a comment that is inside of so many others, and all of those
pub data Closes : ℕ → List ℕ → Type 0 where
  last : Closes 0 (42 ∷ 47 ∷ [])
  close_one : {n : ℕ} {bs : List ℕ} → Closes n bs → Closes (suc n) (42 ∷ 47 ∷ bs)
  open_one : {n : ℕ} {bs : List ℕ} → Closes (suc n) bs → Closes n (47 ∷ 42 ∷ bs)
  other_byte : {n b : ℕ} {bs : List ℕ} → closes_comment (b ∷ bs) ≡ false → opens_comment (b ∷ bs) ≡ false → Closes n bs → Closes n (b ∷ bs)

-- the bytes leave one of them open
pub data StaysOpen : ℕ → List ℕ → Type 0 where
  to_the_end : {n : ℕ} → StaysOpen n []
  one_closed : {n : ℕ} {bs : List ℕ} → StaysOpen n bs → StaysOpen (suc n) (42 ∷ 47 ∷ bs)
  one_opened : {n : ℕ} {bs : List ℕ} → StaysOpen (suc n) bs → StaysOpen n (47 ∷ 42 ∷ bs)
  another_byte : {n b : ℕ} {bs : List ℕ} → closes_comment (b ∷ bs) ≡ false → opens_comment (b ∷ bs) ≡ false → StaysOpen n bs → StaysOpen n (b ∷ bs)

-- ---- words that are none

-- `E`, `B`, `N` or `X`, with which a constant has another meaning
abbrev pub marks_constant : List ℕ → Bool
marks_constant [] = false
marks_constant (b ∷ []) = folded b == 101 || (folded b == 98 || (folded b == 110 || folded b == 120))
marks_constant (b ∷ c ∷ bs) = false

abbrev pub is_u : List ℕ → Bool
is_u [] = false
is_u (b ∷ []) = folded b == 117
is_u (b ∷ c ∷ bs) = false

-- with what stands behind it, a word is another form of constant or name: `E'..'`, `U&".."`, `a$`
abbrev pub is_marked : List ℕ → List ℕ → Bool
is_marked word rest =
    begins (λ b. b == 36) rest || ((begins (λ b. b == 39) rest && marks_constant word) || (begins_two (λ b. b == 38) is_quote rest && is_u word))

-- ---- pieces

-- the text goes on with something that isn't a byte by itself
abbrev pub begins_more : List ℕ → Bool
begins_more [] = false
begins_more (b ∷ bs) =
    is_blank b || (is_letter b || (is_quote b || (b == 59 || ((b == 45 && begins (λ c. c == 45) bs) || ((b == 47 && begins (λ c. c == 42) bs) || (b == 36 && begins is_digit bs))))))

-- `$tag$` or `$$`, where the tag is a word
pub data OpensDollarQuote : List ℕ → Type 0 where
  no_tag : {rest : List ℕ} → OpensDollarQuote (36 ∷ 36 ∷ rest)
  tag : {b : ℕ} (bs rest : List ℕ) → is_letter b ≡ true → all is_word bs ≡ true → OpensDollarQuote (36 ∷ b ∷ bs ++ 36 ∷ rest)

-- a piece: its kind, its bytes, and the bytes that follow
pub data IsPiece : PieceKind → List ℕ → List ℕ → Type 0 where
  blank : {b : ℕ} {rest : List ℕ} → is_blank b ≡ true → IsPiece k.Blank (b ∷ []) rest
  line_comment : {bytes rest : List ℕ} → all is_in_line bytes ≡ true → begins is_in_line rest ≡ false → IsPiece k.Blank (45 ∷ 45 ∷ bytes) rest
  block_comment : {bytes rest : List ℕ} → Closes 0 bytes → IsPiece k.Blank (47 ∷ 42 ∷ bytes) rest
  semicolon : {rest : List ℕ} → IsPiece k.Semicolon (59 ∷ []) rest
  constant : (value : List ℕ) {rest : List ℕ} → begins (λ b. b == 39) rest ≡ false → IsPiece k.Constant (39 ∷ doubled 39 value ++ 39 ∷ []) rest
  quoted_name : (value : List ℕ) {rest : List ℕ} → begins (λ b. b == 34) rest ≡ false → IsPiece k.QuotedName (34 ∷ doubled 34 value ++ 34 ∷ []) rest
  parameter : {d : ℕ} {ds rest : List ℕ} → is_digit d ≡ true → all is_digit ds ≡ true → begins is_word rest ≡ false → IsPiece k.Parameter (36 ∷ d ∷ ds) rest
  word : {b : ℕ} {bs rest : List ℕ} → is_letter b ≡ true → all is_word bs ≡ true → begins is_word rest ≡ false → is_marked (b ∷ bs) rest ≡ false → IsPiece k.Word (b ∷ bs) rest
  byte : {b : ℕ} {rest : List ℕ} → begins_more (b ∷ rest) ≡ false → (OpensDollarQuote (b ∷ rest) → ⊥) → IsPiece k.Byte (b ∷ []) rest

-- what begins no piece
pub data IsFault : Fault → List ℕ → Type 0 where
  open_constant : (value : List ℕ) → IsFault fault.Unclosed (39 ∷ doubled 39 value)
  open_name : (value : List ℕ) → IsFault fault.Unclosed (34 ∷ doubled 34 value)
  open_comment : {bytes : List ℕ} → StaysOpen 0 bytes → IsFault fault.Unclosed (47 ∷ 42 ∷ bytes)
  marked_word : {b : ℕ} (bs rest : List ℕ) → is_letter b ≡ true → all is_word bs ≡ true → begins is_word rest ≡ false → is_marked (b ∷ bs) rest ≡ true → IsFault fault.Unsupported (b ∷ bs ++ rest)
  dollar_quote : {bytes : List ℕ} → OpensDollarQuote bytes → IsFault fault.Unsupported bytes
  marked_parameter : {d : ℕ} (ds rest : List ℕ) → is_digit d ≡ true → all is_digit ds ≡ true → begins is_letter rest ≡ true → IsFault fault.Unsupported (36 ∷ d ∷ ds ++ rest)

-- ---- whole texts

-- the pieces of a text with their places, up to its end or to what is refused
pub data Pieces : Type 0 where
  end : Pieces
  refused : (f : Fault) (at : ℕ) → Pieces
  piece : (kind : PieceKind) (at : ℕ) (bytes : List ℕ) (more : Pieces) → Pieces

-- the text that begins at a place has these pieces
pub data HasPieces : ℕ → List ℕ → Pieces → Type 0 where
  end_of_text : {at : ℕ} → HasPieces at [] end
  no_piece : {at : ℕ} {f : Fault} {text : List ℕ} → IsFault f text → HasPieces at text (refused f at)
  first : {at : ℕ} {kind : PieceKind} {bytes rest text : List ℕ} {more : Pieces} → IsPiece kind bytes rest → text ≡ bytes ++ rest → HasPieces (at + length bytes) rest more → HasPieces at text (piece kind at bytes more)
