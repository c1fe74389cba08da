-- A piece stays one where parameters behind it become values: what is looked at behind it stays, or is a space.
use Rattle.std.proofs.Common.{◌≡◌, ◌==◌, ◌&&◌, ℕ, Bool, true, false, List, [], ◌∷◌, ◌++◌, drop, refl, ap, sym, ◌∙◌, subst}
use Rattle.std.proofs.lemmas.Bool.{or_parts, or_from, and_left}
use Rattle.std.specs.List.{prefix_len}
use Rattle.sb_postgres.specs.declared.query.piece.PieceKind.{PieceKind}
use Rattle.sb_postgres.specs.declared.query.piece.PieceKind.TheVariants as k
use Rattle.sb_postgres.specs.Bytes.{is_blank, is_letter, is_digit, is_word, is_in_line, is_quote, begins, begins_two}
use Rattle.sb_postgres.specs.Pieces as p
use Rattle.sb_postgres.specs.Pieces.{IsPiece, OpensDollarQuote, is_marked, is_u, marks_constant, begins_more}
use Rattle.sb_postgres.proofs.Runs.{goes_on, halts}
use Rattle.sb_postgres.proofs.Found.{dollar-opens, opens-dollar, opens-with}

-- the second text goes on as the first, up to its end or to a space in the place of a parameter
pub data Ahead : List ℕ → List ℕ → Type 0 where
  both_end : Ahead [] []
  at_value : {xs ys : List ℕ} → Ahead (36 ∷ xs) (32 ∷ ys)
  same : {b : ℕ} {xs ys : List ℕ} → Ahead xs ys → Ahead (b ∷ xs) (b ∷ ys)

pub ahead-behind : (bytes xs ys : List ℕ) → Ahead xs ys → Ahead (bytes ++ xs) (bytes ++ ys)
ahead-behind [] xs ys a = a
ahead-behind (b ∷ bytes) xs ys a = same (ahead-behind bytes xs ys a)

-- ---- what is looked at

begins-ahead : (q : ℕ → Bool) (xs ys : List ℕ) → (q 36 ≡ false → q 32 ≡ false) → Ahead xs ys → begins q xs ≡ false → begins q ys ≡ false
begins-ahead q xs ys low both_end e = e
begins-ahead q xs ys low at_value e = low e
begins-ahead q xs ys low (same a) e = e

and-ahead : (t : Bool) (q : ℕ → Bool) (xs ys : List ℕ) → q 32 ≡ false → Ahead xs ys → (t && begins q xs) ≡ false → (t && begins q ys) ≡ false
and-ahead true q xs ys low a e = begins-ahead q xs ys (λ _. low) a e
and-ahead false q xs ys low a e = refl

two-ahead : (q r : ℕ → Bool) (xs ys : List ℕ) → q 32 ≡ false → r 32 ≡ false → Ahead xs ys → begins_two q r xs ≡ false → begins_two q r ys ≡ false
two-ahead q r xs ys low lower both_end e = e
two-ahead q r xs ys low lower (at_value {ys = zs}) e = and_left (q 32) (begins r zs) low
two-ahead q r xs ys low lower (same {b = b} {xs = us} {ys = zs} a) e = and-ahead (q b) r us zs lower a e

-- a `$` behind what may be a tag
abbrev closes_tag : List ℕ → Bool
closes_tag bs = begins (λ c. c == 36) (drop (prefix_len is_word bs) bs)

closes-on : (b : ℕ) (bs : List ℕ) → is_word b ≡ true → closes_tag (b ∷ bs) ≡ closes_tag bs
closes-on b bs e = ap (λ n. begins (λ c. c == 36) (drop n (b ∷ bs))) (goes_on is_word b bs e)

closes-here : (b : ℕ) (bs : List ℕ) → is_word b ≡ false → closes_tag (b ∷ bs) ≡ (b == 36)
closes-here b bs e = ap (λ n. begins (λ c. c == 36) (drop n (b ∷ bs))) (halts is_word b bs e)

tag-ahead : (xs ys : List ℕ) → Ahead xs ys → closes_tag ys ≡ true → closes_tag xs ≡ true
tag-ahead xs ys both_end e = e
tag-ahead xs ys (at_value {ys = zs}) e = absurd (let f : false ≡ true = sym (closes-here 32 zs refl) ∙ e in cc)
tag-ahead xs ys (same {b = b} {xs = us} {ys = zs} a) e = go (is_word b) refl (tag-ahead us zs a)
  where
    go : (w : Bool) → is_word b ≡ w → (closes_tag zs ≡ true → closes_tag us ≡ true) → closes_tag (b ∷ us) ≡ true
    go true w rec = closes-on b us w ∙ rec (sym (closes-on b zs w) ∙ e)
    go false w rec = closes-here b us w ∙ (sym (closes-here b zs w) ∙ e)

-- ---- pieces

marked-ahead : (word xs ys : List ℕ) → Ahead xs ys → is_marked word xs ≡ false → is_marked word ys ≡ false
marked-ahead word xs ys a e =
    let s = or_parts (begins (λ b. b == 36) xs) _ e in
    let t = or_parts (begins (λ b. b == 39) xs && marks_constant word) _ s.1 in
    or_from (begins (λ b. b == 36) ys) _ (begins-ahead (λ b. b == 36) xs ys (λ _. refl) a s.0)
    (or_from (begins (λ b. b == 39) ys && marks_constant word) _
    (quote-ahead (begins (λ b. b == 39) xs) (begins (λ b. b == 39) ys) (marks_constant word) (begins-ahead (λ b. b == 39) xs ys (λ _. refl) a) t.0)
    (quote-ahead (begins_two (λ b. b == 38) is_quote xs) (begins_two (λ b. b == 38) is_quote ys) (is_u word) (two-ahead (λ b. b == 38) is_quote xs ys refl refl a) t.1))
  where
    quote-ahead : (s t u : Bool) → (s ≡ false → t ≡ false) → (s && u) ≡ false → (t && u) ≡ false
    quote-ahead true true u h e = e
    quote-ahead true false u h e = refl
    quote-ahead false t u h e = and_left t u (h refl)

more-ahead : (b : ℕ) (xs ys : List ℕ) → Ahead xs ys → begins_more (b ∷ xs) ≡ false → begins_more (b ∷ ys) ≡ false
more-ahead b xs ys a e =
    let blank = or_parts (is_blank b) _ e in
    let letter = or_parts (is_letter b) _ blank.1 in
    let quote = or_parts (is_quote b) _ letter.1 in
    let semicolon = or_parts (b == 59) _ quote.1 in
    let line = or_parts (b == 45 && begins (λ c. c == 45) xs) _ semicolon.1 in
    let block = or_parts (b == 47 && begins (λ c. c == 42) xs) _ line.1 in
    or_from (is_blank b) _ blank.0 (or_from (is_letter b) _ letter.0 (or_from (is_quote b) _ quote.0 (or_from (b == 59) _ semicolon.0
    (or_from (b == 45 && begins (λ c. c == 45) ys) _ (and-ahead (b == 45) (λ c. c == 45) xs ys refl a line.0)
    (or_from (b == 47 && begins (λ c. c == 42) ys) _ (and-ahead (b == 47) (λ c. c == 42) xs ys refl a block.0)
    (and-ahead (b == 36) is_digit xs ys refl a block.1))))))

-- behind `$`
no-digit : (xs : List ℕ) → begins_more (36 ∷ xs) ≡ false → begins is_digit xs ≡ false
no-digit xs e = e

dollar-ahead : (b : ℕ) (xs ys : List ℕ) → Ahead xs ys → begins_more (b ∷ xs) ≡ false → OpensDollarQuote (b ∷ ys) → OpensDollarQuote (b ∷ xs)
dollar-ahead b xs ys a e o =
    let is : b ≡ 36 = opens-with b ys (b ∷ ys) refl o in
    let alone : begins_more (36 ∷ xs) ≡ false = subst (λ (x : ℕ). begins_more (x ∷ xs) ≡ false) is e in
    let opens : OpensDollarQuote (36 ∷ ys) = subst (λ (x : ℕ). OpensDollarQuote (x ∷ ys)) is o in
    let t : closes_tag xs ≡ true = tag-ahead xs ys a (opens-dollar (36 ∷ ys) ys refl opens).1 in
    subst (λ (x : ℕ). OpensDollarQuote (x ∷ xs)) (sym is) (dollar-opens xs (no-digit xs alone) t)

pub stays : (kind : PieceKind) (bytes xs ys : List ℕ) → (kind ≡ k.Parameter → ⊥) → Ahead xs ys → IsPiece kind bytes xs → IsPiece kind bytes ys
stays kind bytes xs ys n a (p.blank e) = p.blank e
stays kind bytes xs ys n a (p.line_comment e ends) = p.line_comment e (begins-ahead is_in_line xs ys (λ no. absurd (let f : true ≡ false = no in cc)) a ends)
stays kind bytes xs ys n a (p.block_comment c) = p.block_comment c
stays kind bytes xs ys n a p.semicolon = p.semicolon
stays kind bytes xs ys n a (p.constant value ends) = p.constant value (begins-ahead (λ b. b == 39) xs ys (λ _. refl) a ends)
stays kind bytes xs ys n a (p.quoted_name value ends) = p.quoted_name value (begins-ahead (λ b. b == 34) xs ys (λ _. refl) a ends)
stays kind bytes xs ys n a (p.parameter d ds ends) = absurd (n refl)
stays kind bytes xs ys n a (p.word {b = b} {bs = bs} letter run ends plain) = p.word letter run (begins-ahead is_word xs ys (λ _. refl) a ends) (marked-ahead (b ∷ bs) xs ys a plain)
stays kind bytes xs ys n a (p.byte {b = b} alone shut) = p.byte (more-ahead b xs ys a alone) (λ o. shut (dollar-ahead b xs ys a alone o))
