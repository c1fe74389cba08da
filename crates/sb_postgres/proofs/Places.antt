-- Each byte of a draft stands in the text at its place.
use Rattle.std.proofs.Common.{◌≡◌, ◌<◌, ◌+◌, ◌-◌, ◌==◌, ℕ, zero, suc, Bool, true, false, cond, nat_le, List, [], ◌∷◌, ◌++◌, length, map, drop, take, Option, Some, None, Result, Ok, Err, slice_get, IfSome, IsSomeAnd, refl, ap, sym, ◌∙◌, subst, inl, inr, append_assoc, length-append, arith}
use Rattle.std.proofs.lemmas.Bool.{or_left, cond_both, eqb-true}
use Rattle.std.proofs.lemmas.List.{drop-drop, drop_at, take_at, take_rest, take-append-drop, length-drop}
use Rattle.sb_postgres.specs.declared.query.actions.Scope.{Scope}
use Rattle.sb_postgres.specs.declared.query.actions.Scope.TheVariants.{BehindThen, InActions}
use Rattle.sb_postgres.specs.declared.query.error.Fault.TheVariants as fault
use Rattle.sb_postgres.specs.declared.query.error.Refusal.{Refusal}
use Rattle.sb_postgres.specs.declared.query.piece.PieceKind.{PieceKind}
use Rattle.sb_postgres.specs.declared.query.piece.PieceKind.TheVariants as k
use Rattle.sb_postgres.specs.Bytes.{is_blank}
use Rattle.sb_postgres.specs.Actions.{is_byte, kind_in}
use Rattle.sb_postgres.specs.Drafts.{Drafted, nothing, places, with_gap, first_gap, spaced, spaced_by, with_bytes, limited, with_text, with_gap_behind, with_name, with_piece}
use Rattle.sb_postgres.specs.Lines.{refusal, shown, unprintable, inside, is_name}
use Rattle.sb_postgres.specs.Origins.{is_gap, Shows, StandsAt, AreOrigins}
use Rattle.sb_postgres.specs.Pieces as p
use Rattle.sb_postgres.specs.Pieces.{IsPiece, doubled}
use Rattle.sb_postgres.specs.Scan.{Found, piece_at}
use Rattle.sb_postgres.proofs.Found.{Sound, piece-sound}

pub record Stands (text : List ℕ) (d : Drafted) : Type 0 where
  pub origins : AreOrigins text d.bytes d.origins
  pub gap : IfSome d.gap (λ g. StandsAt text g 32)

-- ---- places

reads : (text rest : List ℕ) (at c : ℕ) → drop at text ≡ c ∷ rest → slice_get text at ≡ Some c
reads [] rest zero c e = absurd cc
reads [] rest (suc at) c e = absurd cc
reads (x ∷ text) rest zero c e = let f : x ≡ c = cc in ap (λ (y : ℕ). Some y) f
reads (x ∷ text) rest (suc at) c e = reads text rest at c e

stands-at : (text rest : List ℕ) (at c b : ℕ) → drop at text ≡ c ∷ rest → Shows c b → StandsAt text at b
stands-at text rest at c b e s = subst (λ (o : Option ℕ). IsSomeAnd o (λ c. Shows c b)) (sym (reads text rest at c e)) s

both : (text cs os bs ps : List ℕ) → AreOrigins text cs os → AreOrigins text bs ps → AreOrigins text (cs ++ bs) (os ++ ps)
both text [] [] bs ps h t = t
both text [] (o ∷ os) bs ps h t = absurd h
both text (c ∷ cs) [] bs ps h t = absurd h
both text (c ∷ cs) (o ∷ os) bs ps h t = (h.0, both text cs os bs ps h.1 t)

shown-shows : (kind : PieceKind) (b : ℕ) → Shows b (shown kind b)
shown-shows k.Constant b = inl refl
shown-shows k.Blank b = inr (inl refl)
shown-shows k.Semicolon b = inr (inl refl)
shown-shows k.QuotedName b = inr (inl refl)
shown-shows k.Parameter b = inr (inl refl)
shown-shows k.Word b = inr (inl refl)
shown-shows k.Byte b = inr (inl refl)

pieces-stand : (kind : PieceKind) (text bs rest : List ℕ) (at : ℕ) → drop at text ≡ bs ++ rest → AreOrigins text (map (shown kind) bs) (places at (length bs))
pieces-stand kind text [] rest at e = tt
pieces-stand kind text (b ∷ bs) rest at e =
    let next : drop (at + 1) text ≡ bs ++ rest = sym (drop-drop 1 at text) ∙ ap (drop 1) e in
    (stands-at text (bs ++ rest) at b (shown kind b) e (shown-shows kind b), pieces-stand kind text bs rest (at + 1) next)

-- ---- drafts

gapped : (text rest : List ℕ) (at c : ℕ) (d : Drafted) → drop at text ≡ c ∷ rest → is_gap c ≡ true → Stands text d → Stands text (with_gap at d)
gapped text rest at c d e g h =
    cond_both (length d.bytes == 0) d (record d { gap = first_gap at d.gap }) (Stands text) (λ z. h) (λ z. record { origins = h.origins; gap = go d.gap h.gap })
  where
    go : (o : Option ℕ) → IfSome o (λ g. StandsAt text g 32) → IfSome (first_gap at o) (λ g. StandsAt text g 32)
    go None t = stands-at text rest at c 32 e (inr (inr (refl, g)))
    go (Some x) t = t

spaced-stands : (text : List ℕ) (d : Drafted) (o : Option ℕ) → AreOrigins text d.bytes d.origins → IfSome o (λ g. StandsAt text g 32) → AreOrigins text (spaced_by d o).bytes (spaced_by d o).origins
spaced-stands text d None h t = h
spaced-stands text d (Some g) h t = both text d.bytes d.origins (32 ∷ []) (g ∷ []) h (t, tt)

length-shown : (kind : PieceKind) (bs : List ℕ) → length (map (shown kind) bs) ≡ length bs
length-shown kind [] = refl
length-shown kind (b ∷ bs) = ap suc (length-shown kind bs)

bytes-stand : (kind : PieceKind) (text bs rest : List ℕ) (place : ℕ) (d : Drafted) → drop place text ≡ bs ++ rest → Stands text d → Stands text (with_bytes place (map (shown kind) bs) d)
bytes-stand kind text bs rest place d e h = record {
  origins = both text (spaced d).bytes (spaced d).origins (map (shown kind) bs) (places place (length (map (shown kind) bs))) (spaced-stands text d d.gap h.origins h.gap)
      (subst (λ (n : ℕ). AreOrigins text (map (shown kind) bs) (places place n)) (sym (length-shown kind bs)) (pieces-stand kind text bs rest place e));
  gap = tt;
}

pub same_draft : (x y : Drafted) → ◌≡◌ {A = Result Drafted Refusal} (Ok x) (Ok y) → x ≡ y
same_draft x y e = cc

limited-stands : (text : List ℕ) (at : ℕ) (d e : Drafted) → limited at d ≡ Ok e → Stands text d → Stands text e
limited-stands text at d e is h = go (nat_le (length d.bytes) 4_096) refl is
  where
    go : (b : Bool) → nat_le (length d.bytes) 4_096 ≡ b → cond b (Ok d) (Err (refusal fault.TooLong at)) ≡ Ok e → Stands text e
    go true t is = subst (Stands text) (same_draft d e is) h
    go false t is = absurd cc

text-stands : (kind : PieceKind) (text bs rest : List ℕ) (at : ℕ) (d e : Drafted) (o : Option ℕ) → drop at text ≡ bs ++ rest → with_text kind at bs d o ≡ Ok e → Stands text d → Stands text e
text-stands kind text bs rest at d e None is made h = limited-stands text at (with_bytes at (map (shown kind) bs) d) e made (bytes-stand kind text bs rest at d is h)
text-stands kind text bs rest at d e (Some place) is made h = absurd cc

-- ---- pieces

blank-gap : (kind : PieceKind) (bytes rest : List ℕ) → IsPiece kind bytes rest → kind ≡ k.Blank → (c : ℕ) × (cs : List ℕ) × (bytes ≡ c ∷ cs) × (is_gap c ≡ true)
blank-gap kind bytes rest (p.blank {b = b} e) is = (b, [], refl, or_left (is_blank b) _ e)
blank-gap kind bytes rest (p.line_comment {bytes = bs} run ends) is = (45, 45 ∷ bs, refl, refl)
blank-gap kind bytes rest (p.block_comment {bytes = bs} h) is = (47, 42 ∷ bs, refl, refl)
blank-gap kind bytes rest p.semicolon is = absurd cc
blank-gap kind bytes rest (p.constant value ends) is = absurd cc
blank-gap kind bytes rest (p.quoted_name value ends) is = absurd cc
blank-gap kind bytes rest (p.parameter digit run ends) is = absurd cc
blank-gap kind bytes rest (p.word letter run ends plain) is = absurd cc
blank-gap kind bytes rest (p.byte alone shut) is = absurd cc

name-quotes : (kind : PieceKind) (bytes rest : List ℕ) → IsPiece kind bytes rest → kind ≡ k.QuotedName → (xs : List ℕ) × (bytes ≡ 34 ∷ xs ++ 34 ∷ [])
name-quotes kind bytes rest (p.blank e) is = absurd cc
name-quotes kind bytes rest (p.line_comment run ends) is = absurd cc
name-quotes kind bytes rest (p.block_comment h) is = absurd cc
name-quotes kind bytes rest p.semicolon is = absurd cc
name-quotes kind bytes rest (p.constant value ends) is = absurd cc
name-quotes kind bytes rest (p.quoted_name value ends) is = (doubled 34 value, refl)
name-quotes kind bytes rest (p.parameter digit run ends) is = absurd cc
name-quotes kind bytes rest (p.word letter run ends plain) is = absurd cc
name-quotes kind bytes rest (p.byte alone shut) is = absurd cc

inside-is : (xs : List ℕ) → inside (34 ∷ xs ++ 34 ∷ []) ≡ xs
inside-is xs =
    let n : suc (length (xs ++ 34 ∷ [])) - 2 ≡ length xs = omega (arith, length-append xs (34 ∷ [])) in
    ap (λ i. take i (xs ++ 34 ∷ [])) n ∙ take_at xs (34 ∷ []) (length xs) refl

name-stands : (text xs rest : List ℕ) (at : ℕ) (d e : Drafted) → drop at text ≡ (34 ∷ xs ++ 34 ∷ []) ++ rest → with_name at (34 ∷ xs ++ 34 ∷ []) d ≡ Ok e → Stands text d → Stands text e
name-stands text xs rest at d e is made h = go (is_name (inside (34 ∷ xs ++ 34 ∷ []))) made
  where
    -- behind the opening quote, and from the closing one on
    name : drop (at + 1) text ≡ inside (34 ∷ xs ++ 34 ∷ []) ++ 34 ∷ rest
    name = sym (drop-drop 1 at text) ∙ (ap (drop 1) is ∙ (append_assoc xs (34 ∷ []) rest ∙ ap (λ ys. ys ++ 34 ∷ rest) (sym (inside-is xs))))

    quote : drop (at + length (34 ∷ xs ++ 34 ∷ []) - 1) text ≡ 34 ∷ rest
    quote =
        let n : at + suc (length (xs ++ 34 ∷ [])) - 1 ≡ at + suc (length xs) = omega (arith, length-append xs (34 ∷ [])) in
        ap (λ i. drop i text) n ∙ (sym (drop-drop (suc (length xs)) at text) ∙ (ap (drop (suc (length xs))) is ∙ (ap (drop (length xs)) (append_assoc xs (34 ∷ []) rest) ∙ drop_at xs (34 ∷ rest) (length xs) refl)))

    begun : Stands text (with_gap at d)
    begun = gapped text ((xs ++ 34 ∷ []) ++ rest) at 34 d is refl h

    behind : (r : Result Drafted Refusal) → limited at (with_bytes (at + 1) (map (shown k.QuotedName) (inside (34 ∷ xs ++ 34 ∷ []))) (with_gap at d)) ≡ r
        → with_gap_behind (at + length (34 ∷ xs ++ 34 ∷ []) - 1) r ≡ Ok e → Stands text e
    behind (Ok f) l g =
        let t : Stands text f = limited-stands text at (with_bytes (at + 1) (map (shown k.QuotedName) (inside (34 ∷ xs ++ 34 ∷ []))) (with_gap at d)) f l (bytes-stand k.QuotedName text (inside (34 ∷ xs ++ 34 ∷ [])) (34 ∷ rest) (at + 1) (with_gap at d) name begun) in
        subst (Stands text) (same_draft _ e g) (gapped text rest (at + length (34 ∷ xs ++ 34 ∷ []) - 1) 34 f quote refl t)
    behind (Err r) l g = absurd cc

    go : (b : Bool) → cond b (with_gap_behind (at + length (34 ∷ xs ++ 34 ∷ []) - 1) (limited at (with_bytes (at + 1) (map (shown k.QuotedName) (inside (34 ∷ xs ++ 34 ∷ []))) (with_gap at d)))) (Err (refusal fault.Name at)) ≡ Ok e → Stands text e
    go true m = behind (limited at (with_bytes (at + 1) (map (shown k.QuotedName) (inside (34 ∷ xs ++ 34 ∷ []))) (with_gap at d))) refl m
    go false m = absurd cc

pub piece-stands : (kind : PieceKind) (text bytes rest : List ℕ) (at : ℕ) (d e : Drafted) → IsPiece kind bytes rest → drop at text ≡ bytes ++ rest → with_piece kind at bytes d ≡ Ok e → Stands text d → Stands text e
piece-stands k.Blank text bytes rest at d e piece is made h =
    let g = blank-gap k.Blank bytes rest piece refl in
    subst (Stands text) (same_draft (with_gap at d) e made) (gapped text (g.1 ++ rest) at g.0 d (is ∙ ap (λ bs. bs ++ rest) g.2) g.3 h)
piece-stands k.QuotedName text bytes rest at d e piece is made h =
    let q = name-quotes k.QuotedName bytes rest piece refl in
    name-stands text q.0 rest at d e (is ∙ ap (λ bs. bs ++ rest) q.1) (ap (λ bs. with_name at bs d) (sym q.1) ∙ made) h
piece-stands k.Semicolon text bytes rest at d e piece is made h = text-stands k.Semicolon text bytes rest at d e (unprintable at bytes) is made h
piece-stands k.Constant text bytes rest at d e piece is made h = text-stands k.Constant text bytes rest at d e (unprintable at bytes) is made h
piece-stands k.Parameter text bytes rest at d e piece is made h = text-stands k.Parameter text bytes rest at d e (unprintable at bytes) is made h
piece-stands k.Word text bytes rest at d e piece is made h = text-stands k.Word text bytes rest at d e (unprintable at bytes) is made h
piece-stands k.Byte text bytes rest at d e piece is made h = text-stands k.Byte text bytes rest at d e (unprintable at bytes) is made h

pub nothing-stands : (text : List ℕ) → Stands text nothing
nothing-stands text = record { origins = tt; gap = tt }

-- ---- as the code finds a piece and adds it

found-piece : (rest : List ℕ) (kind : PieceKind) (len : ℕ) → 0 < length rest → piece_at rest ≡ Ok (kind, len) → IsPiece kind (take len rest) (drop len rest)
found-piece [] kind len l e = absurd (omega arith)
found-piece (b ∷ bs) kind len l e =
    let h : Sound (Ok (kind, len)) (b ∷ bs) = subst (λ (r : Found). Sound r (b ∷ bs)) e (piece-sound b bs) in
    h.0

-- what a piece is among actions
one-byte : (c : ℕ) (bytes : List ℕ) → is_byte c bytes ≡ true → bytes ≡ c ∷ []
one-byte c [] e = absurd cc
one-byte c (b ∷ []) e = ap (λ x. x ∷ []) (eqb-true b c e)
one-byte c (b ∷ d ∷ bs) e = absurd cc

parenthesis : (c : ℕ) (text bytes rest : List ℕ) (at : ℕ) (d e : Drafted) → is_gap c ≡ true → bytes ≡ c ∷ [] → drop at text ≡ bytes ++ rest → with_piece k.Blank at bytes d ≡ Ok e → Stands text d → Stands text e
parenthesis c text bytes rest at d e g one is made h =
    subst (Stands text) (same_draft (with_gap at d) e made) (gapped text rest at c d (is ∙ ap (λ bs. bs ++ rest) one) g h)

maybe-gap : (c : ℕ) (text bytes rest : List ℕ) (at : ℕ) (d e : Drafted) → is_gap c ≡ true → IsPiece k.Byte bytes rest → drop at text ≡ bytes ++ rest → with_piece (cond (is_byte c bytes) k.Blank k.Byte) at bytes d ≡ Ok e → Stands text d → Stands text e
maybe-gap c text bytes rest at d e g piece is made h = go (is_byte c bytes) refl made
  where
    go : (b : Bool) → is_byte c bytes ≡ b → with_piece (cond b k.Blank k.Byte) at bytes d ≡ Ok e → Stands text e
    go true t m = parenthesis c text bytes rest at d e g (one-byte c bytes t) is m h
    go false t m = piece-stands k.Byte text bytes rest at d e piece is m h

semicolon-stands : (text bytes rest : List ℕ) (at : ℕ) (d e : Drafted) → drop at text ≡ bytes ++ rest → with_piece k.Byte at bytes d ≡ Ok e → Stands text d → Stands text e
semicolon-stands text bytes rest at d e is made h = text-stands k.Byte text bytes rest at d e (unprintable at bytes) is made h

scoped-stands : (scope : Scope) (kind : PieceKind) (text bytes rest : List ℕ) (at : ℕ) (d e : Drafted) → IsPiece kind bytes rest → drop at text ≡ bytes ++ rest → with_piece (kind_in scope kind bytes) at bytes d ≡ Ok e → Stands text d → Stands text e
scoped-stands BehindThen k.Byte text bytes rest at d e piece is made h = maybe-gap 40 text bytes rest at d e refl piece is made h
scoped-stands (InActions zero) k.Byte text bytes rest at d e piece is made h = maybe-gap 41 text bytes rest at d e refl piece is made h
scoped-stands (InActions zero) k.Semicolon text bytes rest at d e piece is made h = semicolon-stands text bytes rest at d e is made h
scoped-stands (InActions (suc depth)) k.Semicolon text bytes rest at d e piece is made h = semicolon-stands text bytes rest at d e is made h
scoped-stands scope kind text bytes rest at d e piece is made h = piece-stands kind text bytes rest at d e piece is made h

pub keeps : (text : List ℕ) (scope : Scope) (at : ℕ) (kind : PieceKind) (len : ℕ) (d e : Drafted) → at < length text → piece_at (take (length text - at) (drop at text)) ≡ Ok (kind, len)
    → with_piece (kind_in scope kind (take len (take (length text - at) (drop at text)))) at (take len (take (length text - at) (drop at text))) d ≡ Ok e → Stands text d → Stands text e
keeps text scope at kind len d e l found made h =
    let some : 0 < length (take (length text - at) (drop at text)) = rw (take_rest text at) (omega (arith, length-drop at text)) in
    scoped-stands scope kind text (take len (take (length text - at) (drop at text))) (drop len (take (length text - at) (drop at text))) at d e
    (found-piece (take (length text - at) (drop at text)) kind len some found) (sym (take_rest text at) ∙ sym (take-append-drop len (take (length text - at) (drop at text)))) made h
