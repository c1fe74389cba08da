-- A file's blocks have one reading.
use Rattle.std.proofs.Common.{◌≡◌, ℕ, List, [], ◌∷◌, ◌++◌, length, get_or, take, drop, refl, sym, ◌∙◌, ap, subst, inl, inr, arith, length-append, append_assoc}
use Rattle.std.specs.List.{AllByRecursion}
use Rattle.std.specs.Int.{w32, to_be_bytes, from_be_bytes}
use Rattle.std.proofs.lemmas.Nat.{from_be_bytes-to_be_bytes_4}
use Rattle.std.proofs.lemmas.List.{append-nil, take_at, drop_at}
use Rattle.sb_durable.specs.Blocks.{body, block, blocks, IsContent, IsCutShort, IsEnd, Stands}

pub same_parts : (a b x y : List ℕ) → length a ≡ length b → a ++ x ≡ b ++ y → (a ≡ b) × (x ≡ y)
same_parts a b x y long same = (
  sym (take_at a x (length b) long) ∙ ap (λ (l : List ℕ). take (length b) l) same ∙ take_at b y (length b) refl,
  sym (drop_at a x (length b) long) ∙ ap (λ (l : List ℕ). drop (length b) l) same ∙ drop_at b y (length b) refl,
)

-- no block begins another
pub one_block : (a b x y : List ℕ) → IsContent a → IsContent b → block a ++ x ≡ block b ++ y → (a ≡ b) × (x ≡ y)
one_block a b x y small_a small_b same =
    let bodies : to_be_bytes w32 (length a) ++ (a ++ x) ≡ to_be_bytes w32 (length b) ++ (b ++ y) =
    sym (append_assoc (to_be_bytes w32 (length a)) a x) ∙ ap (λ (l : List ℕ). drop 1 l) same ∙ append_assoc (to_be_bytes w32 (length b)) b y in
    let parts = same_parts (to_be_bytes w32 (length a)) (to_be_bytes w32 (length b)) (a ++ x) (b ++ y) refl bodies in
    let long : length a ≡ length b =
    sym (from_be_bytes-to_be_bytes_4 (length a) (omega (arith, small_a))) ∙ ap (from_be_bytes w32) parts.0 ∙ from_be_bytes-to_be_bytes_4 (length b) (omega (arith, small_b)) in
    same_parts a b x y long parts.1

-- a body that is there isn't cut short
not_cut : (content more rest : List ℕ) → IsContent content → IsCutShort rest → rest ≡ body content ++ more → ⊥
not_cut content more rest small (inl short) same = absurd (omega (arith, short, ap length same, length-append (body content) more, length-append (to_be_bytes w32 (length content)) content))
not_cut content more rest small (inr (size, cut, few, less, is)) same =
    let parts = same_parts (to_be_bytes w32 (length content)) (to_be_bytes w32 size) (content ++ more) cut refl (sym (append_assoc (to_be_bytes w32 (length content)) content more) ∙ sym same ∙ is) in
    let long : length content ≡ size =
    sym (from_be_bytes-to_be_bytes_4 (length content) (omega (arith, small))) ∙ ap (from_be_bytes w32) parts.0 ∙ from_be_bytes-to_be_bytes_4 size (omega (arith, few)) in
    absurd (omega (arith, long, less, ap length parts.1, length-append content more))

-- where an end is, no block begins
pub no_block_at_end : (content more end : List ℕ) → IsContent content → IsEnd end → end ≡ block content ++ more → ⊥
no_block_at_end content more [] small over same = absurd (omega (arith, ap length same))
no_block_at_end content more (gate ∷ rest) small (inl shut) same = shut (ap (λ (l : List ℕ). get_or l 0 0) same)
no_block_at_end content more (gate ∷ rest) small (inr cut) same = not_cut content more rest small cut (ap (λ (l : List ℕ). drop 1 l) same)

-- behind blocks that are there stand the others
pub stands_rest : (front contents : List (List ℕ)) (rest file : List ℕ) → AllByRecursion IsContent front → file ≡ blocks front ++ rest → Stands contents file → (back : List (List ℕ)) × (contents ≡ front ++ back) × Stands back rest
stands_rest [] contents rest file each is stands = (contents, refl, subst (λ (f : List ℕ). Stands contents f) is stands)
stands_rest (c ∷ front) [] rest file each is stands =
    absurd (no_block_at_end c (blocks front ++ rest) stands.end each.0 stands.over (sym stands.whole ∙ is ∙ append_assoc (block c) (blocks front) rest))
stands_rest (c ∷ front) (d ∷ contents) rest file each is stands =
    let same : block c ++ (blocks front ++ rest) ≡ block d ++ (blocks contents ++ stands.end) =
    sym (append_assoc (block c) (blocks front) rest) ∙ sym is ∙ stands.whole ∙ append_assoc (block d) (blocks contents) stands.end in
    let parts = one_block c d (blocks front ++ rest) (blocks contents ++ stands.end) each.0 stands.each.0 same in
    let more = stands_rest front contents rest (blocks front ++ rest) each.1 refl (record { each = stands.each.1; end = stands.end; whole = parts.1; over = stands.over }) in
    (more.0, ap (λ (x : List ℕ). x ∷ contents) (sym parts.0) ∙ ap (λ (l : List (List ℕ)). c ∷ l) more.1, more.2)

none_at_end : (back : List (List ℕ)) (end : List ℕ) → IsEnd end → Stands back end → back ≡ []
none_at_end [] end over stands = refl
none_at_end (c ∷ back) end over stands = absurd (no_block_at_end c (blocks back ++ stands.end) end stands.each.0 over (stands.whole ∙ append_assoc (block c) (blocks back) stands.end))

pub one_reading : (xs ys : List (List ℕ)) (file : List ℕ) → Stands xs file → Stands ys file → xs ≡ ys
one_reading xs ys file as_xs as_ys =
    let more = stands_rest xs ys as_xs.end file as_xs.each as_xs.whole as_ys in
    sym (more.1 ∙ ap (λ (l : List (List ℕ)). xs ++ l) (none_at_end more.0 as_xs.end as_xs.over more.2) ∙ append-nil xs)
