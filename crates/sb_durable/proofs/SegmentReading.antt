-- A file of a segment has one reading.
use Rattle.std.proofs.Common.{◌≡◌, ℕ, ◌<◌, ◌^◌, List, [], ◌∷◌, ◌++◌, length, get_or, take, drop, refl, sym, ◌∙◌, ap, subst, inl, inr, arith, length-append, append_assoc}
use Rattle.std.specs.Int.{w32, w64, to_be_bytes, from_be_bytes}
use Rattle.std.proofs.lemmas.Nat.{from_be_bytes-to_be_bytes_4, from_be_bytes-to_be_bytes_8}
use Rattle.std.proofs.lemmas.List.{take_at, drop_at}
use Rattle.sqlite_disk.specs.Digest.{digest}
use Rattle.sb_durable.specs.SegmentBlocks.{body, block, IsContent, IsCutShort, IsEnd, IsOpen, GoOn}
use Rattle.sb_durable.specs.Head.{Head, IsHead, IsOpened, head_text, head_bytes, head_digest}
use Rattle.sb_durable.specs.Chain.{OneFileOneSegment}

pub same_parts : (a b x y : List ℕ) → length a ≡ length b → a ++ x ≡ b ++ y → (a ≡ b) × (x ≡ y)
same_parts a b x y long same = (
  sym (take_at a x (length b) long) ∙ ap (λ (l : List ℕ). take (length b) l) same ∙ take_at b y (length b) refl,
  sym (drop_at a x (length b) long) ∙ ap (λ (l : List ℕ). drop (length b) l) same ∙ drop_at b y (length b) refl,
)

pub same_word : (m n : ℕ) → m < 2 ^ 32 → n < 2 ^ 32 → to_be_bytes w32 m ≡ to_be_bytes w32 n → m ≡ n
same_word m n fits other_fits same =
    sym (from_be_bytes-to_be_bytes_4 m fits) ∙ ap (from_be_bytes w32) same ∙ from_be_bytes-to_be_bytes_4 n other_fits

pub same_number : (m n : ℕ) → m < 2 ^ 64 → n < 2 ^ 64 → to_be_bytes w64 m ≡ to_be_bytes w64 n → m ≡ n
same_number m n fits other_fits same =
    sym (from_be_bytes-to_be_bytes_8 m fits) ∙ ap (from_be_bytes w64) same ∙ from_be_bytes-to_be_bytes_8 n other_fits

-- no head's text begins another
pub one_head : (head other : Head) (x y : List ℕ) → IsHead head → IsHead other → head_text head ++ x ≡ head_text other ++ y → (head ≡ other) × (x ≡ y)
one_head head other x y fits other_fits same =
    let behind_mark : to_be_bytes w64 head.number ++ (to_be_bytes w64 head.before ++ (to_be_bytes w32 (length head.settings) ++ (head.settings ++ x)))
    ≡ to_be_bytes w64 other.number ++ (to_be_bytes w64 other.before ++ (to_be_bytes w32 (length other.settings) ++ (other.settings ++ y))) = ap (λ (l : List ℕ). drop 7 l) same in
    let numbers = same_parts (to_be_bytes w64 head.number) (to_be_bytes w64 other.number) _ _ refl behind_mark in
    let befores = same_parts (to_be_bytes w64 head.before) (to_be_bytes w64 other.before) _ _ refl numbers.1 in
    let sizes = same_parts (to_be_bytes w32 (length head.settings)) (to_be_bytes w32 (length other.settings)) (head.settings ++ x) (other.settings ++ y) refl befores.1 in
    let long = same_word (length head.settings) (length other.settings) (omega (arith, fits.2)) (omega (arith, other_fits.2)) sizes.0 in
    let settings = same_parts head.settings other.settings x y long sizes.1 in (
      ap (λ (n : ℕ). let made : Head = record { number = n; before = head.before; settings = head.settings } in made) (same_number head.number other.number fits.0 other_fits.0 numbers.0)
          ∙ ap (λ (n : ℕ). let made : Head = record { number = other.number; before = n; settings = head.settings } in made) (same_number head.before other.before fits.1 other_fits.1 befores.0)
          ∙ ap (λ (l : List ℕ). let made : Head = record { number = other.number; before = other.before; settings = l } in made) settings.0,
      settings.1,
    )

-- no block begins another under the same digest
pub one_block : (gate other before : ℕ) (a b x y : List ℕ) → IsContent a → IsContent b → block gate before a ++ x ≡ block other before b ++ y → (a ≡ b) × (x ≡ y)
one_block gate other before a b x y small_a small_b same =
    let bodies : to_be_bytes w32 (length a) ++ (to_be_bytes w64 (digest before a) ++ (a ++ x)) ≡ to_be_bytes w32 (length b) ++ (to_be_bytes w64 (digest before b) ++ (b ++ y)) = ap (λ (l : List ℕ). drop 1 l) same in
    let sizes = same_parts (to_be_bytes w32 (length a)) (to_be_bytes w32 (length b)) _ _ refl bodies in
    let digests = same_parts (to_be_bytes w64 (digest before a)) (to_be_bytes w64 (digest before b)) (a ++ x) (b ++ y) refl sizes.1 in
    same_parts a b x y (same_word (length a) (length b) (omega (arith, small_a)) (omega (arith, small_b)) sizes.0) digests.1

-- a body that is there isn't cut short
not_cut : (own : ℕ) (content more rest : List ℕ) → IsContent content → IsCutShort rest → rest ≡ body own content ++ more → ⊥
not_cut own content more rest small (inl short) same = absurd (omega (arith, short, ap length same))
not_cut own content more rest small (inr (size, chain, cut, few, less, is)) same =
    let bodies : to_be_bytes w32 (length content) ++ (to_be_bytes w64 own ++ (content ++ more)) ≡ to_be_bytes w32 size ++ (to_be_bytes w64 chain ++ cut) = sym same ∙ is in
    let sizes = same_parts (to_be_bytes w32 (length content)) (to_be_bytes w32 size) _ _ refl bodies in
    let digests = same_parts (to_be_bytes w64 own) (to_be_bytes w64 chain) (content ++ more) cut refl sizes.1 in
    let long = same_word (length content) size (omega (arith, small)) (omega (arith, few)) sizes.0 in
    absurd (omega (arith, long, less, ap length digests.1, length-append content more))

-- where an end is, no block begins
pub no_block_at_end : (gate before : ℕ) (content more end : List ℕ) → IsContent content → IsOpen gate → IsEnd end → end ≡ block gate before content ++ more → ⊥
no_block_at_end gate before content more [] small opened over same = absurd (omega (arith, ap length same))
no_block_at_end gate before content more (g ∷ rest) small opened (inl shut) same = opened (sym (ap (λ (l : List ℕ). get_or l 0 0) same) ∙ shut.0)
no_block_at_end gate before content more (g ∷ rest) small opened (inr cut) same = not_cut (digest before content) content more rest small cut (ap (λ (l : List ℕ). drop 1 l) same)

-- where there are no blocks, the bytes are an end
pub none_of : (before : ℕ) (bytes : List ℕ) (goes : GoOn before [] bytes) → bytes ≡ goes.end
none_of before bytes goes = goes.whole ∙ ap (λ (l : List ℕ). l ++ goes.end) goes.are

-- else the first of them stands in front, and the others behind it
module _ (before : ℕ) (content : List ℕ) (contents : List (List ℕ)) (bytes : List ℕ) (goes : GoOn before (content ∷ contents) bytes) where
  pub first_of : bytes ≡ block goes.are.0 before content ++ (goes.are.1 ++ goes.end)
  first_of = goes.whole ∙ ap (λ (l : List ℕ). l ++ goes.end) goes.are.3 ∙ append_assoc (block goes.are.0 before content) goes.are.1 goes.end

  pub others_of : GoOn (digest before content) contents (goes.are.1 ++ goes.end)
  others_of = record { each = goes.each.1; front = goes.are.1; are = goes.are.4; end = goes.end; whole = refl; over = goes.over }

pub one_list : (before : ℕ) (contents others : List (List ℕ)) (bytes : List ℕ) → GoOn before contents bytes → GoOn before others bytes → contents ≡ others
one_list before [] [] bytes as_one as_other = refl
one_list before (c ∷ contents) [] bytes as_one as_other =
    absurd (no_block_at_end as_one.are.0 before c (as_one.are.1 ++ as_one.end) as_other.end as_one.each.0 as_one.are.2 as_other.over (sym (none_of before bytes as_other) ∙ first_of before c contents bytes as_one))
one_list before [] (d ∷ others) bytes as_one as_other =
    absurd (no_block_at_end as_other.are.0 before d (as_other.are.1 ++ as_other.end) as_one.end as_other.each.0 as_other.are.2 as_one.over (sym (none_of before bytes as_one) ∙ first_of before d others bytes as_other))
one_list before (c ∷ contents) (d ∷ others) bytes as_one as_other =
    let behind = as_one.are.1 ++ as_one.end in
    let parts = one_block as_one.are.0 as_other.are.0 before c d behind (as_other.are.1 ++ as_other.end) as_one.each.0 as_other.each.0
    (sym (first_of before c contents bytes as_one) ∙ first_of before d others bytes as_other) in
    let more : GoOn (digest before c) others behind =
    subst (λ (l : List ℕ). GoOn (digest before l) others behind) (sym parts.0) (subst (λ (l : List ℕ). GoOn (digest before d) others l) (sym parts.1) (others_of before d others bytes as_other)) in
    ap (λ (l : List ℕ). l ∷ contents) parts.0 ∙ ap (λ (l : List (List ℕ)). d ∷ l) (one_list (digest before c) contents others behind (others_of before c contents bytes as_one) more)

-- one file has one text behind its gate
pub same_opened : (a b file : List ℕ) → IsOpened a file → IsOpened b file → a ≡ b
same_opened a b file as_one as_other = ap (λ (l : List ℕ). drop 1 l) (sym as_one.whole ∙ as_other.whole)

-- no head begins another
pub same_heads : (head other : Head) (rest behind : List ℕ) → IsHead head → IsHead other → head_bytes head ++ rest ≡ head_bytes other ++ behind → (head ≡ other) × (rest ≡ behind)
same_heads head other rest behind fits other_fits same =
    let texts = one_head head other _ _ fits other_fits (sym (append_assoc (head_text head) (to_be_bytes w64 (head_digest head)) rest) ∙ same ∙ append_assoc (head_text other) (to_be_bytes w64 (head_digest other)) behind) in
    (texts.0, (same_parts (to_be_bytes w64 (head_digest head)) (to_be_bytes w64 (head_digest other)) rest behind refl texts.1).1)

pub one_file_one_segment : OneFileOneSegment
one_file_one_segment file head other contents others as_one as_other =
    let heads = same_heads head other as_one.rest as_other.rest as_one.fits as_other.fits (same_opened _ _ file as_one.begins as_other.begins) in
    let moved : GoOn (head_digest head) others as_one.rest =
    subst (λ (h : Head). GoOn (head_digest h) others as_one.rest) (sym heads.0) (subst (λ (l : List ℕ). GoOn (head_digest other) others l) (sym heads.1) as_other.behind) in
    (heads.0, one_list (head_digest head) contents others as_one.rest as_one.behind moved)
