-- Blocks that are found one after the other.
use Rattle.std.proofs.Common.{◌≡◌, ◌≢◌, ◌⊎◌, ℕ, ◌+◌, ◌<◌, ◌≤◌, ◌^◌, List, [], ◌∷◌, ◌++◌, length, get_or, drop, refl, sym, ◌∙◌, ap, subst, inl, inr, arith, length-append, length-drop, get_or-drop, drop-drop}
use Rattle.std.specs.Int.{w32, w64, to_be_bytes}
use Rattle.std.proofs.lemmas.Bool.{cases_lt}
use Rattle.std.proofs.lemmas.List.{get_or_append_left, nil_from_length}
use Rattle.sqlite_disk.specs.Disk.{Holds}
use Rattle.sqlite_disk.specs.Digest.{digest}
use Rattle.sb_durable.specs.SegmentBlocks.{block, IsEnd, IsOpen, GoOn}
use Rattle.sb_durable.proofs.Torn.{same_front}
use Rattle.sb_durable.proofs.SegmentReading.{same_parts, same_word, same_number, none_of, first_of}

-- what is read is there
pub held_front : (file bytes : List ℕ) (at : ℕ) → Holds file at bytes → drop at file ≡ bytes ++ drop (at + length bytes) file
held_front file bytes at holds =
    same_front bytes [] (drop at file) (omega (arith, holds.within, length-drop at file)) (λ i low. get_or-drop at file i 0 ∙ holds.each i low ∙ sym (get_or_append_left bytes [] 0 i low))
    ∙ ap (λ (l : List ℕ). bytes ++ l) (drop-drop (length bytes) at file)

-- and of no bytes that is true with no reading
pub filled_front : (file bytes : List ℕ) (at size : ℕ) → length bytes ≡ size → (0 < size → Holds file at bytes) → drop at file ≡ bytes ++ drop (at + size) file
filled_front file bytes at size long holds = elim (cases_lt 0 size) [
  | inl some ↦ held_front file bytes at (holds some) ∙ ap (λ (n : ℕ). bytes ++ drop (at + n) file) long
  | inr none ↦
      let empty : bytes ≡ [] = nil_from_length bytes (omega (arith, long, none)) in
      let same : at ≡ at + size = omega (arith, none) in
      ap (λ (n : ℕ). drop n file) same ∙ ap (λ (l : List ℕ). l ++ drop (at + size) file) (sym empty)
]

-- a gate, a length and a digest that are read
pub opening_there : (file bytes : List ℕ) (at gate size chain : ℕ) → Holds file at bytes → bytes ≡ gate ∷ (to_be_bytes w32 size ++ to_be_bytes w64 chain)
    → drop at file ≡ gate ∷ (to_be_bytes w32 size ++ (to_be_bytes w64 chain ++ drop (at + 13) file))
opening_there file bytes at gate size chain holds is =
    held_front file bytes at holds
    ∙ ap (λ (l : List ℕ). l ++ drop (at + length l) file) is

pub shut_end : (gate : ℕ) (rest bytes : List ℕ) → gate ≡ 0 → length rest ≤ 2 ^ 20 + 13 → bytes ≡ gate ∷ rest → IsEnd bytes
shut_end gate rest bytes shut few is = subst IsEnd (sym is) (inl (shut, few))

-- the file ends in a content
pub cut_end : (gate size chain : ℕ) (rest bytes : List ℕ) → size ≤ 2 ^ 20 → length rest < size → bytes ≡ gate ∷ (to_be_bytes w32 size ++ (to_be_bytes w64 chain ++ rest)) → IsEnd bytes
cut_end gate size chain rest bytes few less is = subst IsEnd (sym is) (inr (inr (size, chain, rest, few, less, refl)))

pub short_end : (bytes : List ℕ) → length bytes < 13 → IsEnd bytes
short_end [] short = tt
short_end (gate ∷ rest) short = inr (inl (omega arith))

-- A block that is open goes on as its length and its digest say, or the file ends in it.
open_block : (gate before size chain : ℕ) (rest bytes : List ℕ) (contents : List (List ℕ)) → IsOpen gate → size < 2 ^ 32 → bytes ≡ gate ∷ (to_be_bytes w32 size ++ (to_be_bytes w64 chain ++ rest)) → GoOn before contents bytes
    → (size ≤ 2 ^ 20) × ((length rest < size) ⊎ ((content more : List ℕ) × (length content ≡ size) × (to_be_bytes w64 chain ≡ to_be_bytes w64 (digest before content)) × (rest ≡ content ++ more)))
open_block gate before size chain rest bytes [] opened fits is goes = over goes.end goes.over (sym is ∙ none_of before bytes goes) where
  over : (end : List ℕ) → IsEnd end → gate ∷ (to_be_bytes w32 size ++ (to_be_bytes w64 chain ++ rest)) ≡ end
      → (size ≤ 2 ^ 20) × ((length rest < size) ⊎ ((content more : List ℕ) × (length content ≡ size) × (to_be_bytes w64 chain ≡ to_be_bytes w64 (digest before content)) × (rest ≡ content ++ more)))
  over [] ends same = absurd (omega (arith, ap length same))
  over (g ∷ end) (inl shut) same = absurd (opened (ap (λ (l : List ℕ). get_or l 0 0) same ∙ shut.0))
  over (g ∷ end) (inr (inl short)) same = absurd (omega (arith, short, ap length same))
  over (g ∷ end) (inr (inr (long, own, cut, few, less, here))) same =
      let bodies : to_be_bytes w32 size ++ (to_be_bytes w64 chain ++ rest) ≡ to_be_bytes w32 long ++ (to_be_bytes w64 own ++ cut) = ap (λ (l : List ℕ). drop 1 l) same ∙ here in
      let sizes = same_parts (to_be_bytes w32 size) (to_be_bytes w32 long) _ _ refl bodies in
      let rests = same_parts (to_be_bytes w64 chain) (to_be_bytes w64 own) rest cut refl sizes.1 in
      let count = same_word size long fits (omega (arith, few)) sizes.0 in
      (omega (arith, count, few), inl (omega (arith, count, less, ap length rests.1)))
open_block gate before size chain rest bytes (c ∷ contents) opened fits is goes =
    let behind = goes.are.1 ++ goes.end in
    let bodies : to_be_bytes w32 size ++ (to_be_bytes w64 chain ++ rest) ≡ to_be_bytes w32 (length c) ++ (to_be_bytes w64 (digest before c) ++ (c ++ behind)) =
    ap (λ (l : List ℕ). drop 1 l) (sym is ∙ first_of before c contents bytes goes) in
    let sizes = same_parts (to_be_bytes w32 size) (to_be_bytes w32 (length c)) _ _ refl bodies in
    let rests = same_parts (to_be_bytes w64 chain) (to_be_bytes w64 (digest before c)) rest (c ++ behind) refl sizes.1 in
    let small : length c ≤ 2 ^ 20 = goes.each.0 in
    let count = same_word size (length c) fits (omega (arith, small)) sizes.0 in
    (omega (arith, count, small), inr (c, behind, sym count, rests.0, rests.1))

-- more behind a shut gate than an append writes
pub no_long_shut : (before gate : ℕ) (rest bytes : List ℕ) (contents : List (List ℕ)) → gate ≡ 0 → 2 ^ 20 + 13 < length rest → bytes ≡ gate ∷ rest → GoOn before contents bytes → ⊥
no_long_shut before gate rest bytes [] shut long is goes = over goes.end goes.over (sym is ∙ none_of before bytes goes) where
  over : (end : List ℕ) → IsEnd end → gate ∷ rest ≡ end → ⊥
  over [] ends same = absurd (omega (arith, ap length same))
  over (g ∷ end) (inl other) same = absurd (omega (arith, other.1, long, ap length same))
  over (g ∷ end) (inr (inl short)) same = absurd (omega (arith, short, long, ap length same))
  over (g ∷ end) (inr (inr (size, own, cut, few, less, here))) same = absurd (omega (arith, few, less, long, ap length same, ap length here))
no_long_shut before gate rest bytes (c ∷ contents) shut long is goes =
    absurd (goes.are.2 (sym (ap (λ (l : List ℕ). get_or l 0 0) (sym is ∙ first_of before c contents bytes goes)) ∙ shut))

-- a length that no content has
pub no_long_block : (gate before size chain : ℕ) (rest bytes : List ℕ) (contents : List (List ℕ)) → IsOpen gate → size < 2 ^ 32 → 2 ^ 20 < size → bytes ≡ gate ∷ (to_be_bytes w32 size ++ (to_be_bytes w64 chain ++ rest)) → GoOn before contents bytes → ⊥
no_long_block gate before size chain rest bytes contents opened fits large is goes = absurd (omega (arith, large, (open_block gate before size chain rest bytes contents opened fits is goes).0))

-- a digest that the content hasn't
pub no_other_digest : (gate before size chain own : ℕ) (content more rest bytes : List ℕ) (contents : List (List ℕ)) → IsOpen gate → size < 2 ^ 32 → chain < 2 ^ 64 → own < 2 ^ 64 → length content ≡ size → rest ≡ content ++ more → own ≡ digest before content → own ≢ chain
    → bytes ≡ gate ∷ (to_be_bytes w32 size ++ (to_be_bytes w64 chain ++ rest)) → GoOn before contents bytes → ⊥
no_other_digest gate before size chain own content more rest bytes contents opened fits chain_fits own_fits long there owned other is goes = cases (open_block gate before size chain rest bytes contents opened fits is goes).1 where
  cases : (length rest < size) ⊎ ((c m : List ℕ) × (length c ≡ size) × (to_be_bytes w64 chain ≡ to_be_bytes w64 (digest before c)) × (rest ≡ c ++ m)) → ⊥
  cases (inl short) = absurd (omega (arith, short, long, ap length there, length-append content more))
  cases (inr (c, m, count, digests, same)) =
      let texts = same_parts content c more m (long ∙ sym count) (sym there ∙ same) in
      let found : own ≡ digest before c = owned ∙ ap (λ (l : List ℕ). digest before l) texts.0 in
      other (sym (same_number chain own chain_fits own_fits (digests ∙ ap (λ (n : ℕ). to_be_bytes w64 n) (sym found))))

-- a length and a digest that the content has
pub block_found : (gate before size chain own : ℕ) (content more bytes : List ℕ) → length content ≡ size → own ≡ digest before content → own ≡ chain
    → bytes ≡ gate ∷ (to_be_bytes w32 size ++ (to_be_bytes w64 chain ++ (content ++ more))) → bytes ≡ block gate before content ++ more
block_found gate before size chain own content more bytes long owned same is =
    is
    ∙ ap (λ (n : ℕ). gate ∷ (to_be_bytes w32 n ++ (to_be_bytes w64 chain ++ (content ++ more)))) (sym long)
    ∙ ap (λ (n : ℕ). gate ∷ (to_be_bytes w32 (length content) ++ (to_be_bytes w64 n ++ (content ++ more)))) (sym same ∙ owned)
