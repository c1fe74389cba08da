-- Blocks that are cut at any byte stand for the first contents.
use Rattle.std.proofs.Common.{◌≡◌, ℕ, zero, suc, ◌+◌, ◌-◌, ◌<◌, ◌≤◌, ◌^◌, List, [], ◌∷◌, ◌++◌, length, take, refl, sym, ◌∙◌, ap, subst, inl, inr, arith, append_assoc}
use Rattle.std.specs.Int.{w32, w64, to_be_bytes}
use Rattle.std.proofs.lemmas.Bool.{cases_lt}
use Rattle.std.proofs.lemmas.List.{length-take}
use Rattle.sqlite_disk.specs.Digest.{digest}
use Rattle.sb_durable.specs.SegmentBlocks.{body, block, IsContent, IsCutShort, IsEnd, GoOn}
use Rattle.sb_durable.proofs.SegmentReading.{none_of, first_of, others_of}

pub take_behind : (front rest : List ℕ) (n count : ℕ) → count ≡ length front + n → take count (front ++ rest) ≡ front ++ take n rest
take_behind [] rest n count is =
    let here : count ≡ n = omega (arith, is) in
    ap (λ (k : ℕ). take k rest) here
take_behind (x ∷ front) rest n count is =
    let here : count ≡ suc (length front + n) = omega (arith, is) in
    ap (λ (k : ℕ). take k (x ∷ (front ++ rest))) here ∙ ap (λ (l : List ℕ). x ∷ l) (take_behind front rest n (length front + n) refl)

pub few_of : (n : ℕ) (bytes : List ℕ) → length (take n bytes) ≤ n
few_of n bytes = omega (arith, length-take n bytes)

-- a length, a digest and less than the length says
first_of_body : (n size own : ℕ) (content rest : List ℕ) → size ≤ 2 ^ 20 → rest ≡ to_be_bytes w32 size ++ (to_be_bytes w64 own ++ content) → (12 ≤ n → length (take (n - 12) content) < size) → IsCutShort (take n rest)
first_of_body n size own content rest few is less = elim (cases_lt n 12) [
  | inl low ↦ inl (omega (arith, low, few_of n rest))
  | inr high ↦
      let front = to_be_bytes w32 size ++ to_be_bytes w64 own in
      inr (size, own, take (n - 12) content, few, less high, ap (λ (l : List ℕ). take n l) is ∙ take_behind (to_be_bytes w32 size ++ to_be_bytes w64 own) content (n - 12) n (omega (arith, high)))
]

still_short : (n : ℕ) (rest : List ℕ) → IsCutShort rest → IsCutShort (take n rest)
still_short n rest (inl short) = inl (omega (arith, short, length-take n rest))
still_short n rest (inr (size, own, content, few, less, is)) = first_of_body n size own content rest few is (λ high. omega (arith, less, length-take (n - 12) content))

still_end : (n : ℕ) (end : List ℕ) → IsEnd end → IsEnd (take n end)
still_end zero end over = tt
still_end (suc n) [] over = tt
still_end (suc n) (gate ∷ rest) (inl shut) = inl (shut.0, omega (arith, shut.1, length-take n rest))
still_end (suc n) (gate ∷ rest) (inr cut) = inr (still_short n rest cut)

within_block : (n gate before : ℕ) (content more : List ℕ) → IsContent content → n < 13 + length content → IsEnd (take n (block gate before content ++ more))
within_block zero gate before content more small few = tt
within_block (suc n) gate before content more small few =
    inr (first_of_body n (length content) (digest before content) (content ++ more) (body (digest before content) content ++ more) small refl (λ high. omega (arith, high, few, few_of (n - 12) (content ++ more))))

-- no block is whole
none_whole : (n before : ℕ) (bytes : List ℕ) → IsEnd (take n bytes) → GoOn before [] (take n bytes)
none_whole n before bytes over = record { each = tt; front = []; are = refl; end = take n bytes; whole = refl; over = over }

pub shortened : (n before : ℕ) (contents : List (List ℕ)) (bytes : List ℕ) → GoOn before contents bytes → (k : ℕ) × GoOn before (take k contents) (take n bytes)
shortened n before [] bytes goes = (0, none_whole n before bytes (subst (λ (l : List ℕ). IsEnd (take n l)) (sym (none_of before bytes goes)) (still_end n goes.end goes.over)))
shortened n before (c ∷ contents) bytes goes =
    let one = block goes.are.0 before c in
    let rest = goes.are.1 ++ goes.end in
    let split = first_of before c contents bytes goes in
    elim (cases_lt n (13 + length c)) [
      | inl few ↦ (0, none_whole n before bytes (subst (λ (l : List ℕ). IsEnd (take n l)) (sym split) (within_block n goes.are.0 before c rest goes.each.0 few)))
      | inr many ↦
          let left = n - (13 + length c) in
          let later = shortened left (digest before c) contents rest (others_of before c contents bytes goes) in (
            suc later.0,
            record {
              each = (goes.each.0, later.1.each);
              front = one ++ later.1.front;
              are = (goes.are.0, later.1.front, goes.are.2, refl, later.1.are);
              end = later.1.end;
              whole =
                  ap (λ (l : List ℕ). take n l) split
                  ∙ take_behind one rest left n (omega (arith, many))
                  ∙ ap (λ (l : List ℕ). one ++ l) later.1.whole
                  ∙ sym (append_assoc one later.1.front later.1.end);
              over = later.1.over;
            },
          )
    ]
