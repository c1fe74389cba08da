-- A file of blocks that is cut at any byte stands for its first contents.
use Rattle.std.proofs.Common.{◌≡◌, ◌⊎◌, ℕ, zero, suc, ◌+◌, ◌-◌, ◌<◌, ◌≤◌, ◌^◌, List, [], ◌∷◌, ◌++◌, length, take, drop, refl, sym, ◌∙◌, ap, subst, inl, inr, arith, append_assoc}
use Rattle.std.specs.List.{AllByRecursion}
use Rattle.std.specs.Int.{w32, to_be_bytes}
use Rattle.std.proofs.lemmas.Bool.{cases_lt}
use Rattle.std.proofs.lemmas.List.{length-take}
use Rattle.sb_durable.specs.Blocks.{body, block, blocks, IsContent, IsCutShort, IsEnd, Stands}
use Rattle.sb_durable.specs.Records.{Entry, bytes_of}
use Rattle.sb_durable.specs.Journal.{head_bytes, contents_of, all_of, Keeps}
use Rattle.sb_durable.specs.declared.journal_header.Head.{Head}

take_behind : (front rest : List ℕ) (n count : ℕ) → count ≡ length front + n → take count (front ++ rest) ≡ front ++ take n rest
take_behind [] rest n count is =
    let here : count ≡ n = omega (arith, is) in
    ap (λ (k : ℕ). take k rest) here
take_behind (x ∷ front) rest n count is =
    let here : count ≡ suc (length front + n) = omega (arith, is) in
    ap (λ (k : ℕ). take k (x ∷ (front ++ rest))) here ∙ ap (λ (l : List ℕ). x ∷ l) (take_behind front rest n (length front + n) refl)

few_of : (n : ℕ) (bytes : List ℕ) → length (take n bytes) ≤ n
few_of n bytes = omega (arith, length-take n bytes)

-- a length and less than it says
first_of_body : (n size : ℕ) (content rest : List ℕ) → size ≤ 2 ^ 20 → rest ≡ to_be_bytes w32 size ++ content → (4 ≤ n → length (take (n - 4) content) < size) → IsCutShort (take n rest)
first_of_body n size content rest few is less = elim (cases_lt n 4) [
  | inl low ↦ inl (omega (arith, low, few_of n rest))
  | inr high ↦
      inr (size, take (n - 4) content, few, less high, ap (λ (l : List ℕ). take n l) is ∙ take_behind (to_be_bytes w32 size) content (n - 4) n (omega (arith, high)))
]

still_short : (n : ℕ) (rest : List ℕ) → IsCutShort rest → IsCutShort (take n rest)
still_short n rest (inl short) = inl (omega (arith, short, length-take n rest))
still_short n rest (inr (size, content, few, less, is)) = first_of_body n size content rest few is (λ high. omega (arith, less, length-take (n - 4) content))

still_end : (n : ℕ) (end : List ℕ) → IsEnd end → IsEnd (take n end)
still_end zero end over = tt
still_end (suc n) [] over = tt
still_end (suc n) (gate ∷ rest) (inl shut) = inl shut
still_end (suc n) (gate ∷ rest) (inr cut) = inr (still_short n rest cut)

within_block : (n : ℕ) (content more : List ℕ) → IsContent content → n < 5 + length content → IsEnd (take n (block content ++ more))
within_block zero content more small few = tt
within_block (suc n) content more small few =
    inr (first_of_body n (length content) (content ++ more) (body content ++ more) small (append_assoc (to_be_bytes w32 (length content)) content more) (λ high. omega (arith, high, few, few_of (n - 4) (content ++ more))))

first_blocks : (n : ℕ) (contents : List (List ℕ)) (end : List ℕ) → AllByRecursion IsContent contents → IsEnd end → (k : ℕ) × Stands (take k contents) (take n (blocks contents ++ end))
first_blocks n [] end each over = (0, record { each = tt; end = take n end; whole = refl; over = still_end n end over })
first_blocks n (c ∷ contents) end each over =
    let rest = blocks contents ++ end in
    let split : blocks (c ∷ contents) ++ end ≡ block c ++ rest = append_assoc (block c) (blocks contents) end in
    elim (cases_lt n (5 + length c)) [
      | inl few ↦ (0, record { each = tt; end = take n (blocks (c ∷ contents) ++ end); whole = refl; over = subst (λ (l : List ℕ). IsEnd (take n l)) (sym split) (within_block n c rest each.0 few) })
      | inr many ↦
          let left = n - (5 + length c) in
          let later = first_blocks left contents end each.1 over in (
            suc later.0,
            record {
              each = (each.0, later.1.each);
              end = later.1.end;
              whole =
                  ap (λ (l : List ℕ). take n l) split
                  ∙ take_behind (block c) rest left n (omega (arith, many))
                  ∙ ap (λ (l : List ℕ). block c ++ l) later.1.whole
                  ∙ sym (append_assoc (block c) (blocks (take later.0 contents)) later.1.end);
              over = later.1.over;
            },
          )
    ]

pub shortened : (n : ℕ) (contents : List (List ℕ)) (file : List ℕ) → Stands contents file → (k : ℕ) × Stands (take k contents) (take n file)
shortened n contents file stands =
    subst (λ (f : List ℕ). (k : ℕ) × Stands (take k contents) (take n f)) (sym stands.whole) (first_blocks n contents stands.end stands.each stands.over)

first_batches : (k : ℕ) (batches : List (List Entry)) → take k (contents_of batches) ≡ contents_of (take k batches)
first_batches zero batches = refl
first_batches (suc k) [] = refl
first_batches (suc k) (b ∷ batches) = ap (λ (l : List (List ℕ)). bytes_of b ∷ l) (first_batches k batches)

first_and_others : (k : ℕ) (batches : List (List Entry)) → all_of batches ≡ all_of (take k batches) ++ all_of (drop k batches)
first_and_others zero batches = refl
first_and_others (suc k) [] = refl
first_and_others (suc k) (b ∷ batches) = ap (λ (l : List Entry). b ++ l) (first_and_others k batches) ∙ sym (append_assoc b (all_of (take k batches)) (all_of (drop k batches)))

-- A journal's file that is cut has nothing, or the head and the first records.
pub keeps_first : (n : ℕ) (head : Head) (entries : List Entry) (file : List ℕ) → Keeps head entries file
    → Stands [] (take n file) ⊎ ((first others : List Entry) × (entries ≡ first ++ others) × Keeps head first (take n file))
keeps_first n head entries file keeps = pieces (shortened n _ file keeps.stands) where
  pieces : (k : ℕ) × Stands (take k (head_bytes head ∷ contents_of keeps.batches)) (take n file) → Stands [] (take n file) ⊎ ((first others : List Entry) × (entries ≡ first ++ others) × Keeps head first (take n file))
  pieces (zero, stands) = inl stands
  pieces (suc k, stands) = inr (
    all_of (take k keeps.batches),
    all_of (drop k keeps.batches),
    keeps.all ∙ first_and_others k keeps.batches,
    record { batches = take k keeps.batches; stands = subst (λ (cs : List (List ℕ)). Stands (head_bytes head ∷ cs) (take n file)) (first_batches k keeps.batches) stands; all = refl },
  )
