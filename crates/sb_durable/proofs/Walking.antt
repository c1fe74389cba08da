-- Blocks that were read one after the other.
use Rattle.std.proofs.Common.{◌≡◌, ℕ, ◌+◌, List, [], ◌∷◌, ◌++◌, length, drop, refl, sym, ◌∙◌, ap, subst, arith, append_assoc, drop-drop}
use Rattle.std.specs.List.{AllByRecursion}
use Rattle.std.proofs.lemmas.List.{drop_at}
use Rattle.sqlite_disk.specs.Digest.{digest}
use Rattle.sb_durable.specs.SegmentBlocks.{block, AreBlocks, size_of, end_digest, IsContent, IsEnd, IsOpen, GoOn}
use Rattle.sb_durable.specs.Segment.{Bears}
use Rattle.sb_durable.specs.SegmentEnds.{Walked, Ends}
use Rattle.sb_durable.specs.declared.segment.place.Place.{Place}
use Rattle.sb_durable.proofs.SegmentContents.{each-push, end-push, are-push, size-push}
use Rattle.sb_durable.proofs.SegmentReading.{one_block, one_list, no_block_at_end, none_of, first_of, others_of}

pub walked_start : (sure : Type 0) (file : List ℕ) (first : Place) → Walked sure file first first
walked_start sure file first = record { contents = []; each = tt; at = omega arith; chain = refl; whole = λ _. ([], refl, refl) }

pub walked_on : (sure still : Type 0) (file content : List ℕ) (first place next : Place) → (still → sure) → Walked sure file first place → Bears place content next
    → (still → (gate : ℕ) × (more : List ℕ) × IsOpen gate × (drop place.at file ≡ block gate place.chain content ++ more)) → Walked still file first next
walked_on sure still file content first place next keeps walked bears begins =
    record {
      contents = walked.contents ++ content ∷ [];
      each = each-push walked.contents content walked.each bears.small;
      at = omega (arith, bears.at, walked.at, size-push walked.contents content);
      chain = bears.chain ∙ ap (λ (n : ℕ). digest n content) walked.chain ∙ sym (end-push first.chain walked.contents content);
      whole = λ (is : still).
          let there = begins is in
          let before = walked.whole (keeps is) in
          let one = block there.0 place.chain content in
          let last = block there.0 (end_digest first.chain walked.contents) content in
          let same : one ≡ last = ap (λ (n : ℕ). block there.0 n content) walked.chain in
          let size : length (block there.0 place.chain content) ≡ 13 + length content = omega arith in
          let rest : drop next.at file ≡ there.1 =
          ap (λ (k : ℕ). drop k file) bears.at ∙ sym (drop-drop (13 + length content) place.at file) ∙ ap (λ (l : List ℕ). drop (13 + length content) l) there.3 ∙ drop_at one there.1 (13 + length content) size in (
            before.0 ++ last,
            are-push first.chain there.0 walked.contents content before.0 before.1 there.2,
            before.2
                ∙ ap (λ (l : List ℕ). before.0 ++ l) (there.3 ∙ ap (λ (l : List ℕ). one ++ l) (sym rest) ∙ ap (λ (l : List ℕ). l ++ drop next.at file) same)
                ∙ sym (append_assoc before.0 last (drop next.at file)),
          );
    }

-- fewer answers are known to be true
pub walked_less : (sure still : Type 0) (file : List ℕ) (first place : Place) → (still → sure) → Walked sure file first place → Walked still file first place
walked_less sure still file first place keeps walked =
    record { contents = walked.contents; each = walked.each; at = walked.at; chain = walked.chain; whole = λ is. walked.whole (keeps is) }

pub walked_end : (sure : Type 0) (file : List ℕ) (first place : Place) (contents : List (List ℕ)) → sure → Walked sure file first place → IsEnd (drop place.at file) → GoOn first.chain contents (drop first.at file) → Ends first contents place
walked_end sure file first place contents is walked over goes =
    let there = walked.whole is in
    let here : GoOn first.chain walked.contents (drop first.at file) = record { each = walked.each; front = there.0; are = there.1; end = drop place.at file; whole = there.2; over = over } in
    let same = one_list first.chain walked.contents contents (drop first.at file) here goes in record {
      at = walked.at ∙ ap (λ (cs : List (List ℕ)). first.at + size_of cs) same;
      chain = walked.chain ∙ ap (λ (cs : List (List ℕ)). end_digest first.chain cs) same;
    }

-- behind blocks that are there stand the others
pub goes_behind : (before : ℕ) (found contents : List (List ℕ)) (front rest bytes : List ℕ) → AllByRecursion IsContent found → AreBlocks before found front → bytes ≡ front ++ rest → GoOn before contents bytes
    → (back : List (List ℕ)) × (contents ≡ found ++ back) × GoOn (end_digest before found) back rest
goes_behind before [] contents front rest bytes each are is goes =
    (contents, refl, subst (λ (f : List ℕ). GoOn before contents f) (is ∙ ap (λ (l : List ℕ). l ++ rest) are) goes)
goes_behind before (c ∷ found) [] front rest bytes each are is goes =
    absurd (no_block_at_end are.0 before c (are.1 ++ rest) goes.end each.0 are.2 goes.over (sym (none_of before bytes goes) ∙ is ∙ ap (λ (l : List ℕ). l ++ rest) are.3 ∙ append_assoc (block are.0 before c) are.1 rest))
goes_behind before (c ∷ found) (d ∷ contents) front rest bytes each are is goes =
    let here : bytes ≡ block are.0 before c ++ (are.1 ++ rest) = is ∙ ap (λ (l : List ℕ). l ++ rest) are.3 ∙ append_assoc (block are.0 before c) are.1 rest in
    let parts = one_block are.0 goes.are.0 before c d (are.1 ++ rest) (goes.are.1 ++ goes.end) each.0 goes.each.0 (sym here ∙ first_of before d contents bytes goes) in
    let others : GoOn (digest before d) contents (are.1 ++ rest) = subst (λ (l : List ℕ). GoOn (digest before d) contents l) (sym parts.1) (others_of before d contents bytes goes) in
    let more = goes_behind (digest before c) found contents are.1 rest (are.1 ++ rest) each.1 are.4 refl (subst (λ (l : List ℕ). GoOn (digest before l) contents (are.1 ++ rest)) (sym parts.0) others) in
    (more.0, ap (λ (x : List ℕ). x ∷ contents) (sym parts.0) ∙ ap (λ (l : List (List ℕ)). c ∷ l) more.1, more.2)

pub walked_damaged : (sure : Type 0) (file : List ℕ) (first place : Place) (contents : List (List ℕ)) → sure → Walked sure file first place
    → ((back : List (List ℕ)) → GoOn place.chain back (drop place.at file) → ⊥) → GoOn first.chain contents (drop first.at file) → ⊥
walked_damaged sure file first place contents is walked none goes =
    let there = walked.whole is in
    let more = goes_behind first.chain walked.contents contents there.0 (drop place.at file) (drop first.at file) walked.each there.1 there.2 goes in
    none more.0 (subst (λ (n : ℕ). GoOn n more.0 (drop place.at file)) (sym walked.chain) more.2)
