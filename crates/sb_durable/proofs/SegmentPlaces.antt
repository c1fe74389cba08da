-- Contents that are read, each at its place.
use Rattle.std.proofs.Common.{◌≡◌, ◌≢◌, ℕ, ◌+◌, ◌<◌, ◌≤◌, List, [], ◌∷◌, ◌++◌, length, drop, refl, sym, ◌∙◌, ap, subst, arith, length-append, append_assoc, append-nil, Some, None}
use Rattle.std.specs.List.{AllByRecursion}
use Rattle.std.proofs.lemmas.List.{drop_at}
use Rattle.sqlite_disk.specs.Digest.{digest}
use Rattle.sb_durable.specs.SegmentBlocks.{block, AreBlocks, size_of, end_digest, IsContent, IsEnd, IsOpen, GoOn}
use Rattle.sb_durable.specs.Head.{Head, head_bytes, head_digest, last_digest, Stands}
use Rattle.sb_durable.specs.Segment.{IsBehind, Bears, Reads}
use Rattle.sb_durable.specs.declared.segment.place.Place.{Place}
use Rattle.sb_durable.proofs.Heads.{length-head}
use Rattle.sb_durable.proofs.SegmentContents.{end-push, size-push, length-blocks}
use Rattle.sb_durable.proofs.SegmentReading.{one_block, no_block_at_end, none_of, first_of}

-- blocks of two lists, one behind the other
pub split_blocks : (before : ℕ) (xs ys : List (List ℕ)) (bytes : List ℕ) → AreBlocks before (xs ++ ys) bytes
    → (front back : List ℕ) × AreBlocks before xs front × AreBlocks (end_digest before xs) ys back × (bytes ≡ front ++ back)
split_blocks before [] ys bytes are = ([], bytes, refl, are, refl)
split_blocks before (x ∷ xs) ys bytes are =
    let more = split_blocks (digest before x) xs ys are.1 are.4 in
    let one = block are.0 before x in
    (one ++ more.0, more.1, (are.0, more.0, are.2, refl, more.2), more.3, are.3 ∙ ap (λ (l : List ℕ). one ++ l) more.4 ∙ sym (append_assoc one more.0 more.1))

pub size-append : (xs ys : List (List ℕ)) → size_of (xs ++ ys) ≡ size_of xs + size_of ys
size-append [] ys = omega arith
size-append (x ∷ xs) ys = omega (arith, size-append xs ys)

each_back : (front back : List (List ℕ)) → AllByRecursion IsContent (front ++ back) → AllByRecursion IsContent back
each_back [] back each = each
each_back (c ∷ front) back each = each_back front back each.1

module _ (head : Head) (file : List ℕ) (front : List (List ℕ)) (place end : Place) (here : IsBehind head front place) where
  module _ (back : List (List ℕ)) (stands : Stands head (front ++ back) file) (last : IsBehind head (front ++ back) end) where
    parts : (a b : List ℕ) × AreBlocks (head_digest head) front a × AreBlocks (last_digest head front) back b × (stands.behind.front ≡ a ++ b)
    parts = split_blocks (head_digest head) front back stands.behind.front stands.behind.are

    -- what stands before the place
    before_it : List ℕ
    before_it = stands.begins.gate ∷ (head_bytes head ++ parts.0)

    whole : file ≡ before_it ++ (parts.1 ++ stands.behind.end)
    unfolding before_it
    whole =
        stands.begins.whole
        ∙ ap (λ (l : List ℕ). stands.begins.gate ∷ l) (
        ap (λ (l : List ℕ). head_bytes head ++ l) (stands.behind.whole ∙ ap (λ (l : List ℕ). l ++ stands.behind.end) parts.4 ∙ append_assoc parts.0 parts.1 stands.behind.end)
        ∙ sym (append_assoc (head_bytes head) parts.0 (parts.1 ++ stands.behind.end))
        )

    size : length before_it ≡ place.at
    unfolding before_it
    size = omega (arith, here.at, length-append (head_bytes head) parts.0, length-head head, length-blocks (head_digest head) front parts.0 parts.2)

    rest : drop place.at file ≡ parts.1 ++ stands.behind.end
    rest = ap (λ (l : List ℕ). drop place.at l) whole ∙ drop_at before_it (parts.1 ++ stands.behind.end) place.at size

    pub place_within : place.at ≤ length file
    place_within = omega (arith, size, ap length whole, length-append before_it (parts.1 ++ stands.behind.end))

    pub place_goes : GoOn place.chain back (drop place.at file)
    place_goes =
        subst (λ (n : ℕ). GoOn n back (drop place.at file)) (sym here.chain)
        (record { each = each_back front back stands.behind.each; front = parts.1; are = parts.3; end = stands.behind.end; whole = rest; over = stands.behind.over })

    -- how far the end is
    far : end.at ≡ place.at + size_of back
    far = omega (arith, last.at, here.at, size-append front back)

  -- at the end there are no others
  none_left : (back : List (List ℕ)) → Stands head (front ++ back) file → IsBehind head (front ++ back) end → place.at ≡ end.at → back ≡ []
  none_left [] stands last same = refl
  none_left (c ∷ back) stands last same = absurd (omega (arith, same, far (c ∷ back) stands last))

  pub at_end_reads : (back : List (List ℕ)) (content : List ℕ) → Stands head (front ++ back) file → IsBehind head (front ++ back) end → place.at ≡ end.at → Reads head front back content None
  at_end_reads back content stands last same = subst (λ (cs : List (List ℕ)). Reads head front cs content None) (sym (none_left back stands last same)) tt

  pub at_end_damaged : (back : List (List ℕ)) → Stands head (front ++ back) file → IsBehind head (front ++ back) end → place.at ≡ end.at → place.chain ≢ end.chain → ⊥
  at_end_damaged back stands last same differ =
      let none : front ++ back ≡ front = ap (λ (cs : List (List ℕ)). front ++ cs) (none_left back stands last same) ∙ append-nil front in
      differ (here.chain ∙ sym (last.chain ∙ ap (λ (cs : List (List ℕ)). last_digest head cs) none))

  -- a block is there before the end
  pub no_end_before : (back : List (List ℕ)) → Stands head (front ++ back) file → IsBehind head (front ++ back) end → place.at ≢ end.at → IsEnd (drop place.at file) → ⊥
  no_end_before [] stands last other over = other (omega (arith, far [] stands last))
  no_end_before (c ∷ back) stands last other over =
      let goes = place_goes (c ∷ back) stands last in
      no_block_at_end goes.are.0 place.chain c (goes.are.1 ++ goes.end) (drop place.at file) goes.each.0 goes.are.2 over (first_of place.chain c back (drop place.at file) goes)

  module _ (content more : List ℕ) (gate : ℕ) (opened : IsOpen gate) (next : Place) (bears : Bears place content next) (found : drop place.at file ≡ block gate place.chain content ++ more) where
    no_block : Stands head (front ++ []) file → IsBehind head (front ++ []) end → ⊥
    no_block stands last =
        let goes = place_goes [] stands last in
        no_block_at_end gate place.chain content more goes.end bears.small opened goes.over (sym (none_of place.chain (drop place.at file) goes) ∙ found)

    same_content : (c : List ℕ) (back : List (List ℕ)) → Stands head (front ++ c ∷ back) file → IsBehind head (front ++ c ∷ back) end → content ≡ c
    same_content c back stands last =
        let goes = place_goes (c ∷ back) stands last in
        (one_block gate goes.are.0 place.chain content c more (goes.are.1 ++ goes.end) bears.small goes.each.0 (sym found ∙ first_of place.chain c back (drop place.at file) goes)).0

    pub block_reads : (back : List (List ℕ)) → Stands head (front ++ back) file → IsBehind head (front ++ back) end → Reads head front back content (Some next)
    block_reads [] stands last = no_block stands last
    block_reads (c ∷ back) stands last =
        let same = same_content c back stands last in (
          same,
          record {
            at = omega (arith, bears.at, here.at, ap length same, size-push front c);
            chain = bears.chain ∙ ap (λ (n : ℕ). digest n content) here.chain ∙ ap (λ (l : List ℕ). digest (last_digest head front) l) same ∙ sym (end-push (head_digest head) front c);
          },
        )

    pub block_within : (back : List (List ℕ)) → Stands head (front ++ back) file → IsBehind head (front ++ back) end → end.at < next.at → ⊥
    block_within [] stands last beyond = no_block stands last
    block_within (c ∷ back) stands last beyond = absurd (omega (arith, beyond, bears.at, far (c ∷ back) stands last, ap length (same_content c back stands last)))
