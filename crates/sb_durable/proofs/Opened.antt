-- A file whose head and whose blocks were read.
use Rattle.std.proofs.Common.{◌≡◌, ℕ, ◌+◌, List, ◌∷◌, ◌++◌, length, take, drop, refl, sym, ◌∙◌, ap, arith, subst, append_assoc}
use Rattle.std.proofs.lemmas.List.{take_at, drop_at}
use Rattle.sb_durable.specs.SegmentBlocks.{size_of, end_digest, GoOn}
use Rattle.sb_durable.specs.Head.{Head, IsHead, IsOpened, head_bytes, head_digest, head_size, Stands}
use Rattle.sb_durable.specs.Segment.{IsBehind}
use Rattle.sb_durable.specs.SegmentEnds.{Ends}
use Rattle.sb_durable.specs.declared.segment.place.Place.{Place}
use Rattle.sb_durable.proofs.SegmentReading.{same_heads, same_opened}
use Rattle.sb_durable.proofs.Heads.{length-head}
use Rattle.sb_durable.proofs.SegmentShortened.{shortened}

module _ (file rest : List ℕ) (head : Head) (first : Place) (fits : IsHead head) (is : IsOpened (head_bytes head ++ rest) file) (at : first.at ≡ 36 + length head.settings) (own : first.chain ≡ head_digest head) where
  pub rest_there : drop first.at file ≡ rest
  rest_there = ap (λ (l : List ℕ). drop first.at l) is.whole ∙ drop_at (is.gate ∷ head_bytes head) rest first.at (omega (arith, length-head head, at))

  -- what goes on behind another head of the same bytes
  moved_here : (other : Head) (contents : List (List ℕ)) (bytes : List ℕ) → head ≡ other → bytes ≡ rest → GoOn (head_digest other) contents bytes → GoOn first.chain contents (drop first.at file)
  moved_here other contents bytes same there goes =
      subst (λ (n : ℕ). GoOn n contents (drop first.at file)) (ap (λ (h : Head). head_digest h) (sym same) ∙ sym own)
      (subst (λ (l : List ℕ). GoOn (head_digest other) contents l) (there ∙ sym rest_there) goes)

  pub opened_end : (other : Head) (contents : List (List ℕ)) (end : Place) → Stands other contents file → ((found : List (List ℕ)) → GoOn first.chain found (drop first.at file) → Ends first found end) → (head ≡ other) × IsBehind other contents end
  opened_end other contents end stands ends =
      let heads = same_heads head other rest stands.rest fits stands.fits (same_opened _ _ file is stands.begins) in
      let there = ends contents (moved_here other contents stands.rest heads.0 (sym heads.1) stands.behind) in
      let key : first.chain ≡ head_digest other = own ∙ ap (λ (h : Head). head_digest h) heads.0 in
      let start : first.at ≡ head_size other = at ∙ ap (λ (h : Head). head_size h) heads.0 in (
        heads.0,
        record {
          at = there.at ∙ ap (λ (n : ℕ). n + size_of contents) start;
          chain = there.chain ∙ ap (λ (n : ℕ). end_digest n contents) key;
        },
      )

  pub opened_cut : (other : Head) (contents : List (List ℕ)) (tail : List ℕ) → Stands other contents (file ++ tail) → ((found : List (List ℕ)) → GoOn first.chain found (drop first.at file) → ⊥) → ⊥
  opened_cut other contents tail stands none =
      let same : head_bytes head ++ (rest ++ tail) ≡ head_bytes other ++ stands.rest =
      sym (append_assoc (head_bytes head) rest tail) ∙ ap (λ (l : List ℕ). drop 1 l) (ap (λ (l : List ℕ). l ++ tail) (sym is.whole) ∙ stands.begins.whole) in
      let heads = same_heads head other (rest ++ tail) stands.rest fits stands.fits same in
      let first_bytes : take (length rest) stands.rest ≡ rest = ap (λ (l : List ℕ). take (length rest) l) (sym heads.1) ∙ take_at rest tail (length rest) refl in
      let short = shortened (length rest) (head_digest other) contents stands.rest stands.behind in
      none (take short.0 contents) (moved_here other (take short.0 contents) (take (length rest) stands.rest) heads.0 first_bytes short.1)
