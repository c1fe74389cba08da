-- Contents that are read, each at its place.
use Rattle.std.proofs.Common.{◌≡◌, ◌≢◌, ℕ, ◌+◌, ◌<◌, ◌≤◌, List, [], ◌∷◌, ◌++◌, length, drop, Some, None, refl, sym, ◌∙◌, ap, inl, inr, arith, length-append, append_assoc, drop-drop}
use Rattle.std.specs.List.{AllByRecursion}
use Rattle.std.proofs.lemmas.Bool.{cases_lt}
use Rattle.std.proofs.lemmas.List.{append-nil, drop_at, nil_from_length}
use Rattle.sqlite_disk.specs.Disk.{Holds}
use Rattle.sb_durable.specs.Blocks.{block, blocks, IsContent, IsEnd, Stands}
use Rattle.sb_durable.specs.Ends.{BeginsWith}
use Rattle.sb_durable.specs.Log.{HasAll, Reads}
use Rattle.sb_durable.specs.declared.record_log.RecordLog.{RecordLog}
use Rattle.sb_durable.proofs.Contents.{blocks-push}
use Rattle.sb_durable.proofs.Reading.{same_parts, one_block, no_block_at_end}
use Rattle.sb_durable.proofs.Walk.{held_front}

blocks-append : (xs ys : List (List ℕ)) → blocks (xs ++ ys) ≡ blocks xs ++ blocks ys
blocks-append [] ys = refl
blocks-append (x ∷ xs) ys = ap (λ (l : List ℕ). block x ++ l) (blocks-append xs ys) ∙ sym (append_assoc (block x) (blocks xs) (blocks ys))

each_back : (front back : List (List ℕ)) → AllByRecursion IsContent (front ++ back) → AllByRecursion IsContent back
each_back [] back each = each
each_back (c ∷ front) back each = each_back front back each.1

-- what is read of a block whose length is known
content_read : (file bytes : List ℕ) (at size : ℕ) → (begins : BeginsWith (drop at file) size) → length bytes ≡ size → (0 < size → Holds file (at + 5) bytes) → bytes ≡ begins.content
content_read file bytes at size begins long holds = elim (cases_lt 0 size) [
  | inl some ↦
      let behind : drop (at + 5) file ≡ begins.content ++ begins.more = sym (drop-drop 5 at file) ∙ ap (λ (l : List ℕ). drop 5 l) begins.whole in
      let same : bytes ++ drop (at + 5 + length bytes) file ≡ begins.content ++ begins.more = sym (held_front file bytes (at + 5) (holds some)) ∙ behind in
      (same_parts bytes begins.content (drop (at + 5 + length bytes) file) begins.more (omega (arith, long, begins.long)) same).0
  | inr none ↦ nil_from_length bytes (omega (arith, long, none)) ∙ sym (nil_from_length begins.content (omega (arith, begins.long, none)))
]

none_read : (front back : List (List ℕ)) (bytes rest : List ℕ) (gate : ℕ) → AllByRecursion IsContent back → rest ≡ blocks back ++ gate ∷ [] → IsEnd rest → Reads front back bytes None
none_read front [] bytes rest gate each is over = refl
none_read front (c ∷ back) bytes rest gate each is over = absurd (no_block_at_end c (blocks back ++ gate ∷ []) rest each.0 over (is ∙ append_assoc (block c) (blocks back) (gate ∷ [])))

some_read : (front back : List (List ℕ)) (file bytes : List ℕ) (at size gate : ℕ) → AllByRecursion IsContent back → gate ≢ 1 → drop at file ≡ blocks back ++ gate ∷ [] → at ≡ length (blocks front)
    → BeginsWith (drop at file) size → length bytes ≡ size → (0 < size → Holds file (at + 5) bytes) → Reads front back bytes (Some (at + 5 + size))
some_read front [] file bytes at size gate each shut is here begins long holds =
    absurd (no_block_at_end begins.content begins.more (gate ∷ []) begins.small (inl shut) (sym is ∙ begins.whole))
some_read front (c ∷ back) file bytes at size gate each shut is here begins long holds =
    let parts = one_block begins.content c begins.more (blocks back ++ gate ∷ []) begins.small each.0 (sym begins.whole ∙ is ∙ append_assoc (block c) (blocks back) (gate ∷ [])) in
    let count : length c ≡ size = ap length (sym parts.0) ∙ begins.long in (
      content_read file bytes at size begins long holds ∙ parts.0,
      ap Some (omega (arith, here, count, ap length (append-nil (blocks (front ++ c ∷ []))), ap length (blocks-push front c []), ap length (append-nil (block c)), length-append (blocks front) (block c ++ []))),
    )

module _ {D : Type 0} (seen : D → List ℕ) (may_leave : D → List ℕ → Type 0) (log : RecordLog D) (front back : List (List ℕ)) (has : HasAll seen may_leave log (front ++ back)) (at : ℕ) (here : at ≡ length (blocks front)) where
  whole : seen log.device ≡ blocks front ++ (blocks back ++ has.file.gate ∷ [])
  whole = has.file.whole ∙ ap (λ (l : List ℕ). l ++ has.file.gate ∷ []) (blocks-append front back) ∙ append_assoc (blocks front) (blocks back) (has.file.gate ∷ [])

  rest : drop at (seen log.device) ≡ blocks back ++ has.file.gate ∷ []
  rest = ap (λ (l : List ℕ). drop at l) whole ∙ drop_at (blocks front) (blocks back ++ has.file.gate ∷ []) at (sym here)

  pub place_within : at ≤ length (seen log.device)
  place_within = omega (arith, here, ap length whole, length-append (blocks front) (blocks back ++ has.file.gate ∷ []))

  pub place_stands : Stands back (drop at (seen log.device))
  place_stands = record { each = each_back front back has.each; end = has.file.gate ∷ []; whole = rest; over = inl has.file.shut }

  pub place_none : (bytes : List ℕ) → IsEnd (drop at (seen log.device)) → Reads front back bytes None
  place_none bytes over = none_read front back bytes (drop at (seen log.device)) has.file.gate (each_back front back has.each) rest over

  pub place_some : (bytes : List ℕ) (size : ℕ) → BeginsWith (drop at (seen log.device)) size → length bytes ≡ size → (0 < size → Holds (seen log.device) (at + 5) bytes) → Reads front back bytes (Some (at + 5 + size))
  place_some bytes size begins long holds = some_read front back (seen log.device) bytes at size has.file.gate (each_back front back has.each) has.file.shut rest here begins long holds
