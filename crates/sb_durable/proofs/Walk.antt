-- Blocks that are found one after the other.
use Rattle.std.proofs.Common.{◌≡◌, ℕ, ◌+◌, ◌<◌, ◌≤◌, ◌^◌, List, [], ◌∷◌, ◌++◌, length, get_or, take, drop, refl, sym, ◌∙◌, ap, subst, inl, inr, arith, length-append, length-drop, append_assoc, take-append-drop, length-take-le, get_or-drop, drop-drop}
use Rattle.std.specs.Int.{w32, to_be_bytes, from_be_bytes}
use Rattle.std.proofs.lemmas.Nat.{from_be_bytes-to_be_bytes_4}
use Rattle.std.proofs.lemmas.List.{append-nil, drop_at, get_or_append_left}
use Rattle.sqlite_disk.specs.Disk.{Holds}
use Rattle.sb_durable.specs.Blocks.{block, blocks, IsCutShort, IsEnd, Stands}
use Rattle.sb_durable.specs.Ends.{BeginsWith, Walked}
use Rattle.sb_durable.proofs.Torn.{same_front}
use Rattle.sb_durable.proofs.Contents.{each-push, blocks-push}
use Rattle.sb_durable.proofs.Reading.{same_parts, stands_rest, one_reading}

-- what is read is there
pub held_front : (file bytes : List ℕ) (at : ℕ) → Holds file at bytes → drop at file ≡ bytes ++ drop (at + length bytes) file
held_front file bytes at holds =
    same_front bytes [] (drop at file) (omega (arith, holds.within, length-drop at file)) (λ i low. get_or-drop at file i 0 ∙ holds.each i low ∙ sym (get_or_append_left bytes [] 0 i low))
    ∙ ap (λ (l : List ℕ). bytes ++ l) (drop-drop (length bytes) at file)

pub gate_there : (file buf : List ℕ) (at : ℕ) → Holds file at buf → length buf ≡ 1 → get_or buf 0 0 ≡ 1 → drop at file ≡ 1 ∷ drop (at + 1) file
gate_there file [] at holds one opened = absurd (omega (arith, one))
gate_there file (gate ∷ []) at holds one opened = held_front file (gate ∷ []) at holds ∙ ap (λ (n : ℕ). n ∷ drop (at + 1) file) opened
gate_there file (gate ∷ next ∷ buf) at holds one opened = absurd (omega (arith, one))

-- the end of the file cuts a body short
pub cut_end : (bytes more : List ℕ) → bytes ≡ 1 ∷ more → IsCutShort more → IsEnd bytes
cut_end bytes more is cut = subst IsEnd (sym is) (inr cut)

-- a length that no content has, behind an open gate, is no end
not_over : (size more : List ℕ) (n : ℕ) → length size ≡ 4 → n ≡ from_be_bytes w32 size → 2 ^ 20 < n → IsEnd (1 ∷ (size ++ more)) → ⊥
not_over size more n four reads large (inl shut) = shut refl
not_over size more n four reads large (inr (inl short)) = absurd (omega (arith, four, short, length-append size more))
not_over size more n four reads large (inr (inr (m, content, few, less, is))) =
    let parts = same_parts size (to_be_bytes w32 m) more content four is in
    let long : n ≡ m = reads ∙ ap (from_be_bytes w32) parts.0 ∙ from_be_bytes-to_be_bytes_4 m (omega (arith, few)) in
    absurd (omega (arith, long, few, large))

module _ (bytes size more : List ℕ) (n : ℕ) (is : bytes ≡ 1 ∷ (size ++ more)) (four : length size ≡ 4) (reads : n ≡ from_be_bytes w32 size) where
  -- a length that no content has
  pub no_long_block : (contents : List (List ℕ)) → Stands contents bytes → 2 ^ 20 < n → ⊥
  no_long_block [] stands large = not_over size more n four reads large (subst IsEnd (sym stands.whole ∙ is) stands.over)
  no_long_block (c ∷ contents) stands large =
      let rest = blocks contents ++ stands.end in
      let same : size ++ more ≡ to_be_bytes w32 (length c) ++ (c ++ rest) =
      ap (λ (l : List ℕ). drop 1 l) (sym is ∙ stands.whole ∙ append_assoc (block c) (blocks contents) stands.end) ∙ append_assoc (to_be_bytes w32 (length c)) c rest in
      let parts = same_parts size (to_be_bytes w32 (length c)) more (c ++ rest) four same in
      let long : n ≡ length c = reads ∙ ap (from_be_bytes w32) parts.0 ∙ from_be_bytes-to_be_bytes_4 (length c) (omega (arith, stands.each.0)) in
      absurd (omega (arith, long, large, stands.each.0))

  pub block_found : to_be_bytes w32 n ≡ size → n ≤ 2 ^ 20 → n + 5 ≤ length bytes → BeginsWith bytes n
  block_found sized few fits =
      let long : length (take n more) ≡ n = length-take-le n more (omega (arith, fits, ap length is, four, length-append size more)) in
      let same : to_be_bytes w32 (length (take n more)) ≡ size = ap (to_be_bytes w32) long ∙ sized in
      record {
        content = take n more;
        more = drop n more;
        small = omega (arith, long, few);
        long = long;
        whole = is ∙ ap (λ (l : List ℕ). 1 ∷ l) (
            ap (λ (l : List ℕ). size ++ l) (sym (take-append-drop n more))
            ∙ sym (append_assoc size (take n more) (drop n more))
            ∙ ap (λ (l : List ℕ). l ++ take n more ++ drop n more) (sym same)
            );
      }

pub walked_start : (file : List ℕ) → Walked file 0
walked_start file = record { front = []; each = tt; reach = refl; whole = refl }

pub walked_on : (file : List ℕ) (at n next : ℕ) → Walked file at → BeginsWith (drop at file) n → next ≡ at + (5 + n) → Walked file next
walked_on file at n next walked begins is =
    let content = begins.content in
    let size : length (block content) ≡ 5 + n = omega (arith, begins.long) in
    let rest : drop next file ≡ begins.more =
    ap (λ (k : ℕ). drop k file) is ∙ sym (drop-drop (5 + n) at file) ∙ ap (λ (l : List ℕ). drop (5 + n) l) begins.whole ∙ drop_at (block content) begins.more (5 + n) size in
    record {
      front = walked.front ++ content ∷ [];
      each = each-push walked.front content walked.each begins.small;
      reach = omega (arith, is, walked.reach, size, length-append (blocks walked.front) (block content), ap length (append-nil (blocks (walked.front ++ content ∷ []))), ap length (blocks-push walked.front content []), ap length (append-nil (block content)), length-append (blocks walked.front) (block content ++ []));
      whole = walked.whole ∙ ap (λ (l : List ℕ). blocks walked.front ++ l) (begins.whole ∙ ap (λ (l : List ℕ). block content ++ l) (sym rest)) ∙ sym (blocks-push walked.front content (drop next file));
    }

pub walked_end : (file : List ℕ) (at : ℕ) (contents : List (List ℕ)) → Walked file at → IsEnd (drop at file) → Stands contents file → at ≡ length (blocks contents)
walked_end file at contents walked over stands =
    let here : Stands walked.front file = record { each = walked.each; end = drop at file; whole = walked.whole; over = over } in
    walked.reach ∙ ap (λ (cs : List (List ℕ)). length (blocks cs)) (one_reading walked.front contents file here stands)

pub walked_damaged : (file : List ℕ) (at : ℕ) (contents : List (List ℕ)) → Walked file at → ((back : List (List ℕ)) → Stands back (drop at file) → ⊥) → Stands contents file → ⊥
walked_damaged file at contents walked none stands =
    let more = stands_rest walked.front contents (drop at file) file walked.each walked.whole stands in
    none more.0 more.2
