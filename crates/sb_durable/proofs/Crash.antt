-- What a crash leaves while a content is added.
use Rattle.std.proofs.Common.{◌≡◌, ℕ, false, ◌+◌, ◌<◌, ◌≤◌, ◌^◌, List, [], ◌∷◌, ◌++◌, length, get_or, sym, ◌∙◌, ap, subst, arith, length-append, length-drop, append_assoc}
use Rattle.std.proofs.lemmas.List.{append-nil}
use Rattle.sqlite_disk.specs.Disk.{Holds, Torn, Follows, Only}
use Rattle.sb_durable.specs.Blocks.{body, block, blocks, IsContent, IsBeforeOrAfter, IsLeft}
use Rattle.sb_durable.specs.Log.{HasAll}
use Rattle.sb_durable.specs.declared.record_log.RecordLog.{RecordLog}
use Rattle.sb_durable.proofs.Torn.{torn_front, torn_byte, written_behind}
use Rattle.sb_durable.proofs.Contents.{each-push, blocks-push, few_bytes, left_shut, stands_gate}

module _ {D : Type 0} (seen : D → List ℕ) (may_leave : D → List ℕ → Type 0) (log : RecordLog D) (contents : List (List ℕ)) (has : HasAll seen may_leave log contents) where
  file : List ℕ
  file = blocks contents ++ has.file.gate ∷ []

  size : length (blocks contents ++ has.file.gate ∷ []) ≡ log.gate + 1
  size = length-append (blocks contents) (has.file.gate ∷ []) ∙ ap (λ (n : ℕ). n + 1) (sym has.gate)

  -- between two calls
  pub left_now : (c : List ℕ) → may_leave log.device c → IsLeft contents c
  left_now c left = left_shut contents has.file.gate [] c has.each has.file.shut (omega arith) (has.durable c left ∙ has.file.whole)

  -- while the body is written behind the gate
  pub left_behind : (n : ℕ) (mid : D) → n ≤ 2 ^ 20 + 5 → Follows (Torn (log.gate + 1) n) (may_leave log.device) (may_leave mid) → (c : List ℕ) → may_leave mid c → IsLeft contents c
  left_behind n mid few follows c left =
      let from = follows c left in
      let was : from.0 ≡ blocks contents ++ has.file.gate ∷ [] ++ [] = has.durable from.0 from.1 ∙ has.file.whole ∙ sym (append-nil (blocks contents ++ has.file.gate ∷ [])) in
      let stays = torn_front from.0 (blocks contents ++ has.file.gate ∷ []) [] c (log.gate + 1) n was (omega (arith, size)) from.2 in
      let long : length from.0 ≡ log.gate + 1 = ap length was ∙ ap length (append-nil (blocks contents ++ has.file.gate ∷ [])) ∙ size in
      left_shut contents has.file.gate _ c has.each has.file.shut (omega (arith, few, long, size, from.2.no_longer, length-drop (length (blocks contents ++ has.file.gate ∷ [])) c)) (stays ∙ append_assoc (blocks contents) (has.file.gate ∷ []) _)

  module _ (content bytes : List ℕ) (one : IsContent content) (are : bytes ≡ body content ++ 0 ∷ []) where
    -- so few bytes are written
    pub few_written : length bytes ≤ 2 ^ 20 + 5
    few_written = omega (arith, ap length are, few_bytes content one)

    some : 0 < length bytes
    some = omega (arith, ap length are, length-append (body content) (0 ∷ []))

    -- the body stands behind the shut gate
    staged : (mid : D) → Torn (log.gate + 1) (length bytes) (seen log.device) (seen mid) → (0 < length bytes → Holds (seen mid) (log.gate + 1) bytes) → seen mid ≡ blocks contents ++ has.file.gate ∷ (body content ++ 0 ∷ [])
    staged mid torn holds =
        let long : log.gate + 1 ≡ length (seen log.device) = sym (ap length has.file.whole ∙ size) in
        written_behind (seen log.device) bytes (seen mid) (subst (λ n. Torn n (length bytes) (seen log.device) (seen mid)) long torn) (subst (λ n. Holds (seen mid) n bytes) long (holds some))
        ∙ ap (λ (l : List ℕ). l ++ bytes) has.file.whole
        ∙ append_assoc (blocks contents) (has.file.gate ∷ []) bytes
        ∙ ap (λ (l : List ℕ). blocks contents ++ has.file.gate ∷ l) are

    -- while the gate is opened
    opened : (old c : List ℕ) → old ≡ blocks contents ++ has.file.gate ∷ (body content ++ 0 ∷ []) → Torn log.gate 1 old c → c ≡ blocks contents ++ get_or c (length (blocks contents)) 0 ∷ (body content ++ 0 ∷ [])
    opened old c was torn =
        torn_byte old (blocks contents) (body content ++ 0 ∷ []) c has.file.gate was (subst (λ n. Torn n 1 old c) has.gate torn)

    pub left_gate : (mid synced new : D) → Torn (log.gate + 1) (length bytes) (seen log.device) (seen mid) → (0 < length bytes → Holds (seen mid) (log.gate + 1) bytes)
        → Only (seen mid) (may_leave synced) → Follows (Torn log.gate 1) (may_leave synced) (may_leave new) → (c : List ℕ) → may_leave new c → IsBeforeOrAfter contents content c
    left_gate mid synced new torn holds only follows c left =
        let from = follows c left in
        stands_gate contents content _ c has.each one (opened from.0 c (only from.0 from.1 ∙ staged mid torn holds) from.2)

    pub has_more : (mid synced last new : D) (gate : ℕ) → gate ≡ log.gate + length bytes → Torn (log.gate + 1) (length bytes) (seen log.device) (seen mid) → (0 < length bytes → Holds (seen mid) (log.gate + 1) bytes)
        → seen synced ≡ seen mid → Torn log.gate 1 (seen synced) (seen last) → Holds (seen last) log.gate (1 ∷ []) → seen new ≡ seen last → Only (seen last) (may_leave new)
        → HasAll seen may_leave (record { device = new; gate = gate; is_spent = false }) (contents ++ content ∷ [])
    has_more mid synced last new gate counts torn holds same torn_gate holds_gate same_again only =
        let byte : get_or (seen last) (length (blocks contents)) 0 ≡ 1 = subst (λ n. get_or (seen last) n 0 ≡ 1) (omega (arith, has.gate)) (holds_gate.each 0 (omega arith)) in
        let whole : seen last ≡ blocks (contents ++ content ∷ []) ++ 0 ∷ [] =
        opened (seen synced) (seen last) (same ∙ staged mid torn holds) torn_gate
        ∙ ap (λ (g : ℕ). blocks contents ++ g ∷ (body content ++ 0 ∷ [])) byte
        ∙ sym (blocks-push contents content (0 ∷ [])) in
        let long : length bytes ≡ length (block content) = omega (arith, ap length are, length-append (body content) (0 ∷ [])) in
        record {
          each = each-push contents content has.each one;
          gate = counts ∙ omega (arith, has.gate, long, length-append (blocks contents) (block content), ap length (append-nil (blocks (contents ++ content ∷ []))), ap length (blocks-push contents content []), ap length (append-nil (block content)), length-append (blocks contents) (block content ++ []));
          file = record { gate = 0; shut = omega arith; whole = same_again ∙ whole };
          durable = λ c left. only c left ∙ sym same_again;
        }
