-- What a crash leaves while a content is added.
use Rattle.std.proofs.Common.{◌≡◌, ◌≢◌, ◌⊎◌, Bool, true, not, inl, inr, ℕ, false, ◌+◌, ◌<◌, ◌≤◌, ◌^◌, List, [], ◌∷◌, ◌++◌, length, get_or, refl, sym, ◌∙◌, ap, subst, arith, length-append, append_assoc}
use Rattle.std.specs.List.{AllByRecursion}
use Rattle.std.proofs.lemmas.Bool.{false≢true}
use Rattle.sqlite_disk.specs.Disk.{Holds, Torn, Follows, Only}
use Rattle.sqlite_disk.specs.Digest.{digest}
use Rattle.sb_durable.specs.SegmentBlocks.{body, block, IsContent}
use Rattle.sb_durable.specs.Head.{head_bytes, head_digest, last_digest, IsLeft, IsBeforeOrAfter, Stands}
use Rattle.sb_durable.specs.Segment.{Extends, HasAll, IsAtRest, head_of}
use Rattle.sb_durable.specs.declared.segment.place.Place.{Place}
use Rattle.sb_durable.specs.declared.segment.segment.Segment.{Segment}
use Rattle.sb_durable.proofs.Torn.{torn_byte, written_behind}
use Rattle.sb_durable.proofs.SegmentContents.{each-push, end-push, are-push, size-push, IsFront, front-push, length-front, stands_end, stands_shut, stands_gate}

-- by a flag that says which
pub kept_or_spent : {K : Type 0} (lacks : Bool) → (lacks ≡ true → K) → K ⊎ (not lacks ≡ true)
kept_or_spent true kept = inl (kept refl)
kept_or_spent false kept = inr refl

pub not_spent : (lacks : Bool) → lacks ≡ true → not lacks ≡ true → ⊥
not_spent lacks is spent = false≢true (ap not (sym is) ∙ spent)

module _ {D : Type 0} (seen : D → List ℕ) (may_leave : D → List ℕ → Type 0) (segment : Segment D) (contents : List (List ℕ)) (has : HasAll seen may_leave segment contents) where
  each : AllByRecursion IsContent contents
  each = has.knows.stands.behind.each

  -- what stands before the gate
  abbrev front : List ℕ
  front = has.file.begins.gate ∷ (head_bytes (head_of segment) ++ has.file.front)

  front_is : IsFront (head_of segment) contents front
  front_is = record { gate = has.file.begins.gate; opened = has.file.begins.opened; blocks = has.file.front; are = has.file.are; whole = refl }

  -- where the gate is
  here : length front ≡ segment.end.at
  here = length-front (head_of segment) contents front front_is ∙ sym has.knows.end.at

  size : length (front ++ 0 ∷ []) ≡ segment.end.at + 1
  size = omega (arith, length-append front (0 ∷ []), here)

  now : seen segment.device ≡ front ++ 0 ∷ []
  now = has.file.begins.whole ∙ ap (λ (l : List ℕ). has.file.begins.gate ∷ l) (sym (append_assoc (head_bytes (head_of segment)) has.file.front (0 ∷ [])))

  shut_with : (rest c : List ℕ) → length rest ≤ 2 ^ 20 + 13 → c ≡ front ++ 0 ∷ rest → IsLeft (head_of segment) contents c
  shut_with rest c few is = stands_shut (head_of segment) contents front rest c has.knows.stands.fits each front_is few is

  pub end_is : segment.end.at + 1 ≡ length (seen segment.device)
  end_is = sym (ap length now ∙ size)

  -- between two calls
  pub left_now : (c : List ℕ) → may_leave segment.device c → IsLeft (head_of segment) contents c
  left_now c left = shut_with [] c (omega arith) (has.durable c left ∙ now)

  -- with some bytes behind the gate
  pub left_behind : (n : ℕ) (c : List ℕ) → n ≤ 2 ^ 20 + 13 → Extends n (seen segment.device) c → IsLeft (head_of segment) contents c
  left_behind n c few extends =
      shut_with extends.rest c (omega (arith, few, extends.small)) (extends.whole ∙ ap (λ (l : List ℕ). l ++ extends.rest) now ∙ append_assoc front (0 ∷ []) extends.rest)

  -- where nothing of the body is left
  pub has_still : (new : D) (spent : Bool) → seen new ≡ seen segment.device → Only (seen segment.device) (may_leave new)
      → HasAll seen may_leave (record { device = new; beginning = segment.beginning; end = segment.end; is_settled = segment.is_settled; is_spent = spent }) contents
  has_still new spent same only = record {
    knows = record { stands = subst (λ (f : List ℕ). Stands (head_of segment) contents f) (sym same) has.knows.stands; own = has.knows.own; end = has.knows.end };
    file = subst (λ (f : List ℕ). IsAtRest (head_of segment) contents f) (sym same) has.file;
    durable = λ c left. only c left ∙ sym same;
    settled = has.settled;
  }

  module _ (content bytes : List ℕ) (own : ℕ) (one : IsContent content) (chained : own ≡ digest segment.end.chain content) (are : bytes ≡ body own content ++ 0 ∷ []) where
    pub long : length bytes ≡ 13 + length content
    long = omega (arith, ap length are, length-append content (0 ∷ []))

    owned : own ≡ digest (last_digest (head_of segment) contents) content
    owned = chained ∙ ap (λ (n : ℕ). digest n content) has.knows.end.chain

    -- the body stands behind the shut gate
    staged : (mid : D) → Torn (segment.end.at + 1) (length bytes) (seen segment.device) (seen mid) → (0 < length bytes → Holds (seen mid) (segment.end.at + 1) bytes) → seen mid ≡ front ++ 0 ∷ (body own content ++ 0 ∷ [])
    staged mid torn holds =
        let there = end_is in
        written_behind (seen segment.device) bytes (seen mid) (subst (λ n. Torn n (length bytes) (seen segment.device) (seen mid)) there torn) (subst (λ n. Holds (seen mid) n bytes) there (holds (omega (arith, long))))
        ∙ ap (λ (l : List ℕ). l ++ bytes) now
        ∙ append_assoc front (0 ∷ []) bytes
        ∙ ap (λ (l : List ℕ). front ++ 0 ∷ l) are

    -- while the gate is opened
    opened : (old c : List ℕ) → old ≡ front ++ 0 ∷ (body own content ++ 0 ∷ []) → Torn segment.end.at 1 old c
        → c ≡ front ++ get_or c (length front) 0 ∷ (body own content ++ 0 ∷ [])
    opened old c was torn =
        torn_byte old front (body own content ++ 0 ∷ []) c 0 was (subst (λ n. Torn n 1 old c) (sym here) torn)

    pub left_gate : (mid synced new : D) → Torn (segment.end.at + 1) (length bytes) (seen segment.device) (seen mid) → (0 < length bytes → Holds (seen mid) (segment.end.at + 1) bytes)
        → Only (seen mid) (may_leave synced) → Follows (Torn segment.end.at 1) (may_leave synced) (may_leave new) → (c : List ℕ) → may_leave new c → IsBeforeOrAfter (head_of segment) contents content c
    left_gate mid synced new torn holds only follows c left =
        let from = follows c left in
        stands_gate (head_of segment) contents content _ front c has.knows.stands.fits each one front_is
        (opened from.0 c (only from.0 from.1 ∙ staged mid torn holds) from.2
        ∙ ap (λ (n : ℕ). front ++ get_or c (length front) 0 ∷ (body n content ++ 0 ∷ [])) owned)

    -- with the open gate that is written
    next : List ℕ
    next = block 255 (last_digest (head_of segment) contents) content

    whole : (mid synced last : D) → Torn (segment.end.at + 1) (length bytes) (seen segment.device) (seen mid) → (0 < length bytes → Holds (seen mid) (segment.end.at + 1) bytes)
        → seen synced ≡ seen mid → Torn segment.end.at 1 (seen synced) (seen last) → Holds (seen last) segment.end.at (255 ∷ []) → seen last ≡ (front ++ next) ++ 0 ∷ []
    unfolding next
    whole mid synced last torn holds same torn_gate holds_gate =
        let byte : get_or (seen last) (length front) 0 ≡ 255 = subst (λ n. get_or (seen last) n 0 ≡ 255) (omega (arith, here)) (holds_gate.each 0 (omega arith)) in
        opened (seen synced) (seen last) (same ∙ staged mid torn holds) torn_gate
        ∙ ap (λ (g : ℕ). front ++ g ∷ (body own content ++ 0 ∷ [])) byte
        ∙ ap (λ (n : ℕ). front ++ 255 ∷ (body n content ++ 0 ∷ [])) owned
        ∙ sym (append_assoc front next (0 ∷ []))

    pub has_more : (mid synced last new : D) (end : Place) → end.at ≡ segment.end.at + length bytes → end.chain ≡ own → Torn (segment.end.at + 1) (length bytes) (seen segment.device) (seen mid) → (0 < length bytes → Holds (seen mid) (segment.end.at + 1) bytes)
        → seen synced ≡ seen mid → Torn segment.end.at 1 (seen synced) (seen last) → Holds (seen last) segment.end.at (255 ∷ []) → seen new ≡ seen last → Only (seen last) (may_leave new)
        → HasAll seen may_leave (record { device = new; beginning = segment.beginning; end = end; is_settled = segment.is_settled; is_spent = false }) (contents ++ content ∷ [])
    unfolding next
    has_more mid synced last new end counts binds torn holds same torn_gate holds_gate same_again only =
        let key = head_digest (head_of segment) in
        let gate_open : 255 ≢ 0 = omega arith in
        let is : seen new ≡ (front ++ next) ++ 0 ∷ [] = same_again ∙ whole mid synced last torn holds same torn_gate holds_gate in
        let pushed = front-push (head_of segment) 255 contents content front front_is gate_open in
        record {
          knows = record {
            stands = stands_end (head_of segment) (contents ++ content ∷ []) (front ++ next) (0 ∷ []) (seen new) has.knows.stands.fits (each-push contents content each one) pushed (inl (refl, omega arith)) is;
            own = has.knows.own;
            end = record {
              at = omega (arith, counts, long, has.knows.end.at, size-push contents content);
              chain = binds ∙ owned ∙ sym (end-push key contents content);
            };
          };
          file = record {
            front = has.file.front ++ next;
            are = are-push key 255 contents content has.file.front has.file.are gate_open;
            begins = record {
              gate = has.file.begins.gate;
              opened = has.file.begins.opened;
              whole =
                  is
                  ∙ ap (λ (l : List ℕ). has.file.begins.gate ∷ (l ++ 0 ∷ [])) (append_assoc (head_bytes (head_of segment)) has.file.front next)
                  ∙ ap (λ (l : List ℕ). has.file.begins.gate ∷ l) (append_assoc (head_bytes (head_of segment)) (has.file.front ++ next) (0 ∷ []));
            };
          };
          durable = λ c left. only c left ∙ sym same_again;
          settled = has.settled;
        }
