-- What a crash leaves while the end of a file is mended.
use Rattle.std.proofs.Common.{◌≡◌, ℕ, ◌+◌, ◌-◌, ◌<◌, ◌≤◌, ◌^◌, List, [], ◌∷◌, ◌++◌, length, get_or, drop, refl, sym, ◌∙◌, ap, subst, inl, inr, arith, length-append, length-drop, append_assoc}
use Rattle.std.specs.List.{AllByRecursion}
use Rattle.std.proofs.lemmas.List.{append-nil, drop_at, drop_more, drop_all, get_or-append_right}
use Rattle.sqlite_disk.specs.Disk.{Holds, Torn, Cut}
use Rattle.sb_durable.specs.SegmentBlocks.{IsContent, IsCutShort, IsEnd, IsOpen}
use Rattle.sb_durable.specs.Head.{Head, IsHead, head_bytes, Stands, IsLeft}
use Rattle.sb_durable.specs.Segment.{IsAtRest}
use Rattle.sb_durable.specs.SegmentEnds.{EndsAt}
use Rattle.sb_durable.proofs.Torn.{torn_front, torn_byte, cut_front}
use Rattle.sb_durable.proofs.Finding.{held_front}
use Rattle.sb_durable.proofs.SegmentContents.{IsFront, front_of, front_is, file_is, length-front, stands_end, stands_shut}

tiny_end : (bytes : List ℕ) → length bytes ≤ 1 → IsEnd bytes
tiny_end [] short = tt
tiny_end (gate ∷ []) short = inr (inl (omega arith))
tiny_end (gate ∷ next ∷ bytes) short = absurd (omega arith)

pub gate_there : (file buf : List ℕ) (at : ℕ) → Holds file at buf → length buf ≡ 1 → drop at file ≡ get_or buf 0 0 ∷ drop (at + 1) file
gate_there file [] at holds one = absurd (omega (arith, one))
gate_there file (gate ∷ []) at holds one = held_front file (gate ∷ []) at holds
gate_there file (gate ∷ next ∷ buf) at holds one = absurd (omega (arith, one))

-- a gate that is shut, and what is behind it
record Gated (end : List ℕ) : Type 0 where
  rest : List ℕ
  few : length rest ≤ 2 ^ 20 + 13
  whole : end ≡ 0 ∷ rest

gated : (end : List ℕ) → IsEnd end → get_or end 0 0 ≡ 0 → 0 < length end → Gated end
gated [] over shut long = absurd (omega arith)
gated (gate ∷ rest) (inl ends) shut long = record { rest = rest; few = ends.1; whole = ap (λ (g : ℕ). g ∷ rest) shut }
gated (gate ∷ rest) (inr (inl short)) shut long = record { rest = rest; few = omega (arith, short); whole = ap (λ (g : ℕ). g ∷ rest) shut }
gated (gate ∷ rest) (inr (inr (size, own, cut, small, less, is))) shut long = record { rest = rest; few = omega (arith, small, less, ap length is); whole = ap (λ (g : ℕ). g ∷ rest) shut }

-- behind an open gate, a body is cut short
behind_open : (gate : ℕ) (end rest : List ℕ) → IsOpen gate → IsEnd end → end ≡ gate ∷ rest → IsCutShort rest
behind_open gate [] rest opened over is = absurd (omega (arith, ap length is))
behind_open gate (g ∷ bytes) rest opened (inl shut) is = absurd (opened (sym (ap (λ (l : List ℕ). get_or l 0 0) is) ∙ shut.0))
behind_open gate (g ∷ bytes) rest opened (inr cut) is = subst IsCutShort (ap (λ (l : List ℕ). drop 1 l) is) cut

module _ (head : Head) (contents : List (List ℕ)) (end len : ℕ) (file : List ℕ) (ends : EndsAt head contents end len file) where
  front : List ℕ
  front = front_of head contents file ends.stands

  is_front : IsFront head contents front
  unfolding front
  is_front = front_is head contents file ends.stands

  whole : file ≡ front ++ ends.stands.behind.end
  unfolding front
  whole = file_is head contents file ends.stands

  here : end ≡ length front
  here = ends.at_end ∙ sym (length-front head contents front is_front)

  tail_size : length ends.stands.behind.end ≡ len - end
  tail_size = omega (arith, ends.size, here, ap length whole, length-append front ends.stands.behind.end)

  rests_with : (c : List ℕ) → c ≡ front ++ 0 ∷ [] → IsAtRest head contents c
  rests_with c is = record {
    front = is_front.blocks;
    are = is_front.are;
    begins = record {
      gate = is_front.gate;
      opened = is_front.opened;
      whole = is ∙ ap (λ (l : List ℕ). l ++ 0 ∷ []) is_front.whole ∙ ap (λ (l : List ℕ). is_front.gate ∷ l) (append_assoc (head_bytes head) is_front.blocks (0 ∷ []));
    };
  }

  stands_with : (rest c : List ℕ) → IsEnd rest → c ≡ front ++ rest → Stands head contents c
  stands_with rest c over is = stands_end head contents front rest c ends.stands.fits ends.stands.behind.each is_front over is

  module _ (gate : ℕ) (opened : IsOpen gate) (found : drop end file ≡ gate ∷ drop (end + 1) file) (c : List ℕ) (torn : Torn end 1 file c) where
    tail : drop end file ≡ ends.stands.behind.end
    tail = ap (λ (l : List ℕ). drop end l) whole ∙ drop_at front ends.stands.behind.end end (sym here)

    short : IsCutShort (drop (end + 1) file)
    short = behind_open gate ends.stands.behind.end (drop (end + 1) file) opened ends.stands.behind.over (sym tail ∙ found)

    gate_torn : c ≡ front ++ get_or c end 0 ∷ drop (end + 1) file
    gate_torn =
        torn_byte file front (drop (end + 1) file) c gate (whole ∙ ap (λ (l : List ℕ). front ++ l) (sym tail ∙ found)) (subst (λ n. Torn n 1 file c) here torn)
        ∙ ap (λ n. front ++ get_or c n 0 ∷ drop (end + 1) file) (sym here)

    -- while an open gate is shut
    pub shut_keeps : Stands head contents c
    shut_keeps = stands_with (get_or c end 0 ∷ drop (end + 1) file) c (inr short) gate_torn

    pub shut_ends : EndsAt head contents end len c
    shut_ends = record {
      stands = shut_keeps;
      at_end = ends.at_end;
      size = omega (arith, ends.size, torn.no_shorter, torn.no_longer, ap length whole, ap length (sym tail ∙ found), length-append front ends.stands.behind.end, here);
    }

  module _ (shut : get_or file end 0 ≡ 0) (long : 0 < len - end) (c : List ℕ) (cut : Cut (end + 1) file c) where
    gate_is : get_or ends.stands.behind.end 0 0 ≡ 0
    gate_is =
        ap (λ n. get_or ends.stands.behind.end n 0) (omega (arith, here))
        ∙ sym (ap (λ (l : List ℕ). get_or l end 0) whole ∙ get_or-append_right front ends.stands.behind.end (length front) end 0 refl (omega (arith, here)))
        ∙ shut

    kept : Gated ends.stands.behind.end
    kept = gated ends.stands.behind.end ends.stands.behind.over gate_is (omega (arith, tail_size, long))

    after_cut : c ≡ front ++ 0 ∷ [] ++ drop (length (front ++ 0 ∷ [])) c
    after_cut =
        cut_front file (front ++ 0 ∷ []) kept.rest c (end + 1)
        (whole ∙ ap (λ (l : List ℕ). front ++ l) kept.whole ∙ sym (append_assoc front (0 ∷ []) kept.rest))
        (omega (arith, here, length-append front (0 ∷ []))) cut

    few_left : length (drop (length (front ++ 0 ∷ [])) c) ≤ 2 ^ 20 + 13
    few_left =
        omega (arith, length-drop (length (front ++ 0 ∷ [])) c, length-append front (0 ∷ []), cut.no_longer, kept.few, ap length kept.whole, ap length whole, length-append front ends.stands.behind.end, here)

    pub cut_left : IsLeft head contents c
    cut_left = stands_shut head contents front _ c ends.stands.fits ends.stands.behind.each is_front few_left (after_cut ∙ append_assoc front (0 ∷ []) _)

    pub cut_rests : length c ≡ end + 1 → IsAtRest head contents c
    cut_rests size =
        let none : drop (length (front ++ 0 ∷ [])) c ≡ [] = drop_all (length (front ++ 0 ∷ [])) c (omega (arith, size, here, length-append front (0 ∷ []))) in
        rests_with c (after_cut ∙ ap (λ (l : List ℕ). front ++ 0 ∷ [] ++ l) none ∙ append-nil (front ++ 0 ∷ []))

  module _ (short : len - end ≤ 1) (c : List ℕ) (torn : Torn end 1 file c) where
    after_write : c ≡ front ++ drop (length front) c
    after_write = torn_front file front ends.stands.behind.end c end 1 whole (omega (arith, here)) torn

    few : length (drop (length front) c) ≤ 1
    few = omega (arith, length-drop (length front) c, torn.no_longer, here, ends.size, short, tail_size, ap length whole, length-append front ends.stands.behind.end)

    pub write_keeps : Stands head contents c
    write_keeps = stands_with (drop (length front) c) c (tiny_end (drop (length front) c) few) after_write

    pub write_rests : Holds c end (0 ∷ []) → IsAtRest head contents c
    write_rests holds =
        let byte : get_or c (length front) 0 ≡ 0 = subst (λ n. get_or c n 0 ≡ 0) (omega (arith, here)) (holds.each 0 (omega arith)) in
        rests_with c (
        after_write
        ∙ ap (λ (l : List ℕ). front ++ l) (
        drop_more c (length front) 0 (omega (arith, holds.within, here))
        ∙ ap (λ (b : ℕ). b ∷ drop (length front + 1) c) byte
        ∙ ap (λ (l : List ℕ). 0 ∷ l) (drop_all (length front + 1) c (omega (arith, few, length-drop (length front) c)))
        )
        )

-- a file at rest stands for its contents
pub rest_stands : (head : Head) (contents : List (List ℕ)) (file : List ℕ) → IsHead head → AllByRecursion IsContent contents → IsAtRest head contents file → Stands head contents file
rest_stands head contents file fits each rests = record {
  fits = fits;
  rest = rests.front ++ 0 ∷ [];
  begins = rests.begins;
  behind = record { each = each; front = rests.front; are = rests.are; end = 0 ∷ []; whole = refl; over = inl (refl, omega arith) };
}
