-- What a crash leaves while a segment is begun.
use Rattle.std.proofs.Common.{◌≡◌, ◌⊎◌, ℕ, ◌+◌, ◌<◌, ◌≤◌, List, [], ◌∷◌, ◌++◌, true, length, get_or, take, drop, ◌-◌, refl, sym, ◌∙◌, ap, subst, inl, inr, arith, append-nil}
use Rattle.std.proofs.lemmas.Bool.{cases_eq}
use Rattle.std.proofs.lemmas.List.{drop_all, take_at}
use Rattle.sqlite_disk.specs.Disk.{Holds, Torn, Cut, Only}
use Rattle.sb_durable.specs.Head.{Head, IsHead, IsUnbegun, IsShut, IsReady, IsLeft, IsOpened, mark, head_bytes, head_digest}
use Rattle.sb_durable.specs.Segment.{HasAll, IsBegun, head_in}
use Rattle.sb_durable.specs.declared.segment.segment.Segment.{Segment}
use Rattle.sb_durable.proofs.Torn.{torn_front, torn_byte, cut_front, written_behind}
use Rattle.sb_durable.proofs.Finding.{held_front}
use Rattle.sb_durable.proofs.SegmentContents.{stands_shut}

-- a file of eight bytes at most is written anew
pub left_short : (old c : List ℕ) → length old ≤ 8 → Torn 0 8 old c → IsUnbegun c
left_short old c short torn = inl (omega (arith, short, torn.no_longer))

pub short_ready : (old c : List ℕ) → length old ≤ 8 → Torn 0 8 old c → Holds c 0 (0 ∷ mark) → IsReady c
short_ready old c short torn holds = held_front c (0 ∷ mark) 0 holds ∙ ap (λ (l : List ℕ). 0 ∷ (mark ++ l)) (drop_all 8 c (omega (arith, short, torn.no_longer)))

-- what is behind the mark is cut off
marked_cut : (rest old c : List ℕ) → old ≡ 0 ∷ (mark ++ rest) → Cut 8 old c → c ≡ 0 ∷ (mark ++ drop 8 c)
marked_cut rest old c is cut = cut_front old (0 ∷ mark) rest c 8 is (omega arith) cut

pub left_cut : (old c : List ℕ) → IsShut old → Cut 8 old c → IsUnbegun c
left_cut old c shut cut = inr (record { rest = drop 8 c; whole = marked_cut shut.rest old c shut.whole cut })

pub cut_ready : (old c : List ℕ) → IsShut old → Cut 8 old c → length c ≡ 8 → IsReady c
cut_ready old c shut cut size = marked_cut shut.rest old c shut.whole cut ∙ ap (λ (l : List ℕ). 0 ∷ (mark ++ l)) (drop_all 8 c (omega (arith, size)))

-- a file that has more has its mark, behind a shut gate
pub shut_there : (old : List ℕ) → 8 < length old → IsUnbegun old → IsShut old
shut_there old long (inl short) = absurd (omega (arith, short, long))
shut_there old long (inr shut) = shut

module _ (old bytes rest : List ℕ) (ready : IsReady old) (are : bytes ≡ 70 ∷ (mark ++ rest)) where
  -- while a head is written behind the mark
  pub left_head : (n : ℕ) (c : List ℕ) → Torn 8 n old c → IsUnbegun c
  left_head n c torn =
      inr (record { rest = drop 8 c; whole = torn_front old (0 ∷ mark) [] c 8 n ready (omega arith) torn })

  tail_is : take (length bytes - 8) (drop 8 bytes) ≡ rest
  tail_is =
      let size : length bytes - 8 ≡ length rest = omega (arith, ap length are) in
      ap (λ (l : List ℕ). take (length bytes - 8) (drop 8 l)) are ∙ ap (λ (n : ℕ). take n rest) size ∙ ap (λ (l : List ℕ). take (length rest) l) (sym (append-nil rest)) ∙ take_at rest [] (length rest) refl

  pub tail_some : 8 < length bytes → 0 < length (take (length bytes - 8) (drop 8 bytes))
  tail_some long = omega (arith, long, ap length tail_is, ap length are)

  pub staged_head : (tail mid : List ℕ) → tail ≡ take (length bytes - 8) (drop 8 bytes) → Torn 8 (length tail) old mid → Holds mid 8 tail → mid ≡ 0 ∷ (mark ++ rest)
  staged_head tail mid same torn holds =
      let eight : 8 ≡ length old = sym (ap length ready) in
      written_behind old tail mid (subst (λ n. Torn n (length tail) old mid) eight torn) (subst (λ n. Holds mid n tail) eight holds)
      ∙ ap (λ (l : List ℕ). l ++ tail) ready
      ∙ ap (λ (l : List ℕ). 0 ∷ (mark ++ l)) (same ∙ tail_is)

  -- while its gate is opened
  head_torn : (mid c : List ℕ) → mid ≡ 0 ∷ (mark ++ rest) → Torn 0 1 mid c → c ≡ get_or c 0 0 ∷ (mark ++ rest)
  head_torn mid c is torn = torn_byte mid [] (mark ++ rest) c 0 is torn

  pub left_head_gate : (mid c : List ℕ) → mid ≡ 0 ∷ (mark ++ rest) → Torn 0 1 mid c → IsUnbegun c ⊎ IsOpened (mark ++ rest) c
  left_head_gate mid c is torn = elim (cases_eq (get_or c 0 0) 0) [
    | inl shut ↦ inl (inr (record { rest = rest; whole = head_torn mid c is torn ∙ ap (λ (g : ℕ). g ∷ (mark ++ rest)) shut }))
    | inr opened ↦ inr (record { gate = get_or c 0 0; opened = opened; whole = head_torn mid c is torn })
  ]

  pub head_opened : (mid c : List ℕ) → mid ≡ 0 ∷ (mark ++ rest) → Torn 0 1 mid c → Holds c 0 (70 ∷ []) → c ≡ bytes
  head_opened mid c is torn holds = head_torn mid c is torn ∙ ap (λ (g : ℕ). g ∷ (mark ++ rest)) (holds.each 0 (omega arith)) ∙ sym are

-- a head and a shut gate
pub head_left : (head : Head) (file : List ℕ) → IsHead head → IsOpened (head_bytes head ++ 0 ∷ []) file → IsLeft head [] file
head_left head file fits is =
    stands_shut head [] (is.gate ∷ head_bytes head) [] file fits tt (record { gate = is.gate; opened = is.opened; blocks = []; are = refl; whole = ap (λ (l : List ℕ). is.gate ∷ l) (sym (append-nil (head_bytes head))) }) (omega arith) is.whole

pub begun_has : {D : Type 0} (seen : D → List ℕ) (may_leave : D → List ℕ → Type 0) (segment : Segment D) (head : Head) → IsHead head → IsBegun head segment.beginning → IsOpened (head_bytes head ++ 0 ∷ []) (seen segment.device)
    → Only (seen segment.device) (may_leave segment.device) → segment.end.at ≡ 36 + length segment.beginning.settings.items → segment.end.chain ≡ segment.beginning.own → segment.is_settled ≡ true → HasAll seen may_leave segment []
begun_has seen may_leave segment head fits begun is durable at chain settled =
    let here = head_in segment.beginning in
    let small : IsHead here = subst IsHead (sym begun.same) fits in
    let own : segment.beginning.own ≡ head_digest here = begun.own ∙ ap (λ (h : Head). head_digest h) (sym begun.same) in
    let whole : IsOpened (head_bytes here ++ 0 ∷ []) (seen segment.device) = subst (λ (h : Head). IsOpened (head_bytes h ++ 0 ∷ []) (seen segment.device)) (sym begun.same) is in
    record {
      knows = record { stands = (head_left here (seen segment.device) small whole).stands; own = own; end = record { at = omega (arith, at); chain = chain ∙ own } };
      file = record { front = []; are = refl; begins = whole };
      durable = durable;
      settled = settled;
    }
