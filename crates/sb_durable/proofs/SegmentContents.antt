-- Blocks, and what stands behind them.
use Rattle.std.proofs.Common.{arith, ◌≡◌, ℕ, zero, suc, ◌+◌, ◌<◌, ◌^◌, ◌≤◌, List, [], ◌∷◌, ◌++◌, length, refl, sym, ◌∙◌, ap, inl, inr, append_assoc, length-append, get_or}
use Rattle.std.specs.List.{AllByRecursion}
use Rattle.std.proofs.lemmas.Bool.{cases_eq}
use Rattle.std.proofs.lemmas.List.{append-nil, get_or-append_right}
use Rattle.sqlite_disk.specs.Digest.{digest}
use Rattle.sb_durable.specs.SegmentBlocks.{body, block, AreBlocks, size_of, end_digest, IsContent, IsEnd, IsOpen}
use Rattle.sb_durable.specs.Head.{Head, IsHead, head_bytes, head_digest, head_size, last_digest, Stands, IsLeft, IsShutEnd, IsBeforeOrAfter}
use Rattle.sb_durable.specs.Chain.{CrashesEndShut, FlipsShutNoGate}
use Rattle.sb_durable.proofs.Heads.{length-head}

pub each-push : (contents : List (List ℕ)) (content : List ℕ) → AllByRecursion IsContent contents → IsContent content → AllByRecursion IsContent (contents ++ content ∷ [])
each-push [] content all one = (one, tt)
each-push (c ∷ contents) content all one = (all.0, each-push contents content all.1 one)

pub end-push : (before : ℕ) (contents : List (List ℕ)) (content : List ℕ) → end_digest before (contents ++ content ∷ []) ≡ digest (end_digest before contents) content
end-push before [] content = refl
end-push before (c ∷ contents) content = end-push (digest before c) contents content

pub are-push : (before gate : ℕ) (contents : List (List ℕ)) (content front : List ℕ) → AreBlocks before contents front → IsOpen gate
    → AreBlocks before (contents ++ content ∷ []) (front ++ block gate (end_digest before contents) content)
are-push before gate [] content front are opened =
    (gate, [], opened, ap (λ (l : List ℕ). l ++ block gate before content) are ∙ sym (append-nil (block gate before content)), refl)
are-push before gate (c ∷ contents) content front are opened =
    let one = block gate (end_digest (digest before c) contents) content in (
      are.0,
      are.1 ++ one,
      are.2,
      ap (λ (l : List ℕ). l ++ one) are.3 ∙ append_assoc (block are.0 before c) are.1 one,
      are-push (digest before c) gate contents content are.1 are.4 opened,
    )

pub size-push : (contents : List (List ℕ)) (content : List ℕ) → size_of (contents ++ content ∷ []) ≡ size_of contents + (13 + length content)
size-push [] content = omega arith
size-push (c ∷ contents) content = omega (arith, size-push contents content)

pub length-blocks : (before : ℕ) (contents : List (List ℕ)) (front : List ℕ) → AreBlocks before contents front → length front ≡ size_of contents
length-blocks before [] front are = ap length are
length-blocks before (c ∷ contents) front are =
    omega (arith, ap length are.3, length-append (block are.0 before c) are.1, length-blocks (digest before c) contents are.1 are.4)

-- the bytes of a head behind an open gate, and of blocks
pub record IsFront (head : Head) (contents : List (List ℕ)) (front : List ℕ) : Type 0 where
  pub gate : ℕ
  pub opened : IsOpen gate
  pub blocks : List ℕ
  pub are : AreBlocks (head_digest head) contents blocks
  pub whole : front ≡ gate ∷ (head_bytes head ++ blocks)

pub length-front : (head : Head) (contents : List (List ℕ)) (front : List ℕ) → IsFront head contents front → length front ≡ head_size head + size_of contents
length-front head contents front is =
    omega (arith, ap length is.whole, length-append (head_bytes head) is.blocks, length-head head, length-blocks (head_digest head) contents is.blocks is.are)

pub front-push : (head : Head) (gate : ℕ) (contents : List (List ℕ)) (content front : List ℕ) → IsFront head contents front → IsOpen gate
    → IsFront head (contents ++ content ∷ []) (front ++ block gate (last_digest head contents) content)
front-push head gate contents content front is opened =
    let one = block gate (last_digest head contents) content in
    record {
      gate = is.gate;
      opened = is.opened;
      blocks = is.blocks ++ one;
      are = are-push (head_digest head) gate contents content is.blocks is.are opened;
      whole = ap (λ (l : List ℕ). l ++ one) is.whole ∙ ap (λ (l : List ℕ). is.gate ∷ l) (append_assoc (head_bytes head) is.blocks one);
    }

-- ---- what stands behind them

module _ (head : Head) (contents : List (List ℕ)) (file : List ℕ) (stands : Stands head contents file) where
  abbrev pub front_of : List ℕ
  front_of = stands.begins.gate ∷ (head_bytes head ++ stands.behind.front)

  pub front_is : IsFront head contents front_of
  front_is = record { gate = stands.begins.gate; opened = stands.begins.opened; blocks = stands.behind.front; are = stands.behind.are; whole = refl }

  pub file_is : file ≡ front_of ++ stands.behind.end
  file_is =
      stands.begins.whole
      ∙ ap (λ (l : List ℕ). stands.begins.gate ∷ (head_bytes head ++ l)) stands.behind.whole
      ∙ ap (λ (l : List ℕ). stands.begins.gate ∷ l) (sym (append_assoc (head_bytes head) stands.behind.front stands.behind.end))

pub stands_end : (head : Head) (contents : List (List ℕ)) (front end file : List ℕ) → IsHead head → AllByRecursion IsContent contents → IsFront head contents front → IsEnd end → file ≡ front ++ end → Stands head contents file
stands_end head contents front end file fits each is over whole = record {
  fits = fits;
  rest = is.blocks ++ end;
  begins = record {
    gate = is.gate;
    opened = is.opened;
    whole = whole ∙ ap (λ (l : List ℕ). l ++ end) is.whole ∙ ap (λ (l : List ℕ). is.gate ∷ l) (append_assoc (head_bytes head) is.blocks end);
  };
  behind = record { each = each; front = is.blocks; are = is.are; end = end; whole = refl; over = over };
}

-- a shut gate ends them, and no more behind it than an append writes
pub stands_shut : (head : Head) (contents : List (List ℕ)) (front rest file : List ℕ) → IsHead head → AllByRecursion IsContent contents → IsFront head contents front → length rest ≤ 2 ^ 20 + 13 → file ≡ front ++ 0 ∷ rest → IsLeft head contents file
unfolding stands_end
stands_shut head contents front rest file fits each is few whole = record { stands = stands_end head contents front (0 ∷ rest) file fits each is (inl (refl, few)) whole; shut = refl }

-- a whole block behind any gate counts or it doesn't
pub stands_gate : (head : Head) (contents : List (List ℕ)) (content : List ℕ) (gate : ℕ) (front file : List ℕ) → IsHead head → AllByRecursion IsContent contents → IsContent content → IsFront head contents front
    → file ≡ front ++ gate ∷ (body (digest (last_digest head contents) content) content ++ 0 ∷ []) → IsBeforeOrAfter head contents content file
stands_gate head contents content gate front file fits each one is whole =
    let behind = body (digest (last_digest head contents) content) content ++ 0 ∷ [] in
    elim (cases_eq gate 0) [
      | inl shut ↦
          inl (stands_shut head contents front behind file fits each is (omega (arith, one, length-append content (0 ∷ []))) (whole ∙ ap (λ (g : ℕ). front ++ g ∷ behind) shut))
      | inr opened ↦
          let next = block gate (last_digest head contents) content in
          inr (stands_shut head (contents ++ content ∷ []) (front ++ next) [] file fits (each-push contents content each one) (front-push head gate contents content front is opened) (omega arith) (whole ∙ sym (append_assoc front next (0 ∷ []))))
    ]

-- what a crash leaves has a shut gate behind its last block
shut_first : (end : List ℕ) → IsShutEnd end → get_or end 0 0 ≡ 0
shut_first [] shut = absurd shut
shut_first (gate ∷ rest) shut = shut

shut_some : (end : List ℕ) → IsShutEnd end → 0 < length end
shut_some [] shut = absurd shut
shut_some (gate ∷ rest) shut = omega arith

pub end_within : (head : Head) (contents : List (List ℕ)) (file : List ℕ) → IsLeft head contents file → head_size head + size_of contents < length file
end_within head contents file left =
    let front = front_of head contents file left.stands in
    omega (arith, ap length (file_is head contents file left.stands), length-append front left.stands.behind.end, length-front head contents front (front_is head contents file left.stands), shut_some left.stands.behind.end left.shut)

pub gate_left : (head : Head) (contents : List (List ℕ)) (file : List ℕ) (at : ℕ) → IsLeft head contents file → at ≡ head_size head + size_of contents → get_or file at 0 ≡ 0
gate_left head contents file at left is =
    let end = left.stands.behind.end in
    let front = front_of head contents file left.stands in
    let here : at ≡ length (front_of head contents file left.stands) = is ∙ sym (length-front head contents (front_of head contents file left.stands) (front_is head contents file left.stands)) in
    ap (λ (l : List ℕ). get_or l at 0) (file_is head contents file left.stands)
    ∙ get_or-append_right front end (length front) at 0 refl (omega (arith, here))
    ∙ ap (λ n. get_or end n 0) (omega (arith, here))
    ∙ shut_first end left.shut

pub crashes_end_shut : CrashesEndShut
crashes_end_shut head contents file end left behind opened = opened (gate_left head contents file end.at left behind.at)

-- each bit flipped in turn
pub flips_shut_no_gate : FlipsShutNoGate
flips_shut_no_gate zero low = (omega arith, omega arith)
flips_shut_no_gate (suc zero) low = (omega arith, omega arith)
flips_shut_no_gate (suc (suc zero)) low = (omega arith, omega arith)
flips_shut_no_gate (suc (suc (suc zero))) low = (omega arith, omega arith)
flips_shut_no_gate (suc (suc (suc (suc zero)))) low = (omega arith, omega arith)
flips_shut_no_gate (suc (suc (suc (suc (suc zero))))) low = (omega arith, omega arith)
flips_shut_no_gate (suc (suc (suc (suc (suc (suc zero)))))) low = (omega arith, omega arith)
flips_shut_no_gate (suc (suc (suc (suc (suc (suc (suc zero))))))) low = (omega arith, omega arith)
flips_shut_no_gate (suc (suc (suc (suc (suc (suc (suc (suc n)))))))) low = absurd (omega arith)
