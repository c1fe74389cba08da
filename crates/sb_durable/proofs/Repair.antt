-- What a crash leaves while the end of a file is repaired.
use Rattle.std.proofs.Common.{◌≡◌, ◌≢◌, true, false, not, nat_eq, IsTrue, ℕ, zero, suc, ◌+◌, ◌-◌, ◌^◌, ◌<◌, ◌≤◌, List, [], ◌∷◌, ◌++◌, length, get_or, drop, refl, sym, ◌∙◌, ap, subst, inl, inr, arith, length-append, length-drop, append_assoc}
use Rattle.std.proofs.lemmas.List.{append-nil, drop_more, drop_all, get_or-append_right}
use Rattle.sqlite_disk.specs.Disk.{Holds, Torn, Cut}
use Rattle.sb_durable.specs.Blocks.{blocks, IsEnd, IsLeft, IsRemnant, Stands}
use Rattle.sb_durable.specs.Log.{IsAtRest}
use Rattle.sb_durable.specs.Ends.{EndsAt}
use Rattle.sb_durable.proofs.Torn.{torn_front, cut_front}
use Rattle.sb_durable.proofs.Walk.{held_front}
use Rattle.std.proofs.lemmas.Bool.{eq-eqb, false≢true, ne_eqb}
use Rattle.sb_durable.proofs.Contents.{left_shut}

pub short_end : (bytes : List ℕ) → length bytes ≤ 1 → IsEnd bytes
short_end [] short = tt
short_end (gate ∷ []) short = inr (inl (omega arith))
short_end (gate ∷ next ∷ bytes) short = absurd (omega arith)

-- a gate that is shut, and whatever is behind it
pub record Gated (end : List ℕ) : Type 0 where
  pub gate : ℕ
  pub rest : List ℕ
  pub shut : gate ≢ 1
  pub whole : end ≡ gate ∷ rest

gated : (end : List ℕ) → get_or end 0 0 ≢ 1 → 1 < length end → Gated end
gated [] shut long = absurd (omega arith)
gated (gate ∷ rest) shut long = record { gate = gate; rest = rest; shut = shut; whole = refl }

-- a byte alone
short_remnant : (bytes : List ℕ) → length bytes ≤ 1 → IsRemnant bytes
short_remnant [] short = tt
short_remnant (gate ∷ []) short = tt
short_remnant (gate ∷ next ∷ bytes) short = absurd (omega (arith, short))

-- a gate that has something behind it is shut
pub shut_at : (file : List ℕ) (end : ℕ) → IsRemnant (drop end file) → end + 1 < length file → get_or file end 0 ≢ 1
shut_at [] end remnant within = absurd (omega (arith, within))
shut_at (gate ∷ []) zero remnant within = absurd (omega (arith, within))
shut_at (gate ∷ next ∷ rest) zero remnant within = remnant.0
shut_at (byte ∷ rest) (suc end) remnant within = shut_at rest end remnant (omega (arith, within))

-- and has few bytes behind it
few_at : (bytes : List ℕ) → IsRemnant bytes → length bytes ≤ 2 ^ 20 + 6
few_at [] remnant = omega arith
few_at (gate ∷ []) remnant = omega arith
few_at (gate ∷ next ∷ rest) remnant = omega (arith, remnant.1)

not_one : (n : ℕ) → (IsTrue (not (nat_eq n 1)) → n ≢ 1) × (n ≢ 1 → IsTrue (not (nat_eq n 1)))
not_one n = (
  λ is one. false≢true (ap not (sym (eq-eqb n 1 one)) ∙ is),
  λ other. ap not (ne_eqb n 1 other),
)

-- what a crash may have left is told by its length and its first byte
pub is_short : (bytes : List ℕ) → length bytes ≤ 1 → (IsTrue true → IsRemnant bytes) × (IsRemnant bytes → IsTrue true)
is_short bytes short = (λ is. short_remnant bytes short, λ remnant. refl)

pub is_long : (bytes : List ℕ) → 2 ^ 20 + 6 < length bytes → (IsTrue false → IsRemnant bytes) × (IsRemnant bytes → IsTrue false)
is_long bytes long = (λ is. absurd (false≢true is), λ remnant. absurd (omega (arith, few_at bytes remnant, long)))

pub is_gated : (bytes rest : List ℕ) (gate : ℕ) → bytes ≡ gate ∷ rest → 1 < length bytes → length bytes ≤ 2 ^ 20 + 6
    → (IsTrue (not (nat_eq gate 1)) → IsRemnant bytes) × (IsRemnant bytes → IsTrue (not (nat_eq gate 1)))
is_gated [] rest gate is long few = absurd (omega (arith, long))
is_gated (first ∷ []) rest gate is long few = absurd (omega (arith, long))
is_gated (first ∷ next ∷ more) rest gate is long few =
    let same : first ≡ gate = ap (λ (l : List ℕ). get_or l 0 0) is in
    (λ shut. ((λ (one : first ≡ 1). (not_one gate).0 shut (sym same ∙ one)), omega (arith, few)), λ remnant. (not_one gate).1 (λ (one : gate ≡ 1). remnant.0 (same ∙ one)))

pub gate_at : (file buf : List ℕ) (at : ℕ) → Holds file at buf → length buf ≡ 1 → drop at file ≡ get_or buf 0 0 ∷ drop (at + 1) file
gate_at file [] at holds one = absurd (omega (arith, one))
gate_at file (gate ∷ []) at holds one = held_front file (gate ∷ []) at holds
gate_at file (gate ∷ next ∷ buf) at holds one = absurd (omega (arith, one))

-- where the blocks of a file end that was read
pub ends_there : (contents : List (List ℕ)) (end len : ℕ) (file was : List ℕ) → was ≡ file → Stands contents file → end ≡ length (blocks contents) → len ≡ length file → EndsAt contents end len was
ends_there contents end len file was same stands here size = record { stands = subst (λ (f : List ℕ). Stands contents f) (sym same) stands; at_end = here; size = size ∙ ap length (sym same) }

module _ (contents : List (List ℕ)) (end len : ℕ) (file : List ℕ) (ends : EndsAt contents end len file) where
  tail_size : length ends.stands.end ≡ len - end
  tail_size = omega (arith, ends.size, ends.at_end, ap length ends.stands.whole, length-append (blocks contents) ends.stands.end)

  module _ (shut : get_or file end 0 ≢ 1) (long : 1 < len - end) (c : List ℕ) (cut : Cut (end + 1) file c) where
    gate_is : get_or file end 0 ≡ get_or ends.stands.end 0 0
    gate_is = ap (λ (l : List ℕ). get_or l end 0) ends.stands.whole ∙ get_or-append_right (blocks contents) ends.stands.end (length (blocks contents)) end 0 refl (omega (arith, ends.at_end)) ∙ ap (λ n. get_or ends.stands.end n 0) (omega (arith, ends.at_end))

    kept : Gated ends.stands.end
    kept = gated ends.stands.end (λ one. shut (gate_is ∙ one)) (omega (arith, tail_size, long))

    after_cut : c ≡ blocks contents ++ kept.gate ∷ [] ++ drop (length (blocks contents ++ kept.gate ∷ [])) c
    after_cut =
        cut_front file (blocks contents ++ kept.gate ∷ []) kept.rest c (end + 1)
        (ends.stands.whole ∙ ap (λ (l : List ℕ). blocks contents ++ l) kept.whole ∙ sym (append_assoc (blocks contents) (kept.gate ∷ []) kept.rest))
        (omega (arith, ends.at_end, length-append (blocks contents) (kept.gate ∷ []))) cut

    pub cut_keeps : IsRemnant (drop end file) → IsLeft contents c
    cut_keeps remnant = left_shut contents kept.gate _ c ends.stands.each kept.shut
        (omega (arith, few_at (drop end file) remnant, length-drop end file, cut.no_longer, ends.at_end, length-append (blocks contents) (kept.gate ∷ []), length-drop (length (blocks contents ++ kept.gate ∷ [])) c)) (after_cut ∙ append_assoc (blocks contents) (kept.gate ∷ []) _)

    pub cut_rests : length c ≡ end + 1 → IsAtRest contents c
    cut_rests size = record {
      gate = kept.gate;
      shut = kept.shut;
      whole = after_cut ∙ ap (λ (l : List ℕ). blocks contents ++ kept.gate ∷ [] ++ l) (drop_all (length (blocks contents ++ kept.gate ∷ [])) c (omega (arith, size, ends.at_end, length-append (blocks contents) (kept.gate ∷ [])))) ∙ append-nil (blocks contents ++ kept.gate ∷ []);
    }

  module _ (short : len - end ≤ 1) (c : List ℕ) (torn : Torn end 1 file c) where
    after_write : c ≡ blocks contents ++ drop (length (blocks contents)) c
    after_write = torn_front file (blocks contents) ends.stands.end c end 1 ends.stands.whole (omega (arith, ends.at_end)) torn

    few : length (drop (length (blocks contents)) c) ≤ 1
    few = omega (arith, length-drop (length (blocks contents)) c, torn.no_longer, ends.at_end, ends.size, short, tail_size, ap length ends.stands.whole, length-append (blocks contents) ends.stands.end)

    pub write_keeps : IsLeft contents c
    write_keeps = record {
      stands = record { each = ends.stands.each; end = drop (length (blocks contents)) c; whole = after_write; over = short_end (drop (length (blocks contents)) c) few };
      few = short_remnant (drop (length (blocks contents)) c) few;
    }

    pub write_rests : Holds c end (0 ∷ []) → IsAtRest contents c
    write_rests holds =
        let byte : get_or c (length (blocks contents)) 0 ≡ 0 = subst (λ n. get_or c n 0 ≡ 0) (omega (arith, ends.at_end)) (holds.each 0 (omega arith)) in
        record {
          gate = 0;
          shut = omega arith;
          whole = after_write ∙ ap (λ (l : List ℕ). blocks contents ++ l) (
              drop_more c (length (blocks contents)) 0 (omega (arith, holds.within, ends.at_end))
              ∙ ap (λ (b : ℕ). b ∷ drop (length (blocks contents) + 1) c) byte
              ∙ ap (λ (l : List ℕ). 0 ∷ l) (drop_all (length (blocks contents) + 1) c (omega (arith, few, length-drop (length (blocks contents)) c)))
              );
        }
