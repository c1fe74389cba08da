-- Blocks, and what stands behind them.
use Rattle.std.proofs.Common.{arith, ◌≡◌, ◌≢◌, ℕ, ◌+◌, ◌≤◌, ◌^◌, List, [], ◌∷◌, ◌++◌, length, length-append, sym, ◌∙◌, ap, inl, inr, append_assoc}
use Rattle.std.specs.List.{AllByRecursion}
use Rattle.std.proofs.lemmas.Bool.{cases_eq}
use Rattle.std.proofs.lemmas.List.{append-nil}
use Rattle.sb_durable.specs.Blocks.{body, block, blocks, IsContent, IsLeft, IsRemnant, IsBeforeOrAfter}

pub each-push : (contents : List (List ℕ)) (content : List ℕ) → AllByRecursion IsContent contents → IsContent content → AllByRecursion IsContent (contents ++ content ∷ [])
each-push [] content all one = (one, tt)
each-push (c ∷ contents) content all one = (all.0, each-push contents content all.1 one)

pub blocks-push : (contents : List (List ℕ)) (content rest : List ℕ) → blocks (contents ++ content ∷ []) ++ rest ≡ blocks contents ++ (block content ++ rest)
blocks-push [] content rest = ap (λ (l : List ℕ). l ++ rest) (append-nil (block content))
blocks-push (c ∷ contents) content rest =
    append_assoc (block c) (blocks (contents ++ content ∷ [])) rest
    ∙ ap (λ (l : List ℕ). block c ++ l) (blocks-push contents content rest)
    ∙ sym (append_assoc (block c) (blocks contents) (block content ++ rest))

-- so few bytes may be behind it
pub remnant_of : (gate : ℕ) (rest : List ℕ) → gate ≢ 1 → length rest ≤ 2 ^ 20 + 5 → IsRemnant (gate ∷ rest)
remnant_of gate [] shut few = tt
remnant_of gate (next ∷ rest) shut few = (shut, omega (arith, few))

-- a shut gate ends them
pub left_shut : (contents : List (List ℕ)) (gate : ℕ) (rest file : List ℕ) → AllByRecursion IsContent contents → gate ≢ 1 → length rest ≤ 2 ^ 20 + 5 → file ≡ blocks contents ++ gate ∷ rest → IsLeft contents file
left_shut contents gate rest file each shut few is = record { stands = record { each = each; end = gate ∷ rest; whole = is; over = inl shut }; few = remnant_of gate rest shut few }

-- a body and a gate
pub few_bytes : (content : List ℕ) → IsContent content → length (body content ++ 0 ∷ []) ≤ 2 ^ 20 + 5
few_bytes content one = omega (arith, one, length-append (body content) (0 ∷ []))

-- a whole block behind any gate counts or it doesn't
pub stands_gate : (contents : List (List ℕ)) (content : List ℕ) (gate : ℕ) (file : List ℕ) → AllByRecursion IsContent contents → IsContent content
    → file ≡ blocks contents ++ gate ∷ (body content ++ 0 ∷ []) → IsBeforeOrAfter contents content file
stands_gate contents content gate file each one is = elim (cases_eq gate 1) [
  | inl opened ↦
      inr (left_shut (contents ++ content ∷ []) 0 [] file (each-push contents content each one) (omega arith) (omega arith)
      (is ∙ ap (λ (g : ℕ). blocks contents ++ g ∷ (body content ++ 0 ∷ [])) opened ∙ sym (blocks-push contents content (0 ∷ []))))
  | inr shut ↦ inl (left_shut contents gate (body content ++ 0 ∷ []) file each shut (few_bytes content one) is)
]
