-- What a file of keys gives.
use Rattle.std.proofs.Common.{◌≡◌, ◌∙◌, ◌⊎◌, ◌<◌, ◌≤◌, ℕ, true, false, List, [], ◌++◌, Option, Some, None, length, take, option_map, inl, inr, sym, ap, subst, arith}
use Rattle.std.specs.Prelude.{IfSome}
use Rattle.std.specs.Io.Take.{take_inner, take_limit, take_remaining}
use Rattle.std.specs.declared.io.traits.Take.{Take}
use Rattle.std.proofs.Math.Dec.{leb}
use Rattle.std.proofs.lemmas.List.{length-take-le, take_all}
use Rattle.std.proofs.lemmas.Bool.Decides.{leb_tells}
use Rattle.sb_keys.specs.KeyTexts.{IsTextOf}

-- a text that is shorter than what was asked for is all that there is
pub text_whole : (limit : ℕ) (held : Option (List ℕ)) (text : List ℕ) → IfSome (option_map (take limit) held) (λ xs. text ≡ xs) → length text < limit → IsTextOf held text
text_whole limit None text is short = tt
text_whole limit (Some bytes) text is short = is ∙ whole (leb_tells (length bytes) limit)
  where
    whole : ((leb (length bytes) limit ≡ true) × (length bytes ≤ limit)) ⊎ ((leb (length bytes) limit ≡ false) × (limit < length bytes)) → take limit bytes ≡ bytes
    whole (inl fits) = take_all limit bytes fits.1
    whole (inr over) =
        let long : length text ≡ limit = ap length is ∙ length-take-le limit bytes (omega (arith, over.1)) in
        absurd (omega (arith, short, long))

-- what was read of the front of a file, where it is shorter than that front may be
pub text_of_front : {R : Type 0} (remaining : R → Option (List ℕ)) (front : Take R) (file : R) (limit : ℕ) (before text whole : List ℕ) → take_limit front ≡ limit → take_inner front ≡ file
    → before ≡ [] → IfSome (take_remaining remaining front) (λ xs. text ≡ before ++ xs) → whole ≡ text → length text < limit → IsTextOf (remaining file) whole
text_of_front {R} remaining front file limit before text whole same_limit same_file none read is short =
    subst (λ (r : R). IsTextOf (remaining r) whole) same_file
    (subst (λ (w : List ℕ). IsTextOf (remaining (take_inner front)) w) (sym is)
    (text_whole (take_limit front) (remaining (take_inner front)) text
    (subst (λ (b : List ℕ). IfSome (take_remaining remaining front) (λ xs. text ≡ b ++ xs)) none read)
    (subst (λ (n : ℕ). length text < n) (sym same_limit) short)))
