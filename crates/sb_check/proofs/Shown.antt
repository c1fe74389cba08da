-- Sources that are shown, one list after another.
use Rattle.std.proofs.Common.{◌≡◌, ◌∙◌, List, ◌++◌, fold, sym, ap}
use Rattle.std.proofs.lemmas.List.Sums.{fold-append}
use Rattle.sb_check.specs.declared.tree.Source.{Source}

pub shown_both : {S : Type 0} (after : S → Source → S) (i a b : S) (x y : List Source) → a ≡ fold after i x → b ≡ fold after a y → b ≡ fold after i (x ++ y)
shown_both after i a b x y p q = q ∙ ap (λ s. fold after s y) p ∙ sym (fold-append after i x y)

pub shown_next : {S : Type 0} (after : S → Source → S) (i a : S) (x y : List Source) → a ≡ fold after i x → fold after i (x ++ y) ≡ fold after a y
shown_next after i a x y p = fold-append after i x y ∙ ap (λ s. fold after s y) (sym p)
