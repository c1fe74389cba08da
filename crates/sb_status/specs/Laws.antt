-- Promise: laws on texts and marks in pages.
use Rattle.std.specs.Prelude.{◌≡◌, ℕ, List, ◌∷◌, ◌++◌, true, not}
use Rattle.std.specs.List.{list_all}
use Rattle.sb_status.specs.Escape.{escaped, is_markup}
use Rattle.sb_status.specs.MarkupTexts.{markup_text}
use Rattle.sb_status.specs.Pages.{rendered}
use Rattle.sb_status.specs.declared.fragment.Fragment.{Fragment}
use Rattle.sb_status.specs.declared.fragment.Fragment.TheVariants as piece
use Rattle.sb_status.specs.declared.markup.Markup.{Markup}
use Rattle.sb_status.specs.declared.text.Escaping.TheVariants.{Html}

-- no byte of an escaped text is markup
abbrev pub TextsAreNoMarkup : Type 0
TextsAreNoMarkup = (text : List ℕ) → list_all (λ b. not (is_markup b)) (escaped Html text) ≡ true

-- one of the pieces is a mark, and a byte of a page stands in its text: so much of the page is before it, and so much behind it
pub record StandsInMarkup (pieces : List Fragment) (before : List ℕ) (byte : ℕ) (behind : List ℕ) : Type 0 where
  pub mark : Markup
  pub first : List Fragment
  pub last : List Fragment
  pub among : pieces ≡ first ++ piece.Markup mark ∷ last
  pub left : List ℕ
  pub right : List ℕ
  pub text : markup_text mark ≡ left ++ byte ∷ right
  pub in_front : before ≡ rendered Html first ++ left
  pub at_end : behind ≡ right ++ rendered Html last

-- wherever a byte of markup stands in a page, it stands in a mark
abbrev pub MarkupStandsInMarks : Type 0
MarkupStandsInMarks =
    (pieces : List Fragment) (before : List ℕ) (byte : ℕ) (behind : List ℕ)
    → rendered Html pieces ≡ before ++ byte ∷ behind → is_markup byte ≡ true → StandsInMarkup pieces before byte behind
