-- Promise: what a page is: its own marks, numbers, and texts of others, which are escaped.
use Rattle.std.specs.Prelude.{◌≡◌, ℕ, List, decimal}
use Rattle.std.specs.List.{flat_map}
use Rattle.sb_status.specs.Escape.{escaped}
use Rattle.sb_status.specs.MarkupTexts.{markup_text}
use Rattle.sb_status.specs.declared.fragment.Fragment.{Fragment}
use Rattle.sb_status.specs.declared.fragment.Fragment.TheVariants.{Markup, Text, Number}
use Rattle.sb_status.specs.declared.text.Escaping.{Escaping}

abbrev pub piece_text : Escaping → Fragment → List ℕ
piece_text e (Markup m) = markup_text m
piece_text e (Text t) = escaped e t.now
piece_text e (Number n) = decimal n

-- one behind the other
abbrev pub rendered : Escaping → List Fragment → List ℕ
rendered e pieces = flat_map (piece_text e) pieces

-- these bytes are a page: some pieces, each as it is to stand
abbrev pub IsPage : Escaping → List ℕ → Type 0
IsPage e bytes = (pieces : List Fragment) × (bytes ≡ rendered e pieces)
