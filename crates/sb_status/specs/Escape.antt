-- Promise: how a text of others stands in a page and in a label.
use Rattle.std.specs.Prelude.{ℕ, ◌==◌, ◌||◌, Bool, if◌then◌else◌, List, [], ◌∷◌, codes}
use Rattle.std.specs.List.{flat_map}
use Rattle.sb_status.specs.declared.text.Escaping.{Escaping}
use Rattle.sb_status.specs.declared.text.Escaping.TheVariants.{Html, Label}

-- the bytes < > " ', which tags and attributes begin and end with
abbrev pub is_markup : ℕ → Bool
is_markup b = b == 60 || b == 62 || b == 34 || b == 39

-- one byte of a text between tags or in the quotes of an attribute: & < > " ' are entities
abbrev pub html_byte : ℕ → List ℕ
html_byte b =
    if b == 38 then codes "&amp;" else if b == 60 then codes "&lt;" else if b == 62 then codes "&gt;"
    else if b == 34 then codes "&quot;" else if b == 39 then codes "&#39;" else b ∷ []

-- one byte of a text in the quotes of a label: a backslash, a quote and a newline get a backslash in front
abbrev pub label_byte : ℕ → List ℕ
label_byte b = if b == 92 then 92 ∷ 92 ∷ [] else if b == 34 then 92 ∷ 34 ∷ [] else if b == 10 then 92 ∷ 110 ∷ [] else b ∷ []

abbrev pub escaped_byte : Escaping → ℕ → List ℕ
escaped_byte Html b = html_byte b
escaped_byte Label b = label_byte b

-- a text, byte by byte
abbrev pub escaped : Escaping → List ℕ → List ℕ
escaped e text = flat_map (escaped_byte e) text
