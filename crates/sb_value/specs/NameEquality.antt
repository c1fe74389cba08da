-- Machine: the test of two names decides whether they are the same list of bytes.
use Rattle.std.specs.Prelude.{◌≡◌, ℕ, true, List}
use Rattle.std.specs.Cmp.Lexicographic.{bytes_decides}
use Rattle.std.proofs.Common.{sym, ◌∙◌}
use Rattle.std.proofs.lemmas.Map.Text.{is_eq-slice_cmp}
use Rattle.sb_value.specs.Name.{same_name}

pub same_name_is : (a b : List ℕ) → same_name a b ≡ true → a ≡ b
same_name_is a b h = (bytes_decides a b).0 (sym (is_eq-slice_cmp a b) ∙ h)
