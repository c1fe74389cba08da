-- Facts on tests.
use Rattle.std.proofs.Common.{◌≡◌, ◌≢◌, ℕ, Bool, true, false, List, length, refl, ap, sym, ◌∙◌}
use Rattle.std.specs.Prelude.{bytes_eq}
use Rattle.std.proofs.lemmas.Map.Text.{is_eq-slice_cmp}
use Rattle.std.proofs.lemmas.Slice.Eq.{bytes_eq-Decides}
use Rattle.sb_value.specs.Name.{same_name}

pub same_text : (line text : List ℕ) → same_name line text ≡ true → line ≡ text
same_text line text h = (bytes_eq-Decides line text).0 (sym (is_eq-slice_cmp line text) ∙ h)

-- the same test as the program makes it
pub texts-same : (a b : List ℕ) → bytes_eq a b ≡ same_name a b
texts-same a b = sym (is_eq-slice_cmp a b)

-- lines of another length are others
pub other_length : (a b : List ℕ) → length a ≢ length b → false ≡ same_name a b
other_length a b other = by (same_name a b) refl
  where
    by : (is : Bool) → same_name a b ≡ is → false ≡ is
    by false e = refl
    by true e = absurd (other (ap length (same_text a b e)))
