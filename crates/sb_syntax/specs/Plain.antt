-- Promise: bytes that stand for themselves in a text.
use Rattle.std.specs.Prelude.{ℕ, Bool, not, ◌==◌, ◌&&◌}
use Rattle.sb_value.specs.Printable.{is_printable}

abbrev pub is_bare : ℕ → Bool
is_bare b = is_printable b && not (b == 39)
