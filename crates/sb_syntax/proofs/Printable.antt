-- A text whose bytes pass a test one by one.
use Rattle.std.proofs.Common.{◌≡◌, ℕ, true, List}
use Rattle.std.specs.List.{list_all, AllPass}
use Rattle.std.proofs.lemmas.List.Sums.{AllPass-from_list_all}
use Rattle.sb_value.specs.Printable.{is_printable}

pub printable : (bytes : List ℕ) → list_all is_printable bytes ≡ true → AllPass is_printable bytes
printable = AllPass-from_list_all is_printable
