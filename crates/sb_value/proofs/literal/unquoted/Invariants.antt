use Rattle.std.proofs.Common.{◌≡◌, ◌++◌, length}
use Rattle.std.specs.Option.{option_map}
use Rattle.std.specs.List.{AllPass}
use Rattle.sb_value.specs.Printable.{is_printable}
use Rattle.sb_value.specs.Literal.{text_of}
use Rattle.sb_value.proofs.literal.unquoted.Given as goal

abbrev pub invariant-parts : goal.invariant-parts
invariant-parts l = record {
  value : text_of l.fn.quoted ≡ option_map (λ t. l.text.items ++ t) (text_of l.rest);
  printable : AllPass is_printable l.text.items;
}

abbrev pub decreases-parts : goal.decreases-parts
decreases-parts l = length l.rest
