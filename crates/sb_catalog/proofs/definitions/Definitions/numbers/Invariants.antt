use Rattle.std.proofs.Common.{◌≡◌, take, Ok}
use Rattle.sb_catalog.specs.Definitions.{rules_named}
use Rattle.sb_catalog.proofs.definitions.Definitions.numbers.Given as goal

abbrev pub invariant-loop-name : goal.invariant-loop-name
invariant-loop-name l = rules_named l.self.rules (take l.name-index l.names) ≡ Ok l.numbers.items
