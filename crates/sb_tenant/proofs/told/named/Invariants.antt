-- the verdicts so far are there, with the rules' names
use Rattle.std.proofs.Common.{◌≡◌, take}
use Rattle.sb_tenant.specs.Perform.{named}
use Rattle.sb_tenant.specs.Catalog.{EachCatalog}
use Rattle.sb_tenant.proofs.told.named.Given as goal

abbrev pub invariant-loop-rule : goal.invariant-loop-rule
invariant-loop-rule l = EachCatalog l.fn.rules (λ catalog. l.list.items ≡ named catalog (take l.rule-index l.fn.verdicts))
