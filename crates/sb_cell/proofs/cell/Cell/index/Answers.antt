use Rattle.std.proofs.Common.{subst}
use Rattle.sb_cell.specs.Memory.{HoldsRules}
use Rattle.sb_cell.proofs.Memory.{holds_rules}
use Rattle.sb_cell.proofs.cell.Cell.index.Goals as goal

pub returns-clause-rules : goal.returns-clause-rules
returns-clause-rules c = subst HoldsRules c.self.view_is (holds_rules _ c.self.invariant)
