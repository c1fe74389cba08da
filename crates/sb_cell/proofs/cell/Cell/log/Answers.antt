use Rattle.std.proofs.Common.{subst}
use Rattle.sb_cell.specs.Memory.{AreInStep, HoldsTransactions}
use Rattle.sb_cell.proofs.Memory.{are_in_step, holds_transactions}
use Rattle.sb_cell.proofs.cell.Cell.log.Goals as goal

pub returns-clause-transactions : goal.returns-clause-transactions
returns-clause-transactions c = subst HoldsTransactions c.self.view_is (holds_transactions _ c.self.invariant)

pub returns-clause-in_step : goal.returns-clause-in_step
returns-clause-in_step c = subst AreInStep c.self.view_is (are_in_step _ c.self.invariant)
