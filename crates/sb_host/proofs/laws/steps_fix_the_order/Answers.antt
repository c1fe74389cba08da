use Rattle.sb_desk.specs.Receipts.{receipts_of}
use Rattle.sb_host.specs.Finish.{step_of}
use Rattle.sb_host.proofs.Rising.{only_rising}
use Rattle.sb_host.proofs.Wanted.{wants_rise}
use Rattle.sb_host.proofs.laws.steps_fix_the_order.Goals as goal

pub returns : goal.returns
returns c = λ s trail receipts same up. only_rising step_of 1 receipts (receipts_of s 1 trail) same up (wants_rise s 1 trail)
