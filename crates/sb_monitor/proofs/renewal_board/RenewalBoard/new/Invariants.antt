use Rattle.std.proofs.Common.{◌≡◌, length}
use Rattle.sb_monitor.proofs.renewal_board.RenewalBoard.new.Given as goal

-- one for each tenant so far
abbrev pub invariant-loop-tenant : goal.invariant-loop-tenant
invariant-loop-tenant g l = length l.renewed.items ≡ l._tenant
