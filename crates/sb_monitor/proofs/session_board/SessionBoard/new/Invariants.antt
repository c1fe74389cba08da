use Rattle.std.proofs.Common.{◌≡◌, length}
use Rattle.sb_monitor.proofs.session_board.SessionBoard.new.Given as goal

-- one for each tenant so far
abbrev pub invariant-loop-tenant : goal.invariant-loop-tenant
invariant-loop-tenant l = length l.counted.items ≡ l._tenant
