-- Machine: the tenants of a board.
use Rattle.std.specs.Prelude.{ℕ, length}
use Rattle.sb_monitor.specs.declared.renewal_board.RenewalBoard.{RenewalBoard}

-- those of which it tells when they were renewed
abbrev pub tenant_count : RenewalBoard → ℕ
tenant_count board = length board.renewed.items
