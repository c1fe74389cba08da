-- Machine: the tenants of a board of sessions.
use Rattle.std.specs.Prelude.{ℕ, length}
use Rattle.sb_monitor.specs.declared.session_board.SessionBoard.{SessionBoard}

-- those of which sessions are counted
abbrev pub tenants_counted : SessionBoard → ℕ
tenants_counted board = length board.tenants.items
