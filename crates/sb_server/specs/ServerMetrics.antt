-- Promise: the places of a board, and what it shows of lines and sessions.
use Rattle.std.specs.Prelude.{◌≤◌, ◌<◌, ◌-◌, ◌^◌, ℕ, List, length}
use Rattle.std.specs.List.Sorted.{IsNonDecreasingBy}
use Rattle.sb_connection.specs.declared.first_line.SessionName.{SessionName}
use Rattle.sb_server.specs.declared.server_metrics.ServerMetrics.{ServerMetrics}
use Rattle.sb_server.specs.declared.slow_line.SlowLine.{SlowLine}

-- those of the workers and the door's; where nothing is counted there are none
abbrev pub place_count : ServerMetrics → ℕ
place_count server_metrics = length server_metrics.tallies.items

-- the workers that may be told something
abbrev pub desk_count : ServerMetrics → ℕ
desk_count server_metrics = length server_metrics.desks.items

-- the more, the less time a line took
abbrev pub quickness : SlowLine → ℕ
quickness line = 2 ^ 64 - 1 - line.nanos

-- the slowest line comes first
abbrev pub AreSlowestFirst : List SlowLine → Type 0
AreSlowestFirst lines = IsNonDecreasingBy quickness lines

-- one of the sessions of a server whose first tenant has this number
abbrev pub IsSessionFrom : ℕ → SessionName → Type 0
IsSessionFrom first named = (named.session < 8) × (first ≤ named.tenant)
