-- Promise: what a server tells in its last line.
use Rattle.std.specs.Prelude.{ℕ, ◌≡◌, ◌++◌, List, length}
use Rattle.sb_tenant.specs.declared.bound.Bound.{Bound}
use Rattle.sb_wire.specs.Counts.{totals_line}
use Rattle.sb_monitor.specs.Listening.{listening_line}
use Rattle.sb_host.specs.Finish.{AreTrails, AreKeptAs}
use Rattle.sb_host.specs.Lives.{steps_made_in}
use Rattle.sb_host.specs.declared.finish.Report.{Report}

-- the line that tells how many trails there are, and how many steps sessions made in the lives whose last volumes they are
abbrev pub trails_line : Report → List ℕ
trails_line report = totals_line (length report.trails.items) (steps_made_in report.trails.items report.volumes.items)

-- there is a legal trail for each tenant, which is a volume of its life; and the line tells how many they are, and the steps of all lives
abbrev pub TellsTrails : Bound → ℕ → List ℕ → Type 0
TellsTrails bound tenants line =
    (report : Report) × AreTrails bound tenants report.trails.items × AreKeptAs bound report.trails.items report.volumes.items × (line ≡ trails_line report)

-- a server tells its port, and at its end its trails
abbrev pub TellsServer : Bound → ℕ → List ℕ → Type 0
TellsServer bound tenants text = (port : ℕ) × (line : List ℕ) × TellsTrails bound tenants line × (text ≡ listening_line port ++ line)
