-- Promise: what is noted of a tenant that has had further steps.
use Rattle.std.specs.Prelude.{◌≡◌, ◌≢◌, ℕ, length}
use Rattle.sb_tenant.specs.Tenant.{Tenant}
use Rattle.sb_backup.specs.HostDumps.{IsNotedOf}
use Rattle.sb_backup.specs.declared.host_dump.NotedScript.TheVariants as noted
use Rattle.sb_backup.specs.declared.host_dump.ScriptNotes.{ScriptNotes}

-- of a tenant that has as many steps as are known nothing more is noted; of another one what it has, and how many steps
abbrev pub IsNoted : ℕ → ScriptNotes → Tenant → ℕ → ScriptNotes → Type 0
IsNoted known old own steps new =
    (steps ≡ length own.trail) × (steps ≡ known → new ≡ old)
    × ((steps ≢ known) → old.noted ≡ noted.Unused → IsNotedOf old.bound own new.noted)
