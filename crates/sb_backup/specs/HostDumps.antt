-- Promise: what is written of the tenants of a host, and by which names.
use Rattle.std.specs.Prelude.{◌≡◌, ◌⊎◌, ◌≤◌, ◌++◌, ℕ, true, List, [], codes, decimal}
use Rattle.sb_tenant.specs.declared.bound.Bound.{Bound}
use Rattle.sb_dump.specs.Dumps.{Dumps, is_busy}
use Rattle.sb_dump.specs.declared.dumps.DumpError.{DumpError}
use Rattle.sb_dump.specs.declared.dumps.DumpError.TheVariants.{Busy}
use Rattle.sb_wire.specs.declared.fault.StreamError.TheVariants as stream
use Rattle.sb_tenant.specs.Tenant.{Tenant, state}
use Rattle.sb_backup.specs.Dumps.{script_text, undumped_as}
use Rattle.sb_backup.specs.declared.error.BackupError.{BackupError}
use Rattle.sb_backup.specs.declared.error.BackupError.TheVariants.{CannotWrite, Stream}
use Rattle.sb_backup.specs.declared.host_dump.NotedScript.{NotedScript}
use Rattle.sb_backup.specs.declared.host_dump.NotedScript.TheVariants as noted

-- a file of the tenant with a number, in a folder, by the ending of its name
abbrev pub file_name : List ℕ → ℕ → List ℕ → List ℕ
file_name folder number ending = folder ++ (codes "/" ++ (decimal number ++ ending))

-- what a tenant has: a script of it, or the reason why there is none; and nothing where no session of it was ever opened
abbrev pub IsNotedOf : Bound → Tenant → NotedScript → Type 0
IsNotedOf bound own noted.Unused = own.trail ≡ []
IsNotedOf bound own (noted.Script script) = Dumps bound own script
IsNotedOf bound own (noted.Lacking why) = why ≡ Busy → is_busy (state own) ≡ true

-- its script isn't in its file: it has none, for this reason, or the file can't be written, or memory ran out
abbrev pub IsUnsaved : ℕ → BackupError → Type 0
IsUnsaved number why =
    (why ≡ CannotWrite number) ⊎ ((why ≡ Stream stream.NoMemory) ⊎ ((e : DumpError) × (why ≡ undumped_as number e)))

-- of so many tenants there is none of that number; or a tenant of it has this
abbrev pub IsNotedOfSome : Bound → ℕ → ℕ → NotedScript → Type 0
IsNotedOfSome bound tenants t found =
    ((tenants ≤ t) × (found ≡ noted.Unused)) ⊎ ((own : Tenant) × (own.id ≡ t) × IsNotedOf bound own found)

-- the text of a script of a tenant, or nothing where no session of it was ever opened
abbrev pub IsScriptOf : Bound → Tenant → List ℕ → Type 0
IsScriptOf bound own text =
    ((own.trail ≡ []) × (text ≡ [])) ⊎ ((script : List (List ℕ)) × Dumps bound own script × (text ≡ script_text script))
