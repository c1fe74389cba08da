-- Promise: what a dump writes of an input.
use Rattle.std.specs.Prelude.{◌≡◌, ◌⊎◌, ◌<◌, ℕ, true, List, [], ◌∷◌, ◌++◌, Some, None}
use Rattle.sb_tenant.specs.declared.bound.Bound.{Bound}
use Rattle.sb_cell.specs.Tenants.{IsNew, Cell as ItsCell, tenant_at, trails}
use Rattle.sb_dump.specs.Dumps.{Dumps, is_busy}
use Rattle.sb_dump.specs.declared.dumps.DumpError.{DumpError}
use Rattle.sb_dump.specs.declared.dumps.DumpError.TheVariants.{Busy, NotAlike, NoMemory}
use Rattle.sb_wire.specs.declared.fault.StreamError.TheVariants as stream
use Rattle.sb_tenant.specs.Tenant.{Tenant, state}
use Rattle.sb_wire.specs.Stream.{AnswersInput}
use Rattle.sb_backup.specs.declared.error.BackupError.{BackupError}
use Rattle.sb_backup.specs.declared.error.BackupError.TheVariants.{CannotDump, CannotWrite, NoFolder, NoTenant, Stream, TenantBusy}
use Rattle.sb_wire.specs.declared.fault.StreamError.{StreamError}

-- each line, and its end
abbrev pub script_text : List (List ℕ) → List ℕ
script_text [] = []
script_text (line ∷ lines) = line ++ 10 ∷ script_text lines

-- the input is answered on fresh tenants, and the replies are thrown away
pub record LeavesTenants (tenants : ℕ) (bound : Bound) (input : List ℕ) : Type 0 where
  pub fresh : ItsCell
  pub is_new : IsNew 0 1 tenants bound fresh
  pub told : List ℕ
  pub cell : ItsCell
  pub answered : AnswersInput fresh input told cell

-- the text is a script of this tenant, as the input leaves it
pub record DumpsInput (tenants : ℕ) (bound : Bound) (tenant : ℕ) (input text : List ℕ) : Type 0 where
  pub leaves : LeavesTenants tenants bound input
  pub own : Tenant
  pub own_is : tenant_at leaves.cell tenant ≡ Some own
  pub script : List (List ℕ)
  pub dumps : Dumps bound own script
  pub text_is : text ≡ script_text script

-- what a tenant without a script is told as
abbrev pub undumped_as : ℕ → DumpError → BackupError
undumped_as tenant Busy = TenantBusy tenant
undumped_as tenant NotAlike = CannotDump tenant
undumped_as tenant NoMemory = Stream stream.NoMemory

-- it is told that the tenant isn't hosted, or that it has a transaction, where it is so on the cell; or that its script makes another tenant, or memory ran out
abbrev pub IsUndumped : ItsCell → ℕ → BackupError → Type 0
IsUndumped cell tenant (NoTenant t) = (t ≡ tenant) × (tenant_at cell tenant ≡ None)
IsUndumped cell tenant (TenantBusy t) = (t ≡ tenant) × (own : Tenant) × (tenant_at cell tenant ≡ Some own) × (is_busy (state own) ≡ true)
IsUndumped cell tenant (CannotDump t) = t ≡ tenant
IsUndumped cell tenant (Stream e) = e ≡ stream.NoMemory
IsUndumped cell tenant other = ⊥

-- it is that a stream failed
abbrev pub IsOfStream : BackupError → Type 0
IsOfStream why = (e : StreamError) × (why ≡ Stream e)

-- a stream failed, or so it is as the input leaves the tenant
abbrev pub RefusesDump : ℕ → Bound → ℕ → List ℕ → BackupError → Type 0
RefusesDump tenants bound tenant input why =
    IsOfStream why ⊎ ((leaves : LeavesTenants tenants bound input) × IsUndumped leaves.cell tenant why)

-- ---- all tenants

-- a tenant was never opened, or it has a script
abbrev pub HasScript : Bound → ItsCell → ℕ → Type 0
HasScript bound cell t =
    (trails cell t ≡ []) ⊎ ((own : Tenant) × (tenant_at cell t ≡ Some own) × (script : List (List ℕ)) × Dumps bound own script)

-- so it is of each, as the input leaves them
pub record HaveScripts (tenants : ℕ) (bound : Bound) (input : List ℕ) : Type 0 where
  pub leaves : LeavesTenants tenants bound input
  pub each : (t : ℕ) → t < tenants → HasScript bound leaves.cell t

-- it is told why a tenant has no script, or that its file can't be written
abbrev pub IsUnwritten : ItsCell → ℕ → BackupError → Type 0
IsUnwritten cell tenant why = (why ≡ CannotWrite tenant) ⊎ IsUndumped cell tenant why

-- so it is of the first one that isn't written: each before it was never opened, or has a script
abbrev pub FirstUnwritten : ℕ → Bound → ItsCell → BackupError → Type 0
FirstUnwritten tenants bound cell why =
    (t : ℕ) × (t < tenants) × ((u : ℕ) → u < t → HasScript bound cell u) × IsUnwritten cell t why

-- the folder isn't there, a stream failed, or so it is as the input leaves the tenants
abbrev pub RefusesDumps : ℕ → Bound → List ℕ → BackupError → Type 0
RefusesDumps tenants bound input why =
    (why ≡ NoFolder) ⊎ (IsOfStream why ⊎ ((leaves : LeavesTenants tenants bound input) × FirstUnwritten tenants bound leaves.cell why))
