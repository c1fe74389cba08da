-- A tenant's script, or why there is none, as the input leaves the tenant.
use Rattle.std.proofs.Common.{◌≡◌, sym, subst, refl, inl, inr, ℕ, true, List, Option, Some, None}
use Rattle.std.specs.Prelude.{IfSome}
use Rattle.std.specs.Io.KnownBytes.{Appends}
use Rattle.sb_tenant.specs.declared.bound.Bound.{Bound}
use Rattle.sb_cell.specs.Tenants.{Cell, IsNew, tenant_at}
use Rattle.sb_dump.specs.Dumps.{Dumps, is_busy}
use Rattle.sb_dump.specs.declared.dumps.DumpError.{DumpError}
use Rattle.sb_dump.specs.declared.dumps.DumpError.TheVariants.{Busy, NotAlike, NoMemory}
use Rattle.sb_tenant.specs.Tenant.{Tenant, state}
use Rattle.sb_wire.specs.Stream.{AnswersInput}
use Rattle.sb_backup.specs.Dumps.{DumpsInput, IsUndumped, LeavesTenants, RefusesDump, script_text, undumped_as}
use Rattle.sb_backup.specs.declared.error.BackupError.{BackupError}
use Rattle.sb_backup.specs.declared.error.BackupError.TheVariants.{Stream}
use Rattle.sb_wire.specs.declared.fault.StreamError.{StreamError}

pub undumped : (cell : Cell) (t : ℕ) (own : Tenant) (e : DumpError) → Some own ≡ tenant_at cell t → (e ≡ Busy → is_busy (state own) ≡ true)
    → IsUndumped cell t (undumped_as t e)
undumped cell t own Busy found busy = (refl, own, sym found, busy refl)
undumped cell t own NotAlike found busy = refl
undumped cell t own NoMemory found busy = refl

-- the cell that the input leaves
abbrev pub Leaves : ℕ → Bound → Cell → List ℕ → Type 0
Leaves tenants bound cell input = (leaves : LeavesTenants tenants bound input) × (leaves.cell ≡ cell)

pub leaves : (tenants : ℕ) (bound : Bound) (fresh cell : Cell) (held holds input : Option (List ℕ)) → IsNew 0 1 tenants bound fresh
    → IfSome input (λ bytes. (text : List ℕ) × Appends held holds text × AnswersInput fresh bytes text cell) → IfSome input (Leaves tenants bound cell)
leaves tenants bound fresh cell held holds None new answers = tt
leaves tenants bound fresh cell held holds (Some bytes) new answers =
    (record { fresh = fresh; is_new = new; told = answers.0; cell = cell; answered = answers.2 }, refl)

pub stream_failed : (tenants : ℕ) (bound : Bound) (t : ℕ) (input : Option (List ℕ)) (e : StreamError) → IfSome input (λ bytes. RefusesDump tenants bound t bytes (Stream e))
stream_failed tenants bound t None e = tt
stream_failed tenants bound t (Some bytes) e = inl (e, refl)

module _ (tenants : ℕ) (bound : Bound) (t : ℕ) (cell : Cell) where
  pub refuses : (input : Option (List ℕ)) (why : BackupError) → IfSome input (Leaves tenants bound cell) → IsUndumped cell t why
      → IfSome input (λ bytes. RefusesDump tenants bound t bytes why)
  refuses None why left un = tt
  refuses (Some bytes) why left un = inr (left.0, subst (λ c. IsUndumped c t why) (sym left.1) un)

  pub dumps : (input old new : Option (List ℕ)) (script : List (List ℕ)) → IfSome input (Leaves tenants bound cell)
      → ((own : Tenant) × (tenant_at cell t ≡ Some own) × Dumps bound own script) → Appends old new (script_text script)
      → IfSome input (λ bytes. (text : List ℕ) × Appends old new text × DumpsInput tenants bound t bytes text)
  dumps None old new script left own written = tt
  dumps (Some bytes) old new script left own written = (
    script_text script,
    written,
    record {
      leaves = left.0;
      own = own.0;
      own_is = subst (λ c. tenant_at c t ≡ Some own.0) (sym left.1) own.1;
      script = script;
      dumps = own.2;
      text_is = refl;
    },
  )
