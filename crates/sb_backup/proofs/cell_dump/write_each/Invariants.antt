use Rattle.std.proofs.Common.{◌≡◌, ◌<◌, ℕ, None}
use Rattle.std.specs.Prelude.{IfSome}
use Rattle.sb_backup.specs.Dumps.{FirstUnwritten, HasScript}
use Rattle.sb_backup.proofs.cell_dump.write_each.Given as goal

-- the tenants so far have scripts, or there is a fault
abbrev pub invariant-loop-tenant : goal.invariant-loop-tenant
invariant-loop-tenant g l = record {
  all : l.first ≡ None → (t : ℕ) → t < l.tenant → HasScript l.files.bound l.cell t;
  why : IfSome l.first (FirstUnwritten l.fn.tenants l.files.bound l.cell);
}
