-- Promise: a host renews a tenant: what the receipts of its sessions have to be, and why there is no renewal.
use Rattle.std.specs.Prelude.{ℕ, true, ◌≡◌, ◌<◌, ◌≤◌, List, length}
use Rattle.std.specs.List.{All}
use Rattle.std.specs.List.Sorted.{IsPermutation}
use Rattle.sb_tenant.specs.declared.bound.Bound.{Bound}
use Rattle.sb_tenant.specs.declared.reply.Entry.{Entry}
use Rattle.sb_tenant.specs.Limits.{session_count}
use Rattle.sb_tenant.specs.Tenant.{Tenant}
use Rattle.sb_cell.specs.declared.renewal.RenewalError.TheVariants.{NoTenant, NotAlike, TooMany}
use Rattle.sb_cell.specs.Renewal.{AreBothClosed, IsNotRenewed, IsOfCell, Renews}
use Rattle.sb_cell.specs.Tenants.{Cell, hosts, trails}
use Rattle.sb_desk.specs.declared.receipts.Receipt.{Receipt}
use Rattle.sb_desk.specs.declared.stub.Stub.{Stub}
use Rattle.sb_desk.specs.Receipts.{receipts_of}
use Rattle.sb_host.specs.Finish.{gathered}
use Rattle.sb_host.specs.declared.renewal.RenewError.{RenewError}
use Rattle.sb_host.specs.declared.renewal.RenewError.TheVariants.{OtherTenant, NotClosed, Refused, Missing, Mismatch, NoMemory}

-- all of them are this tenant's
abbrev pub AreOf : ℕ → List Stub → Type 0
AreOf t stubs = All (λ (stub : Stub). stub.tenant ≡ t) stubs

-- ---- what each session has against a trail

-- the receipts of session s are exactly its entries, each once
abbrev pub AreEntries : List Entry → (ℕ → List Receipt) → ℕ → Type 0
AreEntries trail held s = IsPermutation (held s) (receipts_of s 1 trail)

-- those of all sessions are
abbrev pub AllAreEntries : List Entry → (ℕ → List Receipt) → Type 0
AllAreEntries trail held = (s : ℕ) → s < session_count → AreEntries trail held s

-- they stand in the entries' order, too
abbrev pub AreInOrderOf : List Entry → (ℕ → List Receipt) → Type 0
AreInOrderOf trail held = (s : ℕ) → s < session_count → held s ≡ receipts_of s 1 trail

-- session s is the first one whose receipts aren't its entries, and has fewer of them
abbrev pub HasFewer : List Entry → (ℕ → List Receipt) → ℕ → Type 0
HasFewer trail held s =
    (s < session_count) × ((r : ℕ) → r < s → AreEntries trail held r) × (length (held s) < length (receipts_of s 1 trail))

-- or has others
abbrev pub HasOthers : List Entry → (ℕ → List Receipt) → ℕ → Type 0
HasOthers trail held s =
    (s < session_count) × ((r : ℕ) → r < s → AreEntries trail held r) × (length (receipts_of s 1 trail) ≤ length (held s))
    × (AreEntries trail held s → ⊥)

-- ---- the answer

-- Of a cell's tenant the receipts were exactly the entries of the trail that has ended, and it was renewed. The stubs of the opening have those of the new trail, in order.
abbrev pub IsRenewed : Bound → List Stub → Tenant → Tenant → List Stub → Type 0
IsRenewed bound stubs fresh old opening =
    AreOf fresh.id stubs
    × ((c c' : Cell) × (c.bound ≡ bound) × Renews c old fresh c' × AllAreEntries old.trail (λ s. gathered fresh.id s stubs))
    × AreOf fresh.id opening × AreInOrderOf fresh.trail (λ s. gathered fresh.id s opening)

-- Else the receipts are given back: they are the tenant's where they were, and each session has its own, in whatever order.
abbrev pub GivesBack : ℕ → List Stub → List Stub → Type 0
GivesBack t stubs back =
    (AreOf t stubs → AreOf t back) × ((s : ℕ) → s < session_count → IsPermutation (gathered t s stubs) (gathered t s back))

-- Why a cell's tenant isn't renewed. Receipts are compared once no session is open; whether the two are alike is asked where they are the entries.
abbrev pub IsUnrenewedBy : Cell → (ℕ → List Receipt) → Tenant → RenewError → Type 0
IsUnrenewedBy c held fresh (Missing s) = IsOfCell c fresh × AreBothClosed c fresh × HasFewer (trails c fresh.id) held s
IsUnrenewedBy c held fresh (Mismatch s) = IsOfCell c fresh × AreBothClosed c fresh × HasOthers (trails c fresh.id) held s
IsUnrenewedBy c held fresh (Refused NotAlike) = IsNotRenewed c fresh NotAlike × AllAreEntries (trails c fresh.id) held
IsUnrenewedBy c held fresh (Refused TooMany) = IsNotRenewed c fresh TooMany × AllAreEntries (trails c fresh.id) held
IsUnrenewedBy c held fresh (Refused why) = IsNotRenewed c fresh why
IsUnrenewedBy c held fresh OtherTenant = ⊥
IsUnrenewedBy c held fresh NotClosed = ⊥
IsUnrenewedBy c held fresh NoMemory = ⊥

-- Why a host's isn't: it has no such tenant; receipts are another's; the cell that hosts it refuses. Where a session isn't closed yet, or memory ran out, the receipts are the tenant's.
abbrev pub IsUnrenewed : ℕ → Bound → List Stub → Tenant → RenewError → Type 0
IsUnrenewed tenants bound stubs fresh (Refused NoTenant) = tenants ≤ fresh.id
IsUnrenewed tenants bound stubs fresh OtherTenant = AreOf fresh.id stubs → ⊥
IsUnrenewed tenants bound stubs fresh NotClosed = AreOf fresh.id stubs
IsUnrenewed tenants bound stubs fresh NoMemory = Unit {0}
IsUnrenewed tenants bound stubs fresh why =
    AreOf fresh.id stubs × ((c : Cell) × (hosts c fresh.id ≡ true) × (c.bound ≡ bound) × IsUnrenewedBy c (λ s. gathered fresh.id s stubs) fresh why)
