-- Machine: the parts of a renewal.
use Rattle.std.specs.Prelude.{ℕ, zero, suc, true, ◌≡◌, ◌⊎◌, ◌<◌, ◌≤◌, ◌+◌, ◌==◌, if◌then◌else◌, List, [], ◌∷◌, length, map, sum_by, Option, Some, None, Vec, vec_len, vec_capacity}
use Rattle.std.specs.Global.{Global}
use Rattle.std.specs.List.Sorted.{IsPermutation}
use Rattle.sb_tenant.specs.declared.bound.Bound.{Bound}
use Rattle.sb_tenant.specs.Limits.{session_count}
use Rattle.sb_tenant.specs.Tenant.{Tenant, state}
use Rattle.sb_tenant.specs.Volumes.{AreClosed}
use Rattle.sb_tenant.specs.declared.reply.Entry.{Entry}
use Rattle.sb_cell.specs.declared.renewal.RenewalError.{RenewalError}
use Rattle.sb_cell.specs.declared.renewal.RenewalError.TheVariants.{NoTenant, OtherBound, Open, NotAlike, TooMany}
use Rattle.sb_cell.specs.Renewal.{IsOpenSomewhere, Renews}
use Rattle.sb_cell.specs.Tenants.{Cell, hosts}
use Rattle.sb_desk.specs.declared.receipts.Receipt.{Receipt}
use Rattle.sb_host.specs.declared.volume_stubs.VolumeStubs.TheInside.{Inside}
use Rattle.sb_host.specs.declared.renewal.RenewError.{RenewError}
use Rattle.sb_host.specs.declared.renewal.RenewError.TheVariants.{OtherTenant, NotClosed, Refused, Missing, Mismatch, NoMemory}
use Rattle.sb_desk.specs.declared.stub.Stub.{Stub}
use Rattle.sb_host.specs.Finish.{gathered, row_at}
use Rattle.sb_host.specs.Renewal.{AllAreEntries, AreOf, AreInOrderOf, HasFewer, HasOthers, IsUnrenewedBy}

-- the receipts of the sessions 0 to 7 of a tenant, since its volume began
pub record VolumeStubs : Type 0 where
  pub tenant : ℕ
  pub lists : List (List Receipt)

-- the list of that number; past the end there is none
abbrev pub list_at : List (List Receipt) → ℕ → List Receipt
list_at [] n = []
list_at (l ∷ ls) zero = l
list_at (l ∷ ls) (suc n) = list_at ls n

-- those of session s
abbrev pub held_by : VolumeStubs → ℕ → List Receipt
held_by stubs s = list_at stubs.lists s

-- the receipts of a stub, if it is of session s
abbrev pub left_to : ℕ → Stub → List Receipt
left_to s stub = if stub.session == s then stub.receipts.items else []

-- each session has those of the tenant's stubs, in whatever order
abbrev pub AreHeld : ℕ → List Stub → (ℕ → List Receipt) → Type 0
AreHeld t stubs held = (s : ℕ) → s < session_count → IsPermutation (gathered t s stubs) (held s)

-- a list without a stub that has room for one of each session
abbrev pub IsSpare : Vec Stub Global → Type 0
IsSpare list = (list.items ≡ []) × (vec_len list + session_count ≤ vec_capacity list)

-- how many receipts the rows have
abbrev pub receipt_count : List (Vec Receipt Global) → ℕ
receipt_count rows = sum_by (λ row. length row.items) rows

-- the lists of the rows
abbrev pub lists_of : List (Vec Receipt Global) → List (List Receipt)
lists_of rows = map (λ row. row.items) rows

-- ---- the receipts of a volume

module _ {N : Type 0} where
  abbrev pub seen : Inside N → VolumeStubs
  seen v = record { tenant = v.tenant; lists = lists_of v.rows.items }

  -- a tenant of the host, a row for each session, and a part of the ledger for each receipt
  abbrev pub AreKept : ℕ → Inside N → Type 0
  AreKept tenants v = (v.tenant < tenants) × (length v.rows.items ≡ session_count) × (v.share.parts ≡ receipt_count v.rows.items)

-- the rows with which a trail begins: the receipts of its entries, which are as many as these
abbrev pub IsOpening : List Entry → List (Vec Receipt Global) → Type 0
IsOpening trail rows =
    (length rows ≡ session_count) × (receipt_count rows ≡ length trail) × AreInOrderOf trail (row_at rows)

-- the cell hosts the tenant of that number, with this bound
abbrev pub IsCellOf : Bound → Cell → ℕ → Type 0
IsCellOf bound c t = (hosts c t ≡ true) × (c.bound ≡ bound)

-- ---- before receipts are compared

-- why the fresh tenant can't take this one's place, as far as that shows by their bounds and sessions
abbrev pub IsEarly : Tenant → Tenant → Option RenewalError → Type 0
IsEarly own fresh None = (fresh.bound ≡ own.bound) × AreClosed (state own) × AreClosed (state fresh)
IsEarly own fresh (Some OtherBound) = fresh.bound ≡ own.bound → ⊥
IsEarly own fresh (Some Open) = (fresh.bound ≡ own.bound) × (IsOpenSomewhere (state own) ⊎ IsOpenSomewhere (state fresh))
IsEarly own fresh (Some NoTenant) = ⊥
IsEarly own fresh (Some NotAlike) = ⊥
IsEarly own fresh (Some TooMany) = ⊥

-- ---- compared

-- the first session whose receipts aren't its entries
abbrev pub DiffersFirst : List Entry → (ℕ → List Receipt) → RenewError → Type 0
DiffersFirst trail held (Missing s) = HasFewer trail held s
DiffersFirst trail held (Mismatch s) = HasOthers trail held s
DiffersFirst trail held (Refused why) = ⊥
DiffersFirst trail held OtherTenant = ⊥
DiffersFirst trail held NotClosed = ⊥
DiffersFirst trail held NoMemory = ⊥

-- ---- by the receipts of a volume

-- The receipts were exactly the entries of the trail that has ended, and the tenant was renewed. The receipts of the new volume are those of its opening.
abbrev pub VolumeIsRenewed : Bound → VolumeStubs → Tenant → Tenant → VolumeStubs → Type 0
VolumeIsRenewed bound stubs fresh old next =
    (c c' : Cell) × (c.bound ≡ bound) × Renews c old fresh c' × AllAreEntries old.trail (held_by stubs)
    × (next.tenant ≡ stubs.tenant) × AreInOrderOf fresh.trail (held_by next)

-- else each session has its receipts, in whatever order
abbrev pub KeepsRows : VolumeStubs → VolumeStubs → Type 0
KeepsRows stubs back = (back.tenant ≡ stubs.tenant) × ((s : ℕ) → s < session_count → IsPermutation (held_by stubs s) (held_by back s))

-- why there is no renewal
abbrev pub VolumeIsUnrenewed : Bound → VolumeStubs → Tenant → RenewError → Type 0
VolumeIsUnrenewed bound stubs fresh NoMemory = Unit {0}
VolumeIsUnrenewed bound stubs fresh OtherTenant = ⊥
VolumeIsUnrenewed bound stubs fresh NotClosed = ⊥
VolumeIsUnrenewed bound stubs fresh why = (c : Cell) × (hosts c fresh.id ≡ true) × (c.bound ≡ bound) × IsUnrenewedBy c (held_by stubs) fresh why

-- ---- before that

-- why stubs don't make the receipts of a tenant's volume
abbrev pub IsUngathered : ℕ → ℕ → List Stub → RenewError → Type 0
IsUngathered tenants t stubs (Refused NoTenant) = tenants ≤ t
IsUngathered tenants t stubs OtherTenant = AreOf t stubs → ⊥
IsUngathered tenants t stubs NotClosed = AreOf t stubs
IsUngathered tenants t stubs NoMemory = Unit {0}
IsUngathered tenants t stubs why = ⊥
