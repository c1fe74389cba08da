-- Promise: what the closing check compares, and what it answers.
use Rattle.std.specs.Prelude.{ℕ, zero, suc, true, ◌+◌, ◌*◌, ◌≡◌, ◌<◌, ◌≤◌, ◌==◌, ◌&&◌, if◌then◌else◌, List, [], ◌∷◌, ◌++◌, length, slice_index_or, Option, Some, None, Result, Ok, Err, Vec}
use Rattle.std.specs.Global.{Global}
use Rattle.std.specs.List.Sorted.{IsNonDecreasingBy, IsPermutation}
use Rattle.sb_tenant.specs.declared.bound.Bound.{Bound}
use Rattle.sb_cell.specs.Tenants.{Cell, hosts, tenant_at, trails as trail_in}
use Rattle.sb_tenant.specs.declared.reply.Entry.{Entry}
use Rattle.sb_tenant.specs.declared.volume.Volume.{Volume}
use Rattle.sb_tenant.specs.Limits.{session_count}
use Rattle.sb_tenant.specs.Tenant.{Tenant}
use Rattle.sb_tenant.specs.Trail.{IsTrail}
use Rattle.sb_tenant.specs.Volumes.{first_volume}
use Rattle.sb_desk.specs.declared.receipts.Receipt.{Receipt}
use Rattle.sb_desk.specs.Receipts.{receipts_of}
use Rattle.sb_desk.specs.declared.stub.Stub.{Stub}
use Rattle.sb_host.specs.declared.finish.Report.{Report}
use Rattle.sb_host.specs.declared.finish.FinishError.{FinishError}
use Rattle.sb_host.specs.declared.finish.FinishError.TheVariants.{Missing, Mismatch, NoMemory}

-- ---- what is compared

-- the list of that number; past the end there is none
abbrev pub row_at : {A : Type 0} → List (Vec A Global) → ℕ → List A
row_at [] n = []
row_at (v ∷ vs) zero = v.items
row_at (v ∷ vs) (suc n) = row_at vs n

-- the receipts in a stub, if it is of session s of tenant t
abbrev pub receipts_in : ℕ → ℕ → Stub → List Receipt
receipts_in t s x = if (x.tenant == t) && (x.session == s) then x.receipts.items else []

-- those of session s of tenant t, of all its stubs together
abbrev pub gathered : ℕ → ℕ → List Stub → List Receipt
gathered t s [] = []
gathered t s (x ∷ xs) = receipts_in t s x ++ gathered t s xs

-- those that its entries want: their numbers rise, and a tenant that the host lacks has no entries
abbrev pub wanted : ℕ → ℕ → List (Vec Entry Global) → List Receipt
wanted t s trails = receipts_of s 1 (row_at trails t)

-- its receipts are exactly its entries, each once
abbrev pub Agrees : ℕ → ℕ → List Stub → List (Vec Entry Global) → Type 0
Agrees t s stubs trails = IsPermutation (gathered t s stubs) (wanted t s trails)

-- the number of the step that a receipt is of
abbrev pub number_by : Option ℕ → ℕ
number_by None = 0
number_by (Some n) = n

abbrev pub step_of : Receipt → ℕ
step_of r = number_by r.answer.number

-- receipts stand in the order of their steps
abbrev pub IsInOrder : List Receipt → Type 0
IsInOrder receipts = IsNonDecreasingBy step_of receipts

-- there is one order of a session's entries by their steps
abbrev pub OrderIsFixed : Type 0
OrderIsFixed = (s : ℕ) (trail : List Entry) (receipts : List Receipt)
    → IsPermutation receipts (receipts_of s 1 trail) → IsInOrder receipts → receipts ≡ receipts_of s 1 trail

-- sessions stand in the order of their tenants, and of their numbers
abbrev pub rank : ℕ → ℕ → ℕ
rank t s = session_count * t + s

-- all sessions before this one agree
abbrev pub AgreeBefore : ℕ → ℕ → List Stub → List (Vec Entry Global) → Type 0
AgreeBefore t s stubs trails = (u r : ℕ) → r < session_count → rank u r < rank t s → Agrees u r stubs trails

-- ---- the answer

-- the trail that a cell keeps of this tenant
abbrev pub IsKept : Bound → ℕ → List Entry → Type 0
IsKept bound t trail = (c : Cell) × (hosts c t ≡ true) × (c.bound ≡ bound) × (trail ≡ trail_in c t)

-- one trail for each tenant; each is legal, and the one that the tenant's cell keeps
abbrev pub AreTrails : Bound → ℕ → List (Vec Entry Global) → Type 0
AreTrails bound tenants trails =
    (length trails ≡ tenants) × ((t : ℕ) → IsTrail t bound (row_at trails t)) × ((t : ℕ) → t < tenants → IsKept bound t (row_at trails t))

-- the volume of that number; past the end there is none but the first
abbrev pub volume_at : List Volume → ℕ → Volume
volume_at volumes n = slice_index_or volumes n first_volume

-- a cell keeps this tenant, whose trail this is, and this volume of its life
abbrev pub IsKeptAs : Bound → ℕ → List Entry → Volume → Type 0
IsKeptAs bound t trail volume =
    (c : Cell) × (own : Tenant) × (hosts c t ≡ true) × (c.bound ≡ bound) × (tenant_at c t ≡ Some own) × (trail ≡ own.trail) × (volume ≡ own.volume)

-- the trails are those volumes of their tenants' lives
abbrev pub AreKeptAs : Bound → List (Vec Entry Global) → List Volume → Type 0
AreKeptAs bound trails volumes =
    (length volumes ≡ length trails) × ((t : ℕ) → t < length trails → IsKeptAs bound t (row_at trails t) (volume_at volumes t))

-- the number of entries of all trails
abbrev pub steps_in : List (Vec Entry Global) → ℕ
steps_in [] = 0
steps_in (trail ∷ trails) = length trail.items + steps_in trails

-- the first session that doesn't agree has fewer receipts than entries
abbrev pub IsMissing : ℕ → ℕ → List Stub → List (Vec Entry Global) → Type 0
IsMissing t s stubs trails = AgreeBefore t s stubs trails × (length (gathered t s stubs) < length (wanted t s trails))

-- or it has others
abbrev pub IsMismatch : ℕ → ℕ → List Stub → List (Vec Entry Global) → Type 0
IsMismatch t s stubs trails =
    AgreeBefore t s stubs trails × (length (wanted t s trails) ≤ length (gathered t s stubs)) × (Agrees t s stubs trails → ⊥)

-- all sessions agree with the trails that are given, with their volumes; or there are trails with which the first one that is told doesn't; or memory ran out
abbrev pub Finishes : Bound → ℕ → List Stub → Result Report FinishError → Type 0
Finishes bound tenants stubs (Ok report) =
    AreTrails bound tenants report.trails.items × ((t s : ℕ) → s < session_count → Agrees t s stubs report.trails.items)
    × AreKeptAs bound report.trails.items report.volumes.items
Finishes bound tenants stubs (Err (Missing t s)) = (trails : List (Vec Entry Global)) × AreTrails bound tenants trails × IsMissing t s stubs trails
Finishes bound tenants stubs (Err (Mismatch t s)) = (trails : List (Vec Entry Global)) × AreTrails bound tenants trails × IsMismatch t s stubs trails
Finishes bound tenants stubs (Err NoMemory) = Unit {0}
