-- Machine: the parts of the closing check.
use Rattle.std.specs.Prelude.{ℕ, ◌==◌, if◌then◌else◌, ◌∷◌, ◌++◌, ◌*◌, ◌/◌, ◌%◌, ◌≡◌, ◌<◌, ◌≤◌, nat_le, Bool, MatchBool, List, [], length, slice_index_or, take, Option, Some, None, Result, Ok, Err, Vec}
use Rattle.std.specs.Global.{Global}
use Rattle.std.specs.List.Sorted.{IsPermutation}
use Rattle.sb_tenant.specs.declared.bound.Bound.{Bound}
use Rattle.sb_tenant.specs.declared.reply.Entry.{Entry}
use Rattle.sb_tenant.specs.declared.volume.Volume.{Volume}
use Rattle.sb_tenant.specs.Limits.{session_count}
use Rattle.sb_tenant.specs.Tenant.{Tenant}
use Rattle.sb_tenant.specs.Trail.{IsTrail}
use Rattle.sb_desk.specs.declared.receipts.Receipt.{Receipt}
use Rattle.sb_desk.specs.Receipts.{numbered, receipt}
use Rattle.sb_host.specs.declared.comparing.ReceiptComparison.{ReceiptComparison}
use Rattle.sb_host.specs.declared.comparing.ReceiptComparison.TheVariants.{Equal, Fewer, Different}
use Rattle.sb_host.specs.declared.comparing.SeenEntries.{SeenEntries}
use Rattle.sb_host.specs.declared.finish.FinishError.{FinishError}
use Rattle.sb_host.specs.declared.finish.FinishError.TheVariants.{Missing, Mismatch, NoMemory}
use Rattle.sb_host.specs.declared.finish.Report.{Report}
use Rattle.sb_host.specs.declared.gathering.SessionPlace.{SessionPlace}
use Rattle.sb_desk.specs.declared.stub.Stub.{Stub}
use Rattle.sb_host.specs.Finish.{Agrees, IsKeptAs, IsMismatch, IsMissing, gathered, rank, receipts_in, row_at, volume_at, wanted}

-- the test says whether the two are equal
abbrev pub Tells : {A : Type 0} → Bool → A → A → Type 0
Tells b x y = MatchBool b (x ≡ y) (x ≡ y → ⊥)

-- ---- one session

-- as far as the entries want these, the receipts have been seen to be the same, or not
abbrev pub IsSeen : List Receipt → List Receipt → SeenEntries → Type 0
IsSeen held due seen = (seen.count ≡ length due) × Tells seen.same (take (length due) held) due

-- the receipt that the entry of this number wants
abbrev pub due_of : ℕ → Entry → Receipt
due_of n e = receipt e.line (numbered n e.reply)

-- those that it wants of session s
abbrev pub wanted_of : ℕ → ℕ → Entry → List Receipt
wanted_of s n e = if e.session == s then due_of n e ∷ [] else []

-- the test says whether this receipt stands at that place
abbrev pub TellsAt : Bool → List Receipt → ℕ → Receipt → Type 0
TellsAt b held at due =
    MatchBool b ((at < length held) × (slice_index_or held at due ≡ due)) (at < length held → slice_index_or held at due ≡ due → ⊥)

-- whatever was wanted before, so far as it was seen, it is with more
abbrev pub SeesMore : List Receipt → List Receipt → SeenEntries → SeenEntries → Type 0
SeesMore held more seen new = (due : List Receipt) → IsSeen held due seen → IsSeen held (due ++ more) new

-- two lists are one
abbrev pub Lists : List Receipt → List Receipt → ReceiptComparison → Type 0
Lists held due Equal = held ≡ due
Lists held due Fewer = length held < length due
Lists held due Different = (length due ≤ length held) × (held ≡ due → ⊥)

-- or they are, in some order
abbrev pub Compares : List Receipt → List Receipt → ReceiptComparison → Type 0
Compares held due Equal = IsPermutation held due
Compares held due Fewer = length held < length due
Compares held due Different = (length due ≤ length held) × (IsPermutation held due → ⊥)

-- ---- the sessions of a host's tenants, by rank

abbrev pub due_at : List (Vec Entry Global) → ℕ → List Receipt
due_at trails k = wanted (k / session_count) (k % session_count) trails

abbrev pub RowAgrees : List (Vec Receipt Global) → List (Vec Entry Global) → ℕ → Type 0
RowAgrees rows trails k = IsPermutation (row_at rows k) (due_at trails k)

-- a row for each session of so many tenants, which has its receipts in the stubs
abbrev pub AreRows : ℕ → List Stub → List (Vec Receipt Global) → Type 0
AreRows tenants stubs rows =
    (length rows ≡ 8 * tenants) × ((t s : ℕ) → t < tenants → s < 8 → row_at rows (rank t s) ≡ gathered t s stubs)

-- each row has more by the receipts of a stub
abbrev pub TakeStub : ℕ → Stub → List (Vec Receipt Global) → List (Vec Receipt Global) → Type 0
TakeStub tenants stub old new =
    (t s : ℕ) → t < tenants → s < 8 → row_at new (rank t s) ≡ row_at old (rank t s) ++ receipts_in t s stub

-- the row of rank k is the first that doesn't agree, and this was found of it
abbrev pub FailsAt : List (Vec Receipt Global) → List (Vec Entry Global) → ℕ → ReceiptComparison → Type 0
FailsAt rows trails k found =
    ((j : ℕ) → j < k → RowAgrees rows trails j) × (k < length rows) × Compares (row_at rows k) (due_at trails k) found

-- it is told by its session
abbrev pub RowFails : List (Vec Receipt Global) → List (Vec Entry Global) → FinishError → Type 0
RowFails rows trails (Missing t s) = (s < session_count) × FailsAt rows trails (rank t s) Fewer
RowFails rows trails (Mismatch t s) = (s < session_count) × FailsAt rows trails (rank t s) Different
RowFails rows trails NoMemory = ⊥

-- ---- the trails of cells

-- what the last of these tenants with this number has there, or else what stood there
abbrev pub last_by : {A : Type 0} → (Tenant → A) → ℕ → A → List Tenant → A
last_by part n held [] = held
last_by part n held (t ∷ ts) = last_by part n (if t.id == n then part t else held) ts

abbrev pub trail_by : ℕ → List Entry → List Tenant → List Entry
trail_by n held ts = last_by (λ (t : Tenant). t.trail) n held ts

abbrev pub volume_by : ℕ → Volume → List Tenant → Volume
volume_by n held ts = last_by (λ (t : Tenant). t.volume) n held ts

-- one legal trail and one volume for each tenant; and those of the first cells are the ones that they keep
abbrev pub AreTrailsOf : ℕ → Bound → ℕ → ℕ → List (Vec Entry Global) → List Volume → Type 0
AreTrailsOf cells bound tenants count trails volumes =
    (length trails ≡ tenants) × ((t : ℕ) → IsTrail t bound (row_at trails t))
    × ((t : ℕ) → t < tenants → t % cells < count → IsKeptAs bound t (row_at trails t) (volume_at volumes t))
    × (length volumes ≡ tenants)

-- ---- the sessions of other tenants

-- the first one that has receipts, if there is one
abbrev pub IsFirstStray : ℕ → List Stub → Option SessionPlace → Type 0
IsFirstStray tenants stubs None = (t s : ℕ) → tenants ≤ t → gathered t s stubs ≡ []
IsFirstStray tenants stubs (Some p) =
    (tenants ≤ p.tenant) × (p.session < session_count) × (gathered p.tenant p.session stubs ≡ [] → ⊥)
    × ((t s : ℕ) → tenants ≤ t → s < session_count → rank t s < rank p.tenant p.session → gathered t s stubs ≡ [])

-- whatever stubs were looked at before, the first stray is told with this one, too
abbrev pub LooksAt : ℕ → Stub → Option SessionPlace → Option SessionPlace → Type 0
LooksAt tenants stub old new = (xs : List Stub) → IsFirstStray tenants xs old → IsFirstStray tenants (xs ++ stub ∷ []) new

-- it stands before the other, or is the same
abbrev pub is_no_later : SessionPlace → SessionPlace → Bool
is_no_later p other = nat_le (rank p.tenant p.session) (rank other.tenant other.session)

-- ---- all sessions

-- these trails and volumes are handed back where all agree; or the first that doesn't is told; or memory ran out
abbrev pub Audits : List (Vec Entry Global) → List Volume → List Stub → Result Report FinishError → Type 0
Audits trails volumes stubs (Ok report) =
    (report.trails.items ≡ trails) × ((t s : ℕ) → s < session_count → Agrees t s stubs trails) × (report.volumes.items ≡ volumes)
Audits trails volumes stubs (Err (Missing t s)) = IsMissing t s stubs trails
Audits trails volumes stubs (Err (Mismatch t s)) = IsMismatch t s stubs trails
Audits trails volumes stubs (Err NoMemory) = Unit {0}
