-- Machine: what holds of a session's receipts and of a desk at any time.
use Rattle.std.specs.Prelude.{ℕ, ◌+◌, ◌*◌, ◌/◌, ◌^◌, ◌≤◌, ◌<◌, ◌≡◌, ◌==◌, ◌&&◌, ◌%◌, nat_lt, Bool, true, false, List, length, slice_index_or, codes, Option, Some, None, IsTrue}
use Rattle.sb_tenant.specs.declared.bound.Bound.{Bound}
use Rattle.atomic_table.specs.Seated.{TableId}
use Rattle.sb_cell.specs.Hosting.{entry_count}
use Rattle.sb_cell.specs.Tenants.{Cell, hosts}
use Rattle.sb_desk.specs.declared.receipts.Newest.{Newest}
use Rattle.sb_desk.specs.declared.receipts.Newest.TheVariants as newest
use Rattle.sb_desk.specs.declared.receipts.Opening.{Opening}
use Rattle.sb_desk.specs.declared.receipts.Receipt.{Receipt}
use Rattle.sb_desk.specs.Desks.{open_in}
use Rattle.sb_desk.specs.Seats.{SessionSeat, IsSeat, number_of}

-- ---- receipts

abbrev pub not_some : {A : Type 0} → Option A → Bool
not_some None = true
not_some (Some x) = false

-- a session that is open holds its seat, and the line of its end
abbrev pub HoldsSeat : TableId → ℕ → Option Opening → Type 0
HoldsSeat z n None = Unit {0}
HoldsSeat z n (Some o) = IsSeat z n o.seat × (o.end ≡ codes "end")

-- places that must be there: one for the `end` of an open session, one for a line that is ready
abbrev pub owed : {A B : Type 0} → Option A → Option B → ℕ
owed None None = 0
owed None (Some x) = 1
owed (Some y) None = 1
owed (Some y) (Some x) = 2

-- where the newest answer is that of the last receipt, there is one
abbrev pub IsListed : Newest → List Receipt → Type 0
IsListed newest.Nothing list = Unit {0}
IsListed newest.Listed list = 0 < length list
IsListed (newest.Beside answer) list = Unit {0}

-- ---- a desk

-- which host it is of: the table of the seats, the tenants, the cells, and the bound
pub record Place : Type 0 where
  pub table : TableId
  pub tenants : ℕ
  pub cells : ℕ
  pub bound : Bound
  pub first : ℕ

-- the desk has the seat of a session exactly while it is closed
abbrev pub SeatAt : TableId → ℕ → Bool → Option SessionSeat → Type 0
SeatAt z n true (Some s) = ⊥
SeatAt z n true None = Unit {0}
SeatAt z n false (Some s) = IsSeat z n s
SeatAt z n false None = ⊥

-- its seat, among those of a desk
abbrev pub seat_of : ℕ → List (Option SessionSeat) → ℕ → ℕ → Option SessionSeat
seat_of cells seats t s = slice_index_or seats (8 * (t / cells) + s) None

-- the first n seats of a cell, before any of its sessions is open
abbrev pub AreDealt : TableId → ℕ → ℕ → List (Option SessionSeat) → Type 0
AreDealt z cell n seats =
    (length seats ≡ n) × ((i : ℕ) → i < n → SeatAt z (2048 * cell + i) false (slice_index_or seats i None))

-- The cell is the one of this number in this host; the share has one part less for each entry; and the seats are those of the closed sessions.
pub record IsDesk (p : Place) (c : Cell) (parts : ℕ) (seats : List (Option SessionSeat)) : Type 0 where
  pub first : c.first ≡ p.first
  pub stride : c.stride ≡ p.cells
  pub bound : c.bound ≡ p.bound
  pub hosted : (t : ℕ) → hosts c t ≡ ((t % p.cells == p.first) && nat_lt t p.tenants)
  pub whole : parts + entry_count c.tenants ≡ 2 ^ 32
  pub places : (t : ℕ) → IsTrue (hosts c t) → 8 * (t / p.cells) + 8 ≤ length seats
  pub seated : (t s : ℕ) → IsTrue (hosts c t) → s < 8 → SeatAt p.table (number_of p.cells t s) (open_in c t s) (seat_of p.cells seats t s)

-- the desk of this cell of a host, which has cells and no more tenants than it may
abbrev pub IsDeskOf : TableId → ℕ → ℕ → Bound → ℕ → Cell → ℕ → List (Option SessionSeat) → Type 0
IsDeskOf table tenants cells bound first c parts seats =
    (0 < cells) × (tenants ≤ 256)
    × IsDesk (record { table = table; tenants = tenants; cells = cells; bound = bound; first = first }) c parts seats
