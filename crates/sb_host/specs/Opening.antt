-- Machine: the parts of a host that has no name yet.
use Rattle.std.specs.Prelude.{ℕ, ◌≡◌, ◌+◌, ◌-◌, ◌*◌, ◌<◌, ◌≤◌, List}
use Rattle.sb_tenant.specs.declared.bound.Bound.{Bound}
use Rattle.atomic_table.specs.Seated.{TableId}
use Rattle.sb_desk.specs.Seats.{SessionSeat, from}
use Rattle.sb_host.specs.declared.opening.HostSize.{HostSize}

-- how many tenants and cells, and the bound of each step; the table of the seats, and the ledger
pub record Opened : Type 0 where
  pub tenants : ℕ
  pub cells : ℕ
  pub bound : Bound
  pub table : TableId
  pub name : ℕ
  pub parts : ℕ

-- these names of a host's type, which are its table of seats, its numbers and its ledger, are of these parts
abbrev pub AreNames : TableId → ℕ → ℕ → Bound → ℕ → ℕ → Opened → Type 0
AreNames table tenants cells bound name parts o =
    (table ≡ o.table) × (tenants ≡ o.tenants) × (cells ≡ o.cells) × (bound ≡ o.bound)
    × (name ≡ o.name) × (parts ≡ o.parts)

-- numbers that a host may have
abbrev pub MayBe : HostSize → Type 0
MayBe n = (0 < n.tenants) × (n.tenants ≤ 256) × (0 < n.cells) × (n.cells ≤ 16) × (n.bound.considerations ≤ 1000)

-- a seat of this table, which has one word and is the one of that name
abbrev pub IsSeatOf : TableId → TableId → SessionSeat → Type 0
IsSeatOf name table seat = (seat.table_id ≡ table) × (table.words ≡ 1) × (table ≡ name)

-- the numbers that are left before cell i is opened: each of 16 cells has 2048
abbrev pub left_at : ℕ → List ℕ
left_at i = from (2048 * i) (32768 - 2048 * i)

-- the numbers that are left of a cell's, once n of its seats were dealt
abbrev pub left_in : ℕ → ℕ → List ℕ
left_in cell n = from (2048 * cell + n) (2048 - n)
