-- Machine: what the fields of a host's parts are seen as, and what holds of them.
use Rattle.std.specs.Prelude.{◌≡◌, ◌*◌, ◌<◌, ◌≤◌, ◌^◌, []}
use Rattle.sb_desk.specs.Seats.{below}
use Rattle.sb_host.specs.declared.opening.Opened.TheInside.{Inside}
use Rattle.sb_host.specs.Opening.{Opened}

abbrev pub seen : Inside → Opened
seen o = record {
  tenants = o.numbers.tenants;
  cells = o.numbers.cells;
  bound = o.numbers.bound;
  table = o.seats.shared.table_id;
  name = o.blank.name;
  parts = o.blank.parts;
}

-- numbers that a host may have; all parts of the ledger; and the seat of all numbers, at a table of one word
abbrev pub AreParts : Inside → Type 0
AreParts o =
    (0 < o.numbers.tenants) × (o.numbers.tenants ≤ 256) × (0 < o.numbers.cells) × (o.numbers.cells ≤ 16)
    × (o.numbers.bound.considerations ≤ 1000) × (o.blank.parts ≡ 17 * 2 ^ 32)
    × (o.all.table_id ≡ o.seats.shared.table_id) × (o.seats.shared.table_id.words ≡ 1) × (o.all.me ≡ (below 32768, []))
