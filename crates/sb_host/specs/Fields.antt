-- Machine: what holds of the fields of a host.
use Rattle.std.specs.Prelude.{ℕ, ◌≡◌, ◌<◌, ◌≤◌}
use Rattle.atomic_table.specs.Seated.{TableId}
use Rattle.sb_host.specs.declared.host.Host.TheInside.{Inside}

module _ {N : Type 0} where
  -- its numbers and its table of seats, which has one word, are those of these names
  abbrev pub IsHost : TableId → ℕ → ℕ → Inside N → Type 0
  IsHost table tenants cells h =
      (h.tenants ≡ tenants) × (h.tenants ≤ 256) × (h.cells ≡ cells) × (0 < h.cells) × (h.cells ≤ 16)
      × (h.seats.shared.table_id ≡ table) × (table.words ≡ 1)
