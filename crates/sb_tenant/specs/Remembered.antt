-- Machine: what a tenant has in memory beside its trail, and what it has at hand for the ends of its sessions.
use Rattle.std.specs.Prelude.{ℕ, ◌+◌, ◌*◌, ◌≤◌, List, length, vec_len, vec_capacity}
use Rattle.sb_tables.specs.Held.{Held}
use Rattle.sb_process.specs.Made.{NumbersBelow}
use Rattle.sb_tenant.specs.declared.tenant.Tenant.TheInside.{Inside}
use Rattle.sb_tenant.specs.Represents.{Holds}
use Rattle.sb_tenant.specs.State.{open_count}
use Rattle.sb_tenant.specs.Tenant.{Tenant, IsLegal, state}

abbrev pub seen : Inside → Tenant
seen t = record { id = t.store.database.id; bound = t.bound; trail = t.trail.items; volume = t.volume; transactions = t.store.database.transactions }

-- a number above each table's next one, after so many steps
abbrev pub number_limit : ℕ → ℕ
number_limit steps = 2 + 32768000 * steps

-- the trail is legal, and memory holds its state; for each open session there is a place in the trail, and a line `end`
pub record IsRemembered (t : Inside) : Type 0 where
  pub legal : IsLegal (seen t)
  pub holds : (origin : List Held) × Holds origin t.store (state (seen t))
  pub bound : t.bound.considerations ≤ 1000
  pub numbers : (n : ℕ) → number_limit (length t.trail.items) ≤ n → NumbersBelow n t.store.database.tables
  pub places : vec_len t.trail + open_count (state (seen t)) ≤ vec_capacity t.trail
  pub ends : open_count (state (seen t)) ≤ t.end_lines
