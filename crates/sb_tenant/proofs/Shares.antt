-- A store with a share of memory: what holds of it with another one.
use Rattle.std.proofs.Common.{ℕ, List}
use Rattle.sb_rawlog.specs.Records.{Record}
use Rattle.sb_tables.specs.Held.{Held}
use Rattle.sb_process.specs.declared.memory_use.MemoryUse.{MemoryUse}
use Rattle.sb_tenant.specs.declared.store.Store.{Store}
use Rattle.sb_tenant.specs.Represents.{Holds, Leaves}
use Rattle.sb_tenant.specs.State.{State}

abbrev pub with_memory : Store → MemoryUse → Store
with_memory store memory = record store { database = record store.database { memory = memory } }

pub holds_limited : (store : Store) (memory : MemoryUse) (state : State) → (origin : List Held) × Holds origin store state → (origin : List Held) × Holds origin (with_memory store memory) state
holds_limited store memory state (origin, h) = (
  origin,
  record {
    committed = h.committed;
    made = h.made;
    locked = h.locked;
    exclusive = h.exclusive;
    locks = h.locks;
    phases = h.phases;
    candidates = h.candidates;
    rules = h.rules;
    ordered = h.ordered;
    rulesets = h.rulesets;
    runnable = h.runnable;
  },
)

pub leaves_limited : (store : Store) (memory : MemoryUse) (n : ℕ) (new : Store) (s : ℕ) (records records' : List Record) (clock clock' : ℕ)
    → Leaves n (with_memory store memory) new s records records' clock clock' → Leaves n store new s records records' clock clock'
leaves_limited store memory n new s records records' clock clock' l = record { id = l.id; others = l.others; times = l.times; numbers = l.numbers }
