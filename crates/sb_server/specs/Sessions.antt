-- Machine: the sessions of a worker's connections.
use Rattle.std.specs.Prelude.{◌+◌, ◌≤◌, ℕ, Bool, false, Option, Some, None, List, length, count_by}
use Rattle.slab.specs.Slab.{Slab}
use Rattle.sb_desk.specs.declared.stub.Stub.{Stub}

abbrev pub has_one : {X : Type 0} → Option X → (X → Bool) → Bool
has_one None has = false
has_one (Some x) has = has x

-- how many connections have one
unfoldable pub session_count : {X : Type 0} → Slab X → (X → Bool) → ℕ
session_count client_connections has = count_by (λ slot. has_one slot has) client_connections.slots

-- none is lost: a connection has it still, or its receipts are left
abbrev pub KeepsSessions : {X : Type 0} → Slab X → Slab X → (X → Bool) → List Stub → List Stub → Type 0
KeepsSessions old new has stubs left = session_count old has + length stubs ≤ session_count new has + length left
