-- Machine: what is kept before it is sent.
use Rattle.std.specs.Prelude.{◌≡◌, ◌<◌, ℕ, Bool, true, List, Contains, IfSome, Option}
use Rattle.sb_connection.specs.History.{History}

-- where anything is kept, and something binds of what such a connection is to send, its tenant is among those whose answers are kept next
abbrev pub IsNoted : Bool → List ℕ → Option ℕ → History → Type 0
IsNoted is_set answered tenant h = is_set ≡ true → 0 < h.binding → IfSome tenant (Contains answered)
