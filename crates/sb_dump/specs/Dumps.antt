-- Promise: a dump of a tenant: lines of one session that make an alike tenant of a fresh one.
use Rattle.std.specs.Prelude.{◌≤◌, ℕ, List, [], ◌∷◌, ◌++◌, All, map, length, codes}
use Rattle.std.specs.List.{AllPass}
use Rattle.sb_tenant.specs.declared.bound.Bound.{Bound}
use Rattle.sb_value.specs.Printable.{is_printable}
use Rattle.sb_syntax.specs.Text.{text_limit}
use Rattle.sb_tenant.specs.Alike.{AreAlikeAtRest}
use Rattle.sb_tenant.specs.State.{State, opening}
use Rattle.sb_tenant.specs.Tenant.{Tenant, state}
use Rattle.sb_tenant.specs.Trail.{state_after}
pub use Rattle.sb_tenant.specs.AlikeTenants.{is_busy}

-- each of the lines, sent in the session
abbrev pub as_session : ℕ → List (List ℕ) → List (ℕ × List ℕ)
as_session s lines = map (λ line. (s, line)) lines

-- the session is opened before the lines, and ended behind them
abbrev pub whole_session : List (List ℕ) → List (List ℕ)
whole_session lines = codes "open" ∷ lines ++ codes "end" ∷ []

-- what a fresh tenant of that number and bound is once it was sent the lines in session 0
abbrev pub played : ℕ → Bound → List (List ℕ) → State
played id bound lines = state_after id bound opening (as_session 0 (whole_session lines))

-- a line that a session may send: it is no longer than a command, and printable
abbrev pub IsSendable : List ℕ → Type 0
IsSendable line = (length line ≤ text_limit) × AllPass is_printable line

-- the lines can be sent, and a fresh tenant of the same number, with that bound, is made alike by them
pub record Dumps (bound : Bound) (tenant : Tenant) (lines : List (List ℕ)) : Type 0 where
  pub sendable : All IsSendable lines
  pub alike : AreAlikeAtRest (played tenant.id bound lines) (state tenant)
