-- Promise: what an input asks of a host: each of its lines is a command for one of the host's sessions.
use Rattle.std.specs.Prelude.{◌≡◌, ◌⊎◌, ◌<◌, ◌≤◌, ℕ, ◌+◌, ◌*◌, ◌==◌, ◌&&◌, nat_lt, if◌then◌else◌, List, [], ◌∷◌, ◌++◌, length, map, flat_map, Option, Some, None}
use Rattle.sb_tenant.specs.Limits.{is_session, session_count}
use Rattle.sb_wire.specs.Lines.{Addressed, Piece, line, too_long, addressed_of, pieces_of}
use Rattle.sb_wire.specs.declared.refusal.WireRefusal.{WireRefusal}
use Rattle.sb_wire.specs.declared.refusal.WireRefusal.TheVariants as wire

-- the numbers and the command, where a host of so many tenants has the session
abbrev pub asked_by : ℕ → Option Addressed → Option Addressed
asked_by tenants None = None
asked_by tenants (Some a) = if nat_lt a.tenant tenants && is_session a.session then Some a else None

abbrev pub asked : ℕ → Piece → Option Addressed
asked tenants too_long = None
asked tenants (line bytes) = asked_by tenants (addressed_of bytes)

-- each line asks for one of these
abbrev pub Asks : ℕ → List Piece → List Addressed → Type 0
Asks tenants pieces asks = map (asked tenants) pieces ≡ map Some asks

-- the lines of an input do
abbrev pub IsAsked : ℕ → List ℕ → List Addressed → Type 0
IsAsked tenants input asks = Asks tenants (pieces_of input) asks

-- why a line asks for nothing: it has no numbers, or the host has no such tenant, or the tenant no such session
abbrev pub IsBadBy : ℕ → Option Addressed → WireRefusal → Type 0
IsBadBy tenants None why = why ≡ wire.BadLine
IsBadBy tenants (Some a) why =
    ((tenants ≤ a.tenant) × (why ≡ wire.NoTenant)) ⊎ ((a.tenant < tenants) × (session_count ≤ a.session) × (why ≡ wire.NoSession))

-- or it is too long
abbrev pub IsBadAs : ℕ → Piece → WireRefusal → Type 0
IsBadAs tenants too_long why = why ≡ wire.TooLong
IsBadAs tenants (line bytes) why = IsBadBy tenants (addressed_of bytes) why

-- of these lines that of the number n, counted from 1, is the first that asks for nothing, and why
pub record IsFirstBad (tenants : ℕ) (pieces : List Piece) (n : ℕ) (why : WireRefusal) : Type 0 where
  pub good : List Piece
  pub asks : List Addressed
  pub are_good : Asks tenants good asks
  pub bad : Piece
  pub is_bad : asked tenants bad ≡ None
  pub reason : IsBadAs tenants bad why
  pub behind : List Piece
  pub are : pieces ≡ good ++ bad ∷ behind
  pub number : n ≡ length good + 1

abbrev pub IsBadLine : ℕ → List ℕ → ℕ → WireRefusal → Type 0
IsBadLine tenants input n why = IsFirstBad tenants (pieces_of input) n why

-- ---- by session

abbrev pub command_for : ℕ → ℕ → Addressed → List (List ℕ)
command_for t s a = if (a.tenant == t) && (a.session == s) then a.command ∷ [] else []

-- the commands for session s of tenant t, in their order
abbrev pub commands_for : ℕ → ℕ → List Addressed → List (List ℕ)
commands_for t s asks = flat_map (command_for t s) asks

-- the place of session s of tenant t among all sessions of a host
abbrev pub rank : ℕ → ℕ → ℕ
rank t s = session_count * t + s
