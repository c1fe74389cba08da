-- Promise: what each tenant is told of a stream, whatever the others send: what it would be told if it were alone.
use Rattle.std.specs.Prelude.{◌≡◌, ℕ, ◌==◌, if◌then◌else◌, Bool, true, false, List, [], ◌∷◌, ◌++◌, map, filter, filter_map, Option, Some, None, IsTrue, codes}
use Rattle.std.specs.List.{AllByRecursion}
use Rattle.sb_tenant.specs.declared.bound.Bound.{Bound}
use Rattle.sb_tenant.specs.Limits.{is_session}
use Rattle.sb_tenant.specs.State.{State}
use Rattle.sb_tenant.specs.Step.{step}
use Rattle.sb_wire.specs.Lines.{Piece, Addressed, addressed_of}
use Rattle.sb_wire.specs.Output.{address, addressed_in, ended_lines}
use Rattle.sb_wire.specs.ReplyText.{words, reply_lines}

-- ---- a tenant's own lines

-- if it names the tenant
abbrev pub own_of : ℕ → Option Addressed → Option Addressed
own_of t None = None
own_of t (Some a) = if a.tenant == t then Some a else None

-- the lines of an input that name the tenant, in order
abbrev pub own_lines : ℕ → List Piece → List Addressed
own_lines t pieces = filter_map (λ p. own_of t (addressed_in p)) pieces

abbrev pub is_of : ℕ → Option Addressed → Bool
is_of t None = false
is_of t (Some a) = a.tenant == t

-- the lines of an output that begin with the tenant's number and a session's
abbrev pub tenant_lines : ℕ → List (List ℕ) → List (List ℕ)
tenant_lines t lines = filter (λ l. is_of t (addressed_of l)) lines

-- ---- a tenant that is alone

-- lines with the numbers of the tenant and the session in front
abbrev pub with_address : Addressed → List (List ℕ) → List (List ℕ)
with_address a lines = map (λ l. words (address a ∷ l ∷ [])) lines

module _ (bound : Bound) (t : ℕ) where
  -- the lines that answer one of its lines, and its state after it
  abbrev pub reply_alone : State → Addressed → List (List ℕ) × State
  reply_alone state a =
      elim (is_session a.session) [
        | false ↦ (with_address a (codes "no 14 NoSession" ∷ []), state)
        | true ↦ let r = step t bound state a.session a.command in (with_address a (reply_lines r.1.reply), r.0)
      ]

  -- one line after another
  abbrev pub lines_alone : State → List Addressed → List (List ℕ)
  lines_alone state [] = []
  lines_alone state (a ∷ more) = let r = reply_alone state a in r.0 ++ lines_alone r.1 more

  abbrev pub state_alone : State → List Addressed → State
  state_alone state [] = state
  state_alone state (a ∷ more) = state_alone (reply_alone state a).1 more

-- ---- each tenant of a stream

-- no line says that memory ran out for one of the tenant's sessions
abbrev pub MetNoWant : ℕ → List (List ℕ) → Type 0
MetNoWant t lines =
    AllByRecursion (λ l. (a : Addressed) → a.tenant ≡ t
    → (l ≡ words (address a ∷ codes "no 91 NoMemory" ∷ []) → ⊥) × (l ≡ words (address a ∷ codes "no 92 NotBegun" ∷ []) → ⊥)) lines

-- The headline. The text is made of lines. For each tenant that is hosted and met no want of memory, those that begin with its number are
-- the one-tenant engine's replies to its own lines, and its state is the one that the engine then has.
pub record RunsApart (hosts : ℕ → Bool) (bound : Bound) (before : ℕ → State) (pieces : List Piece) (text : List ℕ) (after : ℕ → State) : Type 0 where
  pub lines : List (List ℕ)
  pub whole : text ≡ ended_lines lines
  pub alone : (t : ℕ) → IsTrue (hosts t) → MetNoWant t lines
      → (tenant_lines t lines ≡ lines_alone bound t (before t) (own_lines t pieces))
      × (after t ≡ state_alone bound t (before t) (own_lines t pieces))
