-- Promise: what a refused line changes: the trail, and the locks that its statement had taken.
use Rattle.std.specs.Prelude.{◌≡◌, ◌⊎◌, ℕ, List, Option, Some, None, Result, Ok, option_and_then}
use Rattle.sb_tenant.specs.declared.bound.Bound.{Bound}
use Rattle.sb_value.specs.declared.lock.LockMode.{LockMode}
use Rattle.sb_value.specs.declared.refusal.Refusal.{Refusal}
use Rattle.sb_value.specs.declared.refusal.Refusal.TheVariants.{TooBig, Overflow, TooManyRows}
use Rattle.sb_value.specs.Locks.{first_conflict, with_locks}
use Rattle.sb_syntax.specs.Text.{command_of}
use Rattle.sb_syntax.specs.Tree.{Command}
use Rattle.sb_eval.specs.Statement.{query_locks, statement_locks}
use Rattle.sb_tenant.specs.declared.reply.Reply.TheVariants.{No}
use Rattle.sb_tenant.specs.Resolved.{Resolved, defines, query, change}
use Rattle.sb_tenant.specs.State.{State}
use Rattle.sb_tenant.specs.Step.{step}
use Rattle.sb_tenant.specs.Walk.{class_of, walk}

-- the locks that a query or a statement asks for, once its names and types are resolved
abbrev pub request_of : Result Resolved Refusal → Option (List (ℕ × LockMode))
request_of (Ok (query q)) = Some (query_locks q)
request_of (Ok (change statement)) = Some (statement_locks statement)
request_of other = None

-- the locks that a line asks for
abbrev pub request_in : State → List ℕ → Option (List (ℕ × LockMode))
request_in state line = option_and_then (λ c. request_of (walk state.catalog c)) (command_of line)

-- it comes when the statement has its locks: it would cost too much, overflows, or gives too many rows
abbrev pub ComesBehindLocks : Refusal → Type 0
ComesBehindLocks refusal = (refusal ≡ TooBig) ⊎ ((refusal ≡ Overflow) ⊎ (refusal ≡ TooManyRows))

-- nothing but the number of steps
abbrev pub ChangesNothing : State → State → Type 0
ChangesNothing before after = after ≡ record before { steps = after.steps }

-- nothing but that, and that the session has the locks which its line asked for
abbrev pub TakesLocks : State → ℕ → List ℕ → State → Type 0
TakesLocks before s line after =
    (request : List (ℕ × LockMode)) × (request_in before line ≡ Some request) × (first_conflict before.locks s request ≡ None)
    × (after ≡ record before { locks = with_locks before.locks s request; steps = after.steps })

module _ (tenant : ℕ) (bound : Bound) where
  -- a refused line changes no table, rule or ruleset, and no session; it takes locks where it is refused behind them alone
  abbrev pub RefusalsTakeLocksAtMost : Type 0
  RefusalsTakeLocksAtMost =
      (state : State) (s : ℕ) (line : List ℕ) (refusal : Refusal) → (step tenant bound state s line).1.reply ≡ No refusal →
      ChangesNothing state (step tenant bound state s line).0 ⊎ (ComesBehindLocks refusal × TakesLocks state s line (step tenant bound state s line).0)

  -- a refused command that would define something changes nothing at all
  abbrev pub RefusedDefinitionsChangeNothing : Type 0
  RefusedDefinitionsChangeNothing =
      (state : State) (s : ℕ) (line : List ℕ) (command : Command) (refusal : Refusal) → command_of line ≡ Some command → class_of command ≡ defines →
      (step tenant bound state s line).1.reply ≡ No refusal → ChangesNothing state (step tenant bound state s line).0
