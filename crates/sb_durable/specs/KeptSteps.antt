-- Promise: which steps of a tenant need no record, and what it is made of without them.
use Rattle.std.specs.Prelude.{◌≡◌, ℕ, zero, suc, ◌≤◌, Bool, true, false, not, List, [], ◌∷◌, map, filter, codes, cond, Option, Some, None, IsTrue}
use Rattle.sb_tenant.specs.declared.bound.Bound.{Bound}
use Rattle.sb_value.specs.declared.lock.LockMode.{LockMode}
use Rattle.sb_value.specs.declared.refusal.Refusal.TheVariants.{NoMemory}
use Rattle.sb_syntax.specs.Text.{command_of}
use Rattle.sb_syntax.specs.Tree.{Command, commit}
use Rattle.sb_tenant.specs.declared.reply.Entry.{Entry}
use Rattle.sb_tenant.specs.declared.reply.Reply.{Reply}
use Rattle.sb_tenant.specs.declared.reply.Reply.TheVariants as reply
use Rattle.sb_tenant.specs.State.{State, opening}
use Rattle.sb_tenant.specs.Step.{step}
use Rattle.sb_tenant.specs.Trail.{IsTrail, state_of, state_after}

-- ---- which steps are recorded, and as what

abbrev pub is_commit : Option Command → Bool
is_commit (Some commit) = true
is_commit command = false

-- a select, a refusal, a statement that changed no row, and processing that considered no rule; but a commit ends its transaction
abbrev pub needs_no_record : Option Command → Reply → Bool
needs_no_record command (reply.Rows rows) = true
needs_no_record command (reply.No NoMemory) = false
needs_no_record command (reply.No refusal) = true
needs_no_record command (reply.Count zero) = true
needs_no_record command (reply.Done []) = not (is_commit command)
needs_no_record command other = false

-- the whole transaction was taken back
abbrev pub is_taken_back : Reply → Bool
is_taken_back (reply.ByRule rule trace) = true
is_taken_back (reply.ByError rule error trace) = true
is_taken_back (reply.ByLimit trace) = true
is_taken_back (reply.No NoMemory) = true
is_taken_back other = false

-- then the line that does the same is recorded, so that playing it asks for no lock
abbrev pub kept_line : Entry → List ℕ
kept_line e = cond (is_taken_back e.reply) (codes "rollback") e.line

abbrev pub kept : List Entry → List (ℕ × List ℕ)
kept trail = map (λ e. (e.session, kept_line e)) (filter (λ e. not (needs_no_record (command_of e.line) e.reply)) trail)

-- ---- what they make

-- the same tables, rules, rulesets and sessions, with no more locks and no more steps
pub record HasNoMore (one other : State) : Type 0 where
  pub catalog : one.catalog ≡ other.catalog
  pub sessions : one.sessions ≡ other.sessions
  pub locks : (s t : ℕ) (m : LockMode) → IsTrue (one.locks s t m) → IsTrue (other.locks s t m)
  pub steps : one.steps ≤ other.steps

module _ (tenant : ℕ) (bound : Bound) where
  -- a step that needs no record changes nothing but locks
  abbrev pub NeedlessChangeNothing : Type 0
  NeedlessChangeNothing =
      (state : State) (s : ℕ) (line : List ℕ) → needs_no_record (command_of line) (step tenant bound state s line).1.reply ≡ true → HasNoMore state (step tenant bound state s line).0

  -- a step that took its transaction back is a rollback
  abbrev pub TakenBackIsRollback : Type 0
  TakenBackIsRollback =
      (state : State) (s : ℕ) (line : List ℕ) → is_taken_back (step tenant bound state s line).1.reply ≡ true → (step tenant bound state s line).0 ≡ (step tenant bound state s (codes "rollback")).0

  -- with fewer locks and steps, what changes something is answered alike
  abbrev pub FewerLocksAreAlike : Type 0
  FewerLocksAreAlike =
      (one other : State) (s : ℕ) (line : List ℕ) → HasNoMore one other → needs_no_record (command_of line) (step tenant bound other s line).1.reply ≡ false
      → is_taken_back (step tenant bound other s line).1.reply ≡ false → HasNoMore (step tenant bound one s line).0 (step tenant bound other s line).0

  -- The lines that are kept of a legal trail make the tenant again, but for its number of steps and for locks.
  abbrev pub KeptMakeTheState : Type 0
  KeptMakeTheState = (trail : List Entry) → IsTrail tenant bound trail → HasNoMore (state_after tenant bound opening (kept trail)) (state_of tenant bound trail)
