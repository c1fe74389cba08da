-- Machine: lines that are sent to a cell's one tenant.
use Rattle.std.specs.Prelude.{◌≡◌, ℕ, Bool, true, false, ◌==◌, List, Result, Ok, Err, IsTrue}
use Rattle.sb_tenant.specs.declared.bound.Bound.{Bound}
use Rattle.sb_tenant.specs.declared.reply.Answer.{Answer}
use Rattle.sb_tenant.specs.declared.reply.Reply.{Reply}
use Rattle.sb_tenant.specs.declared.reply.Reply.TheVariants as told
use Rattle.sb_tenant.specs.Trail.{state_after}
use Rattle.sb_cell.specs.declared.StepError.{StepError}
use Rattle.sb_cell.specs.Tenants.{Cell, IsSame, hosts, states}
use Rattle.sb_dump.specs.Dumps.{as_session}

-- the cell has the tenant of that number alone, with that bound
abbrev pub HostsOnly : ℕ → Bound → Cell → Type 0
HostsOnly id bound cell = ((t : ℕ) → hosts cell t ≡ (t == id)) × (cell.bound ≡ bound)

-- whether a reply says that the line was done
abbrev pub is_done : Reply → Bool
is_done told.Ok = true
is_done (told.Count n) = true
is_done (told.Done trace) = true
is_done reply = false

-- a line was answered, and was done
abbrev pub IsDone : Result Answer StepError → Type 0
IsDone (Ok answer) = IsTrue (is_done answer.reply)
IsDone (Err e) = ⊥

-- the lines were sent to the tenant in session 0, and each was a step
abbrev pub AreSent : ℕ → List (List ℕ) → Cell → Cell → Type 0
AreSent id lines old new = (states new id ≡ state_after id old.bound (states old id) (as_session 0 lines)) × IsSame old new
