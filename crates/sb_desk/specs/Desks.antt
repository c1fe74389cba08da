-- Promise: what the three calls of a desk do: each is one step of the desk's cell, and the session gets exactly its answer.
use Rattle.std.specs.Prelude.{ℕ, ◌≡◌, Bool, true, false, nat_le, List, codes, Some, ◌⊎◌, Ok, Err}
use Rattle.sb_tenant.specs.declared.reply.Answer.{Answer}
use Rattle.sb_tenant.specs.declared.reply.Reply.TheVariants as told
use Rattle.sb_tenant.specs.Limits.{trail_limit}
use Rattle.sb_tenant.specs.State.{session_at, is_open, has_transaction}
use Rattle.sb_cell.specs.declared.StepError.TheVariants as step
use Rattle.sb_cell.specs.Tenants.{Cell, AnswersEvent, states}
use Rattle.sb_desk.specs.declared.desk.AttachError.{AttachError}
use Rattle.sb_desk.specs.declared.desk.AttachError.TheVariants as refused
use Rattle.sb_desk.specs.declared.desk.CallError.{CallError}
use Rattle.sb_desk.specs.declared.desk.CallError.TheVariants as call
use Rattle.sb_desk.specs.Receipts.{Receipts, after, after_end, newcomer, numbered}

-- the session of a tenant is open
abbrev pub open_in : Cell → ℕ → ℕ → Bool
open_in c t s = is_open (session_at (states c t) s)

-- it has a transaction
abbrev pub in_transaction : Cell → ℕ → ℕ → Bool
in_transaction c t s = has_transaction (session_at (states c t) s)

-- ---- a line

-- exactly one step of the line that is ready, of an open session; whether that has a transaction behind it is told as the cell shows it
abbrev pub Enters : Cell → Receipts → Cell → Receipts → Type 0
Enters c r c' r' =
    (line : List ℕ) × (answer : Answer) × (r.ended ≡ false) × (r.ready ≡ Some line) × (open_in c r.tenant r.session ≡ true)
    × AnswersEvent c r.tenant r.session line (Ok answer) c' × (r' ≡ after r line answer (in_transaction c' r.tenant r.session))

-- a refusal leaves the session as it was: it has ended, and the cell stays, too; or the step wasn't begun
abbrev pub Refuses : Cell → Receipts → CallError → Cell → Receipts → Type 0
Refuses c r call.Ended c' r' = (r.ended ≡ true) × (c' ≡ c) × (r' ≡ r)
Refuses c r call.NotBegun c' r' =
    (line : List ℕ) × (r.ended ≡ false) × (r.ready ≡ Some line) × AnswersEvent c r.tenant r.session line (Err step.NotBegun) c' × (r' ≡ r)

-- ---- the `end`

-- exactly the step `end` of an open session
abbrev pub Leaves : Cell → Receipts → Cell → Receipts → Type 0
Leaves c r c' r' =
    (n : ℕ) × (open_in c r.tenant r.session ≡ true) × AnswersEvent c r.tenant r.session (codes "end") (Ok (numbered n told.Ok)) c' × (r' ≡ after_end r n)

-- ---- the `open`

-- exactly the step `open` of a closed session
abbrev pub Admits : Cell → ℕ → ℕ → Cell → Receipts → Type 0
Admits c t s c' r =
    (n : ℕ) × (open_in c t s ≡ false) × AnswersEvent c t s (codes "open") (Ok (numbered n told.Ok)) c' × (r ≡ newcomer t s n)

-- the step wasn't begun: there was no memory before it, or the cell had none
abbrev pub IsUnbegun : Cell → ℕ → ℕ → Cell → Type 0
IsUnbegun c t s c' = (c' ≡ c) ⊎ AnswersEvent c t s (codes "open") (Err step.NotBegun) c'

-- the refusals, as the cell shows them
abbrev pub RefusesRightly : Cell → ℕ → ℕ → AttachError → Cell → Type 0
RefusesRightly c t s refused.AlreadyOpen c' = (open_in c t s ≡ true) × (c' ≡ c)
RefusesRightly c t s refused.TrailFull c' = (open_in c t s ≡ false) × (nat_le trail_limit (states c t).steps ≡ true) × (c' ≡ c)
RefusesRightly c t s refused.NotBegun c' = (open_in c t s ≡ false) × (nat_le trail_limit (states c t).steps ≡ false) × IsUnbegun c t s c'
RefusesRightly c t s refused.NoTenant c' = ⊥
RefusesRightly c t s refused.NoSession c' = ⊥
