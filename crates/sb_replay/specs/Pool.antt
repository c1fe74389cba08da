-- Machine: what a pool does with a job: one call of its session.
use Rattle.std.specs.Prelude.{ℕ, ◌≡◌, List, Result, Ok, Err}
use Rattle.sb_tenant.specs.declared.reply.Answer.{Answer}
use Rattle.sb_desk.specs.declared.desk.CallError.{CallError}
use Rattle.sb_desk.specs.Calls.{Session, Calls}
use Rattle.sb_replay.specs.declared.pool.Job.{Job}
use Rattle.sb_replay.specs.declared.pool.Done.{Done}

-- one call of the session with this line: it got an answer, or was refused
abbrev pub CallsOnce : Session → List ℕ → Result (Unit {0}) CallError → Session → Type 0
CallsOnce old line (Ok _) new = (answer : Answer) × Calls old line (Ok answer) new
CallsOnce old line (Err e) new = Calls old line (Err e) new

-- the job was done: its session, of which this is seen, was called once, with its line
abbrev pub IsDone : {S : Type 0} → (S → Session) → Job S → Done S → Type 0
IsDone seen job done = (done.line ≡ job.line) × CallsOnce (seen job.session) job.line.items done.result (seen done.session)
