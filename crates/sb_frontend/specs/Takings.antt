-- Machine: what became of a message's bytes.
use Rattle.std.specs.Prelude.{◌≡◌, ℕ, true, List}
use Rattle.sb_postgres.specs.Messages.{Said, IsSaid}
use Rattle.sb_postgres.specs.Messages as messages
use Rattle.sb_postgres.specs.Startup.{Started, IsStarted}
use Rattle.sb_postgres.specs.Startup as startup
use Rattle.sb_frontend.specs.declared.taken.Taken.{Taken}
use Rattle.sb_frontend.specs.declared.taken.Taken.TheVariants.{Answered, Unreadable, NoMemory}
use Rattle.sb_frontend.specs.Conversations.{AnswersMessage, AnswersPacket}
use Rattle.sb_frontend.specs.Dialogues.{IsNoMessage, IsNoPacket}
use Rattle.sb_frontend.specs.Starts.{Source}
use Rattle.sb_frontend.specs.Talking.{SendsSome, Talking, Tells}

abbrev pub without_memory : Talking → Talking
without_memory k = record k { out = record k.out { failed = true } }

-- a packet with this body was answered, or there is none, or memory ran out before
abbrev pub TakesPacket : Source → List ℕ → Talking → Taken → Talking → Type 0
TakesPacket source body old Answered new = (p : Started) × IsStarted p × (startup.body_of p ≡ body) × SendsSome (AnswersPacket source p) old new
TakesPacket source body old Unreadable new = IsNoPacket body × (new ≡ old)
TakesPacket source body old NoMemory new = new ≡ without_memory old

-- so was a message
abbrev pub TakesMessage : Source → ℕ → List ℕ → Talking → Taken → Talking → Type 0
TakesMessage source kind body old Answered new =
    (m : Said) × IsSaid m × (messages.kind_of m ≡ kind) × (messages.body_of m ≡ body) × Tells (AnswersMessage source m) old new
TakesMessage source kind body old Unreadable new = IsNoMessage kind body × (new ≡ old)
TakesMessage source kind body old NoMemory new = new ≡ without_memory old
