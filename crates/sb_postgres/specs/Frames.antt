-- Promise: messages one behind the other: a byte, the length of what follows with its own four bytes, and a body.
use Rattle.std.specs.Prelude.{◌≡◌, ℕ, ◌+◌, ◌≤◌, List, ◌∷◌, ◌++◌, length}
use Rattle.sb_postgres.specs.Fields.{word}
use Rattle.sb_postgres.specs.declared.frame.FramedStartup.{FramedStartup}
use Rattle.sb_postgres.specs.declared.frame.FramedStartup.TheVariants as startup
use Rattle.sb_postgres.specs.declared.frame.Framed.{Framed}
use Rattle.sb_postgres.specs.declared.frame.Framed.TheVariants.{Whole, Partial, BadLength}

-- the most bytes of a body
abbrev pub body_limit : ℕ
body_limit = 1_048_576

abbrev pub frame : ℕ → List ℕ → List ℕ
frame kind body = kind ∷ (word (length body + 4) ++ body)

-- some message with a body within the limit begins these bytes
abbrev pub Begins : List ℕ → Type 0
Begins bytes = (kind : ℕ) × (body rest : List ℕ) × (length body ≤ body_limit) × (bytes ≡ frame kind body ++ rest)

-- the first message is there, more bytes are wanted for it, or no more bytes make it one
abbrev pub IsFramed : List ℕ → Framed → Type 0
IsFramed bytes (Whole kind body rest) = (bytes ≡ frame kind body.now ++ rest.now) × (length body.now ≤ body_limit)
IsFramed bytes Partial = Begins bytes → ⊥
IsFramed bytes BadLength = (more : List ℕ) → Begins (bytes ++ more) → ⊥

-- a connection's first packet has no first byte
abbrev pub startup_limit : ℕ
startup_limit = 10_000

abbrev pub packet : List ℕ → List ℕ
packet body = word (length body + 4) ++ body

abbrev pub BeginsPacket : List ℕ → Type 0
BeginsPacket bytes = (body rest : List ℕ) × (length body ≤ startup_limit) × (bytes ≡ packet body ++ rest)

abbrev pub IsFramedStartup : List ℕ → FramedStartup → Type 0
IsFramedStartup bytes (startup.Whole body rest) = (bytes ≡ packet body.now ++ rest.now) × (length body.now ≤ startup_limit)
IsFramedStartup bytes startup.Partial = BeginsPacket bytes → ⊥
IsFramedStartup bytes startup.BadLength = (more : List ℕ) → BeginsPacket (bytes ++ more) → ⊥
