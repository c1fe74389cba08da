-- Machine: a conversation with what is to be sent.
use Rattle.std.specs.Prelude.{ℕ, List}
use Rattle.sb_postgres.specs.Answers.{Answered}
use Rattle.sb_frontend.specs.Conversations.{Part, Standing, at_start}
use Rattle.sb_frontend.specs.Outputs as output
use Rattle.sb_frontend.specs.Outputs.{Outgoing, Sends}

pub record Talking : Type 0 where
  pub at : Standing
  pub out : Outgoing

abbrev pub nothing_yet : Talking
nothing_yet = record { at = at_start; out = output.nothing }

-- a part of the conversation, and its messages are to be sent
abbrev pub Tells : Part → Talking → Talking → Type 0
Tells Is old new = (ms : List Answered) × Is old.at ms new.at × output.Extends ms old.out new.out

-- the bytes of a part are
abbrev pub SendsSome : (Standing → List ℕ → Standing → Type 0) → Talking → Talking → Type 0
SendsSome Is old new = (text : List ℕ) × Is old.at text new.at × Sends text old.out new.out
