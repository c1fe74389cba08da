-- Promise: what a message asks of a conversation, by where that stands.
use Rattle.std.specs.Prelude.{ℕ, List, Option}
use Rattle.sb_postgres.specs.Messages.{Said, said, Query, Flush, Sync, Terminate, Password}
use Rattle.sb_frontend.specs.declared.demand.Demand.{Demand}
use Rattle.sb_frontend.specs.declared.demand.Demand.TheVariants as code
use Rattle.sb_frontend.specs.declared.phase.Phase.{Phase}
use Rattle.sb_frontend.specs.declared.phase.Phase.TheVariants as phase

-- a demand without where it lies in memory
pub data Demanded : Type 0 where
  End : Demanded
  Enter : (tenant : Option ℕ) (key : List ℕ) → Demanded
  Play : (text : List ℕ) → Demanded
  Synchronize : Demanded
  Nothing : Demanded
  Extend : (m : Said) → Demanded
  Misplaced : Demanded

abbrev pub demanded : Demand → Demanded
demanded code.End = End
demanded (code.Enter tenant key) = Enter tenant key.now
demanded (code.Play text) = Play text.now
demanded code.Synchronize = Synchronize
demanded code.Nothing = Nothing
demanded (code.Extend message) = Extend (said message.now)
demanded code.Misplaced = Misplaced

-- where a key was asked for
abbrev pub asking : Option ℕ → Said → Demanded
asking tenant (Password key) = Enter tenant key
asking tenant Terminate = End
asking tenant m = Misplaced

-- where a session is open
abbrev pub ready : Said → Demanded
ready (Query text) = Play text
ready Sync = Synchronize
ready Flush = Nothing
ready Terminate = End
ready (Password key) = Misplaced
ready m = Extend m

-- behind an error, up to the next Sync
abbrev pub skipping : Said → Demanded
skipping Sync = Synchronize
skipping Terminate = End
skipping m = Nothing

abbrev pub demand_of : Phase → Said → Demanded
demand_of phase.Starting m = Misplaced
demand_of (phase.AskingKey tenant) m = asking tenant m
demand_of phase.Ready m = ready m
demand_of phase.Skipping m = skipping m
demand_of phase.Over m = Nothing
