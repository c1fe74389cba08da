-- Machine: what a piece of a session's work needs, and what it leaves of the rest of its tenant.
use Rattle.std.specs.Prelude.{◌≡◌, ℕ, ◌+◌, ◌<◌, ◌^◌, List}
use Rattle.sb_tables.specs.Held.{Held}
use Rattle.sb_rawlog.specs.Records.{Record}
use Rattle.sb_rawlog.specs.Sessions.{OthersStay}
use Rattle.sb_process.specs.declared.database.Database.{Database}
use Rattle.sb_process.specs.Made.{NumbersBelow}
use Rattle.sb_process.specs.Represents.{who_in}
use Rattle.sb_process.specs.Statement.{RisesBy}
use Rattle.sb_process.specs.Transactions.{OtherSessionsStay}

-- the clock and the numbers of the tables can rise by n
pub record HasRoom (n clock : ℕ) (tables : List Held) : Type 0 where
  pub times : clock + n < 2 ^ 64
  pub numbers : (m : ℕ) × (m + n < 2 ^ 64) × NumbersBelow m tables

-- the tenant and its other sessions are as before, and the clock and the numbers of the tables rise by n at most
pub record Leaves (n : ℕ) (old new : Database) (session : ℕ) (before after : List Record) (clock later : ℕ) : Type 0 where
  pub id : new.id ≡ old.id
  pub sessions : OtherSessionsStay old.transactions new.transactions session
  pub others : OthersStay (who_in old session) before after
  pub times : RisesBy n clock later
  pub numbers : (m : ℕ) → NumbersBelow m old.tables → NumbersBelow (m + n) new.tables
