-- Machine: how a session's transaction ends.
use Rattle.std.specs.Prelude.{ℕ, List}
use Rattle.sb_tables.specs.Held.{Held}
use Rattle.sb_rawlog.specs.Records.{Record}
use Rattle.sb_process.specs.declared.database.Database.{Database}
use Rattle.sb_process.specs.Represents.{IsKept, IsTakenBack}
use Rattle.sb_process.specs.Setting.{Setting, Progress}
use Rattle.sb_tenant.specs.declared.processing.Finish.{Finish}
use Rattle.sb_tenant.specs.declared.processing.Finish.TheVariants.{GoOn, Commit}
use Rattle.sb_tenant.specs.declared.store.Ending.{Ending}
use Rattle.sb_tenant.specs.declared.store.Ending.TheVariants.{Keep, TakeBack}
use Rattle.sb_tenant.specs.State.{State, committed, rolled_back}

-- the state behind it
abbrev pub concluded : Ending → State → ℕ → State
concluded Keep state s = committed state s
concluded TakeBack state s = rolled_back state s

-- what it leaves in the database
abbrev pub IsConcluded : Ending → List Held → Database → Database → ℕ → List Record → Setting → Progress → Type 0
IsConcluded Keep origin old new session records setting progress = IsKept old new session records setting progress
IsConcluded TakeBack origin old new session records setting progress = IsTakenBack origin old new session records setting progress

-- ---- where no rule is left

-- the transaction goes on, or it is kept
abbrev pub finished : Finish → ℕ → State → State
finished GoOn s state = state
finished Commit s state = committed state s
