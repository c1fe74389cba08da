-- Machine: how many parentheses are open inside of those around actions.
use Rattle.std.specs.Prelude.{ℕ}
use Rattle.sb_postgres.specs.declared.query.actions.Scope.{Scope}
use Rattle.sb_postgres.specs.declared.query.actions.Scope.TheVariants.{Outside, BehindThen, InActions}

abbrev pub depth_of : Scope → ℕ
depth_of Outside = 0
depth_of BehindThen = 0
depth_of (InActions depth) = depth
