-- Machine: the newest change of a tuple.
use Rattle.std.specs.Prelude.{ℕ, Bool, false, ◌==◌, List, [], ◌∷◌}
use Rattle.sb_rawlog.specs.Changes.{is_tuple}
use Rattle.sb_rawlog.specs.Records.{Record, walk}
use Rattle.sb_net.specs.declared.scope.ChangeScope.{ChangeScope}

-- the first of the records is of the time
abbrev pub begins_at : ℕ → List Record → Bool
begins_at time [] = false
begins_at time (r ∷ rs) = r.0 == time

-- of the tuple's changes in the scope the newest is of the time
abbrev pub is_newest : ChangeScope → List Record → ℕ → ℕ → Bool
is_newest s rs tuple time = begins_at time (walk (is_tuple s.who s.table tuple) s.since rs)
