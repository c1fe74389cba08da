-- Machine: which changes make a rule a candidate for processing.
use Rattle.std.specs.Prelude.{ℕ, Bool, ◌&&◌, ◌==◌}
use Rattle.sb_value.specs.Laws.{kind_triggers}
use Rattle.sb_value.specs.declared.change.Change.{Change}
use Rattle.sb_value.specs.declared.net.Triggers.{Triggers}

-- the change is of the rule's table and of one of its operations
abbrev pub makes_candidate : ℕ → Triggers → Change → Bool
makes_candidate table triggers c = (c.table == table) && kind_triggers c.kind triggers c
