-- Machine: the changes that a scope names.
use Rattle.std.specs.Prelude.{List}
use Rattle.sb_value.specs.declared.change.Change.{Change}
use Rattle.sb_value.specs.declared.change.ChangeKind.{ChangeKind}
use Rattle.sb_rawlog.specs.Changes.{is_op}
use Rattle.sb_rawlog.specs.Records.{Record, walk}
use Rattle.sb_rawlog.specs.Sessions.{changes_since}
use Rattle.sb_net.specs.declared.scope.ChangeScope.{ChangeScope}

-- the session's changes since then, of whatever table: a net effect picks its table's
abbrev pub changes_in : ChangeScope → List Record → List Change
changes_in s rs = changes_since s.who s.since rs

-- those of the scope's table and a kind, newest first
abbrev pub walk_in : ChangeScope → ChangeKind → List Record → List Record
walk_in s kind rs = walk (is_op s.who s.table kind) s.since rs
