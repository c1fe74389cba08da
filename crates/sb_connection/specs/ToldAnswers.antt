-- Machine: what a contract sees of what is told of a line.
use Rattle.std.specs.Prelude.{ℕ, List}
use Rattle.sb_connection.specs.declared.watch.Answered.{Answered}

abbrev pub line_of : Answered → List ℕ
line_of a = a.line.now
