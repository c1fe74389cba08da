-- Machine: what is told of connections.
use Rattle.sb_wire.specs.Lines.{Piece, line, too_long}
use Rattle.std.specs.Prelude.{ℕ, Bool, true, false, List, [], codes}
use Rattle.sb_connection.specs.declared.watch.ConnectionEvent.{ConnectionEvent}
use Rattle.sb_connection.specs.declared.watch.ConnectionEvent.TheVariants.{Came, Attached, Closed, Left}

-- something went wrong, unless a client or a session comes or goes
abbrev pub is_warning : ConnectionEvent → Bool
is_warning Came = false
is_warning (Attached named) = false
is_warning (Closed named steps left) = false
is_warning Left = false
is_warning other = true

-- The line that is told. The first one of a connection may bring a key: it is told as `open`.
abbrev pub told_line : Bool → Piece → List ℕ
told_line true first = codes "open"
told_line false too_long = []
told_line false (line bytes) = bytes
