-- Machine: what a file of a path shows.
use Rattle.std.specs.Prelude.{Bool}
use Rattle.sqlite_disk.specs.declared.modelled.Modelled.{Modelled}
use Rattle.sqlite_disk.specs.declared.calls.Calls as calls
use Rattle.sqlite_disk.specs.declared.start.Start.{Ghosts}
use Rattle.sqlite_disk.specs.Modelled.{start_of}
use Rattle.sqlite_disk.specs.Events.{replay}
use Rattle.sb_durable.specs.declared.system_file.SystemFile.{SystemFile}

module _ {S : Type 0} {g : calls.Ghosts SystemFile} where
  -- no sync of it has failed
  abbrev pub may_be_used : (start : Ghosts S) → Modelled SystemFile S g start → Bool
  may_be_used start file = (replay (start_of start file) file.calls.noted.events).is_usable
