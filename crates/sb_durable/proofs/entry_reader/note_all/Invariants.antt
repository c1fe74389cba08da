use Rattle.std.proofs.Common.{◌≡◌, map, take}
use Rattle.sb_durable.specs.EntryReaders.{note_of}
use Rattle.sb_durable.proofs.entry_reader.note_all.Given as goal

abbrev pub invariant-loop-entry : goal.invariant-loop-entry
invariant-loop-entry l = l.list.items ≡ map note_of (take l.entry-index l.entries)
