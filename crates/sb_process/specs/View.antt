-- Machine: what a statement sees of the tables in memory.
use Rattle.std.specs.Prelude.{List, []}
use Rattle.sb_value.specs.declared.value.Value.{Value}
use Rattle.sb_check.specs.declared.tree.Source.{Source}
use Rattle.sb_check.specs.declared.tree.Source.TheVariants.{Table, Inserted, Deleted, OldUpdated, NewUpdated}
use Rattle.sb_value.specs.declared.net.Transition.{Transition}
use Rattle.sb_value.specs.declared.id.Who.{Who}
use Rattle.sb_tables.specs.Held.{Held, entries}
use Rattle.sb_eval.specs.Seen.{Seen}

-- the tables with their rows, the transition tables and the session
abbrev pub seen_by : List Held → Transition → Who → Seen
seen_by tables transition who = record { tables = entries tables; transition = transition; who = who }

-- the rows of a transition table
abbrev pub rows_listed : Transition → Source → List (List Value)
rows_listed transition (Table t) = []
rows_listed transition Inserted = transition.inserted
rows_listed transition Deleted = transition.deleted
rows_listed transition OldUpdated = transition.old_updated
rows_listed transition NewUpdated = transition.new_updated
