-- Machine: a net effect with borrowed rows, as a contract sees it.
use Rattle.sb_value.specs.declared.net.Net.{Net}
use Rattle.sb_value.specs.declared.net.Net.TheVariants as net
use Rattle.sb_net.specs.declared.effect.NetOf.{NetOf}
use Rattle.sb_net.specs.declared.effect.NetOf.TheVariants.{Inserted, Deleted, Updated}

abbrev pub seen : NetOf → Net
seen (Inserted new) = net.Inserted new.now
seen (Deleted old) = net.Deleted old.now
seen (Updated old new columns) = net.Updated old.now new.now columns
