-- Machine: what a contract sees of a table, and of a line that was read.
use Rattle.std.specs.Prelude.{[], nat_eq}
use Rattle.std.specs.HashMap.{get}
use Rattle.std.specs.Option.{option_map_or}
use Rattle.sb_keys.specs.Keys.{Table}
use Rattle.sb_keys.specs.Text.{Key}
use Rattle.sb_keys.specs.declared.keys.Keys.{Keys}
use Rattle.sb_keys.specs.declared.line.KeyEntry.{KeyEntry}

abbrev pub table_of : Keys → Table
table_of keys t = option_map_or (λ digests. digests.items) (get nat_eq keys.by_tenant t) []

abbrev pub key_seen : KeyEntry → Key
key_seen named = record { holder = named.holder; digest = named.digest }
