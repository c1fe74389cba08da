-- Promise: what triggers a rule: an insert, a delete, an update of any column or an update of one column.
use Rattle.std.specs.Prelude.{ℕ, Bool, ◌&&◌, nat_lt, List, [], ◌∷◌}
use Rattle.sb_value.specs.Flags.{flag_at}
use Rattle.sb_value.specs.declared.net.Triggers.{Triggers}

pub data Operation : Type 0 where
  insert : Operation
  delete : Operation
  update : Operation
  update_of : ℕ → Operation

-- the places of a table's columns
abbrev pub places : List ℕ
places = 0 ∷ 1 ∷ 2 ∷ 3 ∷ 4 ∷ 5 ∷ 6 ∷ 7 ∷ []

abbrev pub names : Triggers → Operation → Bool
names triggers insert = triggers.inserted
names triggers delete = triggers.deleted
names triggers update = triggers.updated
names triggers (update_of k) = nat_lt k 8 && flag_at triggers.columns k
