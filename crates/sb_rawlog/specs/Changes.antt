-- Promise: whose change it is, and of what.
use Rattle.std.specs.Prelude.{ℕ, Bool, true, false, ◌&&◌, ◌==◌}
use Rattle.sb_value.specs.NetEffect.{is_of}
use Rattle.sb_value.specs.declared.id.Who.{Who}
use Rattle.sb_value.specs.declared.change.ChangeKind.{ChangeKind}
use Rattle.sb_value.specs.declared.change.ChangeKind.TheVariants.{Inserted, Deleted, Updated}
use Rattle.sb_value.specs.declared.change.Change.{Change}

-- the session whose change it is
abbrev pub author : Change → Who
author c = record { tenant = c.tenant; session = c.session }

-- the change is by the session
abbrev pub is_by : Who → Change → Bool
is_by who c = (c.tenant == who.tenant) && (c.session == who.session)

abbrev pub same_kind : ChangeKind → ChangeKind → Bool
same_kind Inserted Inserted = true
same_kind Inserted Deleted = false
same_kind Inserted Updated = false
same_kind Deleted Inserted = false
same_kind Deleted Deleted = true
same_kind Deleted Updated = false
same_kind Updated Inserted = false
same_kind Updated Deleted = false
same_kind Updated Updated = true

-- the change is by the session, of the table and of the kind
abbrev pub is_op : Who → ℕ → ChangeKind → Change → Bool
is_op who table kind c = is_by who c && ((c.table == table) && same_kind c.kind kind)

-- the change is by the session, of the table's tuple
abbrev pub is_tuple : Who → ℕ → ℕ → Change → Bool
is_tuple who table tuple c = is_by who c && is_of table tuple c
