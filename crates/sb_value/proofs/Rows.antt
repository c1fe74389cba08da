-- Net effects of small lists, by computation.
use Rattle.std.specs.Prelude.{◌≡◌, ℕ, true, false, List, [], ◌∷◌, Some, None, refl, pos}
use Rattle.sb_value.specs.declared.value.Value.{Value}
use Rattle.sb_value.specs.declared.value.Value.TheVariants.{Int, Text}
use Rattle.sb_value.specs.declared.change.Change.{Change}
use Rattle.sb_value.specs.declared.change.ChangeKind.TheVariants as kind
use Rattle.sb_value.specs.declared.net.Net.TheVariants as net
use Rattle.sb_value.specs.declared.net.Triggers.{Triggers}
use Rattle.sb_value.specs.Columns.{set_of}
use Rattle.sb_value.specs.NetEffect.{net_effect, is_triggered, transition_tables, tuples_of}
use Rattle.sb_value.specs.Order.{precedes, chosen}

abbrev row : ℕ → List Value
row n = Int (pos n) ∷ []

abbrev inserted : ℕ → ℕ → Change
inserted x n = record { tenant = 0; session = 0; table = 0; tuple = x; kind = kind.Inserted; old = None; new = Some (row n); columns = set_of [] }

abbrev deleted : ℕ → ℕ → Change
deleted x n = record { tenant = 0; session = 0; table = 0; tuple = x; kind = kind.Deleted; old = Some (row n); new = None; columns = set_of [] }

abbrev updated_row : ℕ → List Value → List Value → List ℕ → Change
updated_row x old new places = record { tenant = 0; session = 0; table = 0; tuple = x; kind = kind.Updated; old = Some old; new = Some new; columns = set_of places }

abbrev updated : ℕ → ℕ → ℕ → List ℕ → Change
updated x n m places = updated_row x (row n) (row m) places

pub none : net_effect (inserted 2 1 ∷ []) 0 1 ≡ None
none = refl

pub insert_delete : net_effect (inserted 1 5 ∷ updated 1 5 6 (0 ∷ []) ∷ deleted 1 6 ∷ []) 0 1 ≡ None
insert_delete = refl

pub insert_update : net_effect (inserted 1 5 ∷ updated 1 5 6 (0 ∷ []) ∷ []) 0 1 ≡ Some (net.Inserted (row 6))
insert_update = refl

pub update_delete : net_effect (updated 1 5 6 (0 ∷ []) ∷ deleted 1 6 ∷ []) 0 1 ≡ Some (net.Deleted (row 5))
update_delete = refl

pub delete_alone : net_effect (deleted 1 6 ∷ []) 0 1 ≡ Some (net.Deleted (row 6))
delete_alone = refl

pub updates_delete : net_effect (updated 1 5 6 (0 ∷ []) ∷ updated 1 6 7 (0 ∷ []) ∷ deleted 1 7 ∷ []) 0 1 ≡ Some (net.Deleted (row 5))
updates_delete = refl

pub update_update : net_effect (updated 1 5 6 (0 ∷ []) ∷ updated 2 1 1 (3 ∷ []) ∷ updated 1 6 7 (2 ∷ []) ∷ []) 0 1 ≡ Some (net.Updated (row 5) (row 7) (set_of (0 ∷ [])))
update_update = refl

pub there_and_back : net_effect (updated 1 5 6 (0 ∷ []) ∷ updated 1 6 5 (0 ∷ []) ∷ []) 0 1 ≡ None
there_and_back = refl

-- of two columns that change, one has its old value again
pub one_back : net_effect (updated_row 1 (Int (pos 1) ∷ Int (pos 2) ∷ []) (Int (pos 5) ∷ Int (pos 6) ∷ []) (0 ∷ 1 ∷ []) ∷ updated_row 1 (Int (pos 5) ∷ Int (pos 6) ∷ []) (Int (pos 1) ∷ Int (pos 6) ∷ []) (0 ∷ []) ∷ []) 0 1
    ≡ Some (net.Updated (Int (pos 1) ∷ Int (pos 2) ∷ []) (Int (pos 1) ∷ Int (pos 6) ∷ []) (set_of (1 ∷ [])))
one_back = refl

pub equal_text : net_effect (updated_row 1 (Text (120 ∷ 39 ∷ []) ∷ []) (Text (120 ∷ 39 ∷ []) ∷ []) (0 ∷ []) ∷ []) 0 1 ≡ None
equal_text = refl

pub insert_back : net_effect (inserted 1 5 ∷ updated 1 5 6 (0 ∷ []) ∷ updated 1 6 5 (0 ∷ []) ∷ []) 0 1 ≡ Some (net.Inserted (row 5))
insert_back = refl

pub rising : tuples_of (updated 7 1 2 [] ∷ inserted 9 1 ∷ updated 3 1 2 [] ∷ updated 7 2 3 [] ∷ []) 0 ≡ 3 ∷ 7 ∷ 9 ∷ []
rising = refl

abbrev on_column_0 : Triggers
on_column_0 = record { inserted = false; deleted = false; updated = false; columns = set_of (0 ∷ []) }

pub other_column : is_triggered on_column_0 0 (updated_row 1 (Int (pos 1) ∷ Int (pos 2) ∷ []) (Int (pos 1) ∷ Int (pos 3) ∷ []) (0 ∷ 1 ∷ []) ∷ updated 2 2 2 (0 ∷ []) ∷ []) ≡ false
other_column = refl

pub listed_column : (transition_tables on_column_0 0 (updated 1 1 4 (0 ∷ []) ∷ updated 2 2 2 (0 ∷ []) ∷ [])).old_updated ≡ row 1 ∷ []
listed_column = refl

-- a pair leads from 1 to 3 and one from 3 to 0: so 1 precedes 0, though 3 is not in the set
pub through_another : chosen ((2, 0) ∷ (3, 0) ∷ (1, 3) ∷ []) (0 ∷ 1 ∷ []) ≡ Some 1
through_another = refl

pub earliest : chosen ((2, 0) ∷ []) (0 ∷ 1 ∷ 2 ∷ []) ≡ Some 1
earliest = refl

pub cycle : precedes ((1, 0) ∷ (2, 1) ∷ (0, 2) ∷ []) 0 0 ≡ true
cycle = refl
