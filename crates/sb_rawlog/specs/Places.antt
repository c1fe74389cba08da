-- Machine: how the changes of a log lie in its places.
use Rattle.std.specs.Prelude.{◌≡◌, ℕ, ◌+◌, ◌-◌, ◌/◌, ◌<◌, ◌≤◌, ◌⊎◌, not, ◌==◌, List, [], ◌∷◌, ◌++◌, length, get_or, Option, Some, None}
use Rattle.std.specs.List.{filter}
use Rattle.sb_value.specs.declared.change.Change.{Change}
use Rattle.sb_rawlog.specs.declared.node.Which.TheVariants.{Op, Tuple, Session}
use Rattle.sb_rawlog.specs.declared.node.Node.{Node}
use Rattle.sb_rawlog.specs.declared.node.Back.{Back}
use Rattle.sb_rawlog.specs.Links.{Member, taken_out}
use Rattle.sb_rawlog.specs.Logs.{entry_in, entries, IsLog}
use Rattle.sb_rawlog.specs.Buckets.{bucket, by_which}

-- the node of a change that comes in front of its lists
abbrev pub node_for : List (Option ℕ) → List (Option ℕ) → List (Option ℕ) → ℕ → Back → Change → Node Change
node_for ops tuples sessions time back c = record {
  time = time;
  links = record { op = get_or ops (bucket (length ops) (length tuples) Op c) None; tuple = get_or tuples (bucket (length ops) (length tuples) Tuple c) None; session = get_or sessions (bucket (length ops) (length tuples) Session c) None };
  back = back;
  item = c;
}

-- the place is the last that was given back, or else the next that was never used
abbrev pub Claims : List ℕ → ℕ → List ℕ → ℕ → ℕ → Type 0
Claims free used free' used' place = ((free ≡ free' ++ place ∷ []) × (used' ≡ used)) ⊎ ((free ≡ []) × (free' ≡ []) × (place ≡ used) × (used' ≡ used + 1))

-- the place counts as never used again, where it is the last that was used, or else comes last in the list
abbrev pub GivesBack : List ℕ → ℕ → List ℕ → ℕ → ℕ → Type 0
GivesBack free used free' used' place = ((place + 1 ≡ used) × (free' ≡ free) × (used' ≡ place)) ⊎ ((free' ≡ free ++ place ∷ []) × (used' ≡ used))

-- each place stands once in the list
abbrev pub Apart : List ℕ → Type 0
Apart [] = Unit {0}
Apart (p ∷ ps) = (Member p ps → ⊥) × Apart ps

-- the free places: those in the list, each once, and those that were never used
pub record AreFree (free : List ℕ) (used : ℕ) (cs : List (Option (Node Change))) : Type 0 where
  pub within : used ≤ length cs
  pub given_back : (p : ℕ) → Member p free → (p < used) × (get_or cs p None ≡ None)
  pub apart : Apart free
  pub unused : (p : ℕ) → used ≤ p → get_or cs p None ≡ None

-- the number of free places
abbrev pub room_in : List ℕ → ℕ → List (Option (Node Change)) → ℕ
room_in free used cs = length free + (length cs - used)

-- the places hold the same, however many there are
abbrev pub HoldSame : List (Option (Node Change)) → List (Option (Node Change)) → Type 0
HoldSame cs ds = (p : ℕ) → get_or ds p None ≡ get_or cs p None

-- where all that were used were given back, none counts as used any more; else all stays
abbrev pub Rewinds : List ℕ → ℕ → List ℕ → ℕ → Type 0
Rewinds free used free' used' = ((length free ≡ used) × (free' ≡ []) × (used' ≡ 0)) ⊎ ((free' ≡ free) × (used' ≡ used))

-- the last block can go: there are more places than are always kept, none of the block was used since all were free,
-- at most a quarter of the places are in use, and n more find room without it
pub record CanSpareBlock (places used given_back n : ℕ) : Type 0 where
  pub many : 49152 < places
  pub unused : used + 4096 ≤ places
  pub few : used - given_back ≤ places / 4
  pub spare : n + used + 4096 ≤ given_back + places

-- one block goes where it can, and none where not
abbrev pub Sheds : ℕ → ℕ → ℕ → ℕ → ℕ → Type 0
Sheds places used given_back n left = (CanSpareBlock places used given_back n → left + 4096 ≡ places) × ((CanSpareBlock places used given_back n → ⊥) → left ≡ places)

-- the places and the lists through them hold a log
pub record HoldsLog (cs : List (Option (Node Change))) (ops tuples sessions : List (Option ℕ)) (order : List ℕ) (clock : ℕ) : Type 0 where
  pub buckets : 0 < length ops
  pub of_tuples : 0 < length tuples
  pub of_sessions : length sessions ≡ 2048
  pub log : IsLog (bucket (length ops) (length tuples)) cs (by_which ops tuples sessions) order clock

-- the place's change is taken out, and what the other places hold stays
pub record TakesOut (cs ds : List (Option (Node Change))) (ops tuples sessions : List (Option ℕ)) (order : List ℕ) (clock place : ℕ) (result : Change) : Type 0 where
  pub node : Node Change
  pub here : get_or cs place None ≡ Some node
  pub result_is : result ≡ node.item
  pub holds : HoldsLog ds ops tuples sessions (taken_out place order) clock
  pub left : entries ds (taken_out place order) ≡ filter (λ e. not (e.0 == node.time)) (entries cs order)
  pub others : (q : ℕ) → (q ≡ place → ⊥) → entry_in (get_or ds q None) ≡ entry_in (get_or cs q None)
  pub gone : get_or ds place None ≡ None
  pub long : length ds ≡ length cs
