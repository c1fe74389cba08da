-- Machine: where the lists of a log in places begin, as the code keeps it.
use Rattle.std.specs.Prelude.{ℕ, List, length, get_or, slice_set, Option, Some, None}
use Rattle.sb_value.specs.declared.change.Change.{Change}
use Rattle.sb_rawlog.specs.declared.heads.Heads.{Heads}
use Rattle.sb_rawlog.specs.declared.key.Key.{Key}
use Rattle.sb_rawlog.specs.declared.node.Back.{Back}
use Rattle.sb_rawlog.specs.declared.node.Node.{Node}
use Rattle.sb_rawlog.specs.declared.node.Which.{Which}
use Rattle.sb_rawlog.specs.Buckets.{bucket, by_which, key_bucket, list_of}
use Rattle.sb_rawlog.specs.Links.{Member}
use Rattle.sb_rawlog.specs.Places.{node_for, HoldsLog, TakesOut}

-- the heads of one kind of list, by bucket
abbrev pub heads_of : Heads → Which → List (Option ℕ)
heads_of h = by_which h.ops.items h.tuples.items h.sessions.items

-- where the list of the key's bucket begins
abbrev pub first_of : Heads → Key → Option ℕ
first_of h key = get_or (heads_of h (list_of key)) (key_bucket (length h.ops.items) (length h.tuples.items) key) None

-- the heads of one kind of list, once the place comes first in the list of the change's bucket
abbrev pub put_first : Heads → Which → Change → ℕ → List (Option ℕ)
put_first h w c place = slice_set (heads_of h w) (bucket (length h.ops.items) (length h.tuples.items) w c) (Some place)

-- the node of a change that comes in front of its lists
abbrev pub node_before : Heads → ℕ → Back → Change → Node Change
node_before h time back c = node_for h.ops.items h.tuples.items h.sessions.items time back c

-- the places and the lists through them hold a log, with so many places in use, newest first
abbrev pub Hold : List (Option (Node Change)) → Heads → List ℕ → ℕ → Type 0
Hold cs h order clock = HoldsLog cs h.ops.items h.tuples.items h.sessions.items order clock

abbrev pub HoldSome : List (Option (Node Change)) → Heads → Type 0
HoldSome cs h = (order : List ℕ) × ((clock : ℕ) × Hold cs h order clock)

-- the place is one of those of a log
abbrev pub IsInLog : List (Option (Node Change)) → Heads → ℕ → Type 0
IsInLog cs h place = (order : List ℕ) × ((clock : ℕ) × (Hold cs h order clock × Member place order))

-- the place's change is taken out, of whichever log the place is in
abbrev pub Leaves : List (Option (Node Change)) → List (Option (Node Change)) → Heads → Heads → ℕ → Change → Type 0
Leaves cs ds h k place result = (order : List ℕ) (clock : ℕ) → Hold cs h order clock → Member place order
    → TakesOut cs ds k.ops.items k.tuples.items k.sessions.items order clock place result
