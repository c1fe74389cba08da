-- Machine: what a walk along a list of a log in places finds.
use Rattle.std.specs.Prelude.{◌≡◌, ℕ, Bool, true, ◌&&◌, nat_le, List, [], ◌∷◌, get_or, Option, Some, None, MatchOption}
use Rattle.std.specs.List.{filter}
use Rattle.sb_value.specs.declared.change.Change.{Change}
use Rattle.sb_rawlog.specs.declared.node.Node.{Node}
use Rattle.sb_rawlog.specs.Logs.{entries}
use Rattle.sb_rawlog.specs.declared.key.Key.{Key}
use Rattle.sb_rawlog.specs.declared.node.Which.{Which}
use Rattle.sb_rawlog.specs.Buckets.{list_of}
use Rattle.sb_rawlog.specs.Keys.{fits}
use Rattle.sb_rawlog.specs.KeySteps.{spot_of}
use Rattle.sb_rawlog.specs.Links.{IsChain}
use Rattle.sb_rawlog.specs.Records.{Record}
use Rattle.sb_rawlog.specs.declared.spot.Spot.{Spot}

abbrev pub selects : (Change → Bool) → ℕ → Record → Bool
selects p since r = nat_le since r.0 && p r.1

abbrev pub spot_for : ℕ → ℕ → Node Change → Spot
spot_for place since n = spot_of place since (n.time, n.item)

-- the spot's change comes first of those of the places that are selected
pub record Hit (p : Change → Bool) (since : ℕ) (cs : List (Option (Node Change))) (ps : List ℕ) (s : Spot) : Type 0 where
  pub node : Node Change
  pub here : get_or cs s.place None ≡ Some node
  pub is : s ≡ spot_for s.place since node
  pub fits : p node.item ≡ true
  pub rest : List Record
  pub first : filter (selects p since) (entries cs ps) ≡ (node.time, node.item) ∷ rest

-- a list begins at the head
abbrev pub BeginsList : Which → List (Option (Node Change)) → Option ℕ → Type 0
BeginsList list cs head = (top : ℕ) × ((ps : List ℕ) × IsChain list cs top head ps)

-- the spot is that of the first change from the head on that fits the key and is no older than since
abbrev pub FindsFirst : Key → ℕ → List (Option (Node Change)) → Option ℕ → Option Spot → Type 0
FindsFirst key since cs head found =
    (top : ℕ) (ps : List ℕ) → IsChain (list_of key) cs top head ps → MatchOption found (filter (selects (fits key) since) (entries cs ps) ≡ []) (Hit (fits key) since cs ps)
