-- Machine: chains of places, from the newest to the oldest.
use Rattle.std.specs.Prelude.{◌≡◌, ℕ, ◌<◌, not, ◌==◌, ◌⊎◌, List, [], ◌∷◌, length, get_or, set, Option, Some, None}
use Rattle.std.specs.List.{filter}
use Rattle.sb_rawlog.specs.declared.node.Which.{Which}
use Rattle.sb_rawlog.specs.declared.node.Which.TheVariants.{Op, Tuple, Session}
use Rattle.sb_rawlog.specs.declared.node.Links.{Links as LinksOf}
use Rattle.sb_rawlog.specs.declared.node.Node.{Node}

abbrev pub link_of : Which → LinksOf → Option ℕ
link_of Op l = l.op
link_of Tuple l = l.tuple
link_of Session l = l.session

abbrev pub with_link : Which → Option ℕ → LinksOf → LinksOf
with_link Op to l = record { op = to; tuple = l.tuple; session = l.session }
with_link Tuple to l = record { op = l.op; tuple = to; session = l.session }
with_link Session to l = record { op = l.op; tuple = l.tuple; session = to }

abbrev pub Member : ℕ → List ℕ → Type 0
Member p [] = ⊥
Member p (q ∷ qs) = (p ≡ q) ⊎ Member p qs

abbrev pub taken_out : ℕ → List ℕ → List ℕ
taken_out p ps = filter (λ q. not (q == p)) ps

module _ {X : Type 0} where
  abbrev pub link_in : Which → Option (Node X) → Option ℕ
  link_in list None = None
  link_in list (Some n) = link_of list n.links

  -- the next older place of the list
  abbrev pub link : Which → List (Option (Node X)) → ℕ → Option ℕ
  link list cs p = link_in list (get_or cs p None)

  abbrev pub time_in : Option (Node X) → ℕ
  time_in None = 0
  time_in (Some n) = n.time

  -- the time of the place
  abbrev pub time_at : List (Option (Node X)) → ℕ → ℕ
  time_at cs p = time_in (get_or cs p None)

  abbrev pub item_in : Option (Node X) → Option X
  item_in None = None
  item_in (Some n) = Some n.item

  -- what the place holds
  abbrev pub item_at : List (Option (Node X)) → ℕ → Option X
  item_at cs p = item_in (get_or cs p None)

  -- the place holds a node
  abbrev pub IsNode : List (Option (Node X)) → ℕ → Type 0
  IsNode cs p = (n : Node X) × (get_or cs p None ≡ Some n)

  abbrev pub relink : Which → Option ℕ → Option (Node X) → Option (Node X)
  relink list to None = None
  relink list to (Some n) = Some (record { time = n.time; links = with_link list to n.links; back = n.back; item = n.item })

  -- the places, where that one's link goes elsewhere
  abbrev pub relinked : Which → ℕ → Option ℕ → List (Option (Node X)) → List (Option (Node X))
  relinked list p to cs = set cs p (relink list to (get_or cs p None))

  -- from a place on, the links lead to these places and end; their times fall, and are below top
  abbrev pub IsChain : Which → List (Option (Node X)) → ℕ → Option ℕ → List ℕ → Type 0
  IsChain list cs top at [] = at ≡ None
  IsChain list cs top at (p ∷ ps) = (at ≡ Some p) × IsNode cs p × (time_at cs p < top) × IsChain list cs (time_at cs p) (link list cs p) ps

  -- the list's links are the same at all places but those, and the other lists' links, the times and the items at all places
  pub record SameBut (list : Which) (ps : List ℕ) (cs ds : List (Option (Node X))) : Type 0 where
    pub long : length ds ≡ length cs
    pub items : (q : ℕ) → item_at ds q ≡ item_at cs q
    pub times : (q : ℕ) → time_at ds q ≡ time_at cs q
    pub others : (j : Which) (q : ℕ) → (j ≡ list → ⊥) ⊎ (Member q ps → ⊥) → link j ds q ≡ link j cs q

  -- the place has left its chain, which now begins at head, and nothing else has changed
  pub record Leaves (list : Which) (place top : ℕ) (ps : List ℕ) (cs ds : List (Option (Node X))) (head : Option ℕ) : Type 0 where
    pub chain : IsChain list ds top head (taken_out place ps)
    pub same : SameBut list ps cs ds

  -- the place is in the list that begins at the head
  abbrev pub IsInList : Which → List (Option (Node X)) → Option ℕ → ℕ → Type 0
  IsInList list cs head place = (top : ℕ) × ((ps : List ℕ) × (IsChain list cs top head ps × Member place ps))

  -- and leaves it, whatever chain the list is
  abbrev pub LeavesList : Which → List (Option (Node X)) → List (Option (Node X)) → Option ℕ → Option ℕ → ℕ → Type 0
  LeavesList list cs ds head next place = (top : ℕ) (ps : List ℕ) → IsChain list cs top head ps → Member place ps → Leaves list place top ps cs ds next
