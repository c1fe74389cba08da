-- Machine: a log in places: the places in use from the newest to the oldest, and the chains that hold them by bucket.
use Rattle.std.specs.Prelude.{ℕ, zero, suc, ◌<◌, ◌==◌, List, [], ◌∷◌, ◌++◌, length, map, get_or, Option, Some, None}
use Rattle.std.specs.List.{filter}
use Rattle.sb_arena.specs.Places.{somes}
use Rattle.sb_rawlog.specs.declared.node.Which.{Which}
use Rattle.sb_rawlog.specs.declared.node.Node.{Node}
use Rattle.sb_rawlog.specs.Links.{time_at, item_at, IsNode, IsChain, Member}

module _ {X : Type 0} where
  abbrev pub with_entry : Option (Node X) → List (ℕ × X) → List (ℕ × X)
  with_entry None l = l
  with_entry (Some n) l = (n.time, n.item) ∷ l

  -- the times and items of the places
  abbrev pub entries : List (Option (Node X)) → List ℕ → List (ℕ × X)
  entries cs [] = []
  entries cs (p ∷ ps) = with_entry (get_or cs p None) (entries cs ps)

  -- the places hold nodes, and their times fall and are below top
  abbrev pub Falls : List (Option (Node X)) → ℕ → List ℕ → Type 0
  Falls cs top [] = Unit {0}
  Falls cs top (p ∷ ps) = IsNode cs p × (time_at cs p < top) × Falls cs (time_at cs p) ps

  module _ (bucket : Which → X → ℕ) where
    abbrev pub bucket_in : Which → Option X → ℕ
    bucket_in w None = 0
    bucket_in w (Some x) = bucket w x

    -- the places of the bucket, in their order
    abbrev pub in_bucket : Which → ℕ → List (Option (Node X)) → List ℕ → List ℕ
    in_bucket w b cs order = filter (λ p. bucket_in w (item_at cs p) == b) order

    -- each place in use stands once in the order, by its time, and each bucket's chain has its places in that order
    pub record IsLog (cs : List (Option (Node X))) (heads : Which → List (Option ℕ)) (order : List ℕ) (clock : ℕ) : Type 0 where
      pub falls : Falls cs clock order
      pub all : (p : ℕ) → IsNode cs p → Member p order
      pub buckets : (w : Which) (x : X) → bucket w x < length (heads w)
      pub chains : (w : Which) (b : ℕ) → IsChain w cs clock (get_or (heads w) b None) (in_bucket w b cs order)

module _ {X : Type 0} where
  abbrev pub entry_in : Option (Node X) → Option (ℕ × X)
  entry_in None = None
  entry_in (Some n) = Some (n.time, n.item)

  -- what each place holds, without the links
  abbrev pub shown : List (Option (Node X)) → List (Option (ℕ × X))
  shown cs = map entry_in cs

  abbrev pub of_time : ℕ → List (ℕ × X) → List (ℕ × X)
  of_time t es = filter (λ e. e.0 == t) es

  -- those below the clock, in rising time
  abbrev pub in_time : ℕ → List (ℕ × X) → List (ℕ × X)
  in_time zero es = []
  in_time (suc t) es = in_time t es ++ of_time t es

  -- what the places hold, in rising time: what a log in places is seen as
  abbrev pub contents : ℕ → List (Option (ℕ × X)) → List (ℕ × X)
  contents clock places = in_time clock (somes places)
