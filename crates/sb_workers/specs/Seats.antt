-- Machine: the seats at the pool's deque: the owner's and the helpers'.
use Rattle.std.specs.Prelude.{ℕ, ◌≡◌, ◌+◌, ◌<◌, ◌≤◌, true, false, List, length, Some, slice_get, Vec, vec_capacity, vec_len}
use Rattle.std.specs.Global.{Global}
use Rattle.atomic_blocks.specs.Lent.{RowsId}
use Rattle.crossbeam_deque.specs.declared.handles.Worker.{Worker}
use Rattle.crossbeam_deque.specs.Handles.{Pass, IsPassOf, view, worker_capacity, worker_deque, worker_flavor, worker_index, worker_view}
use Rattle.sb_workers.specs.declared.work.Placed.{Placed}
use Rattle.sb_workers.specs.declared.rule.Known.{Known}
use Rattle.sb_workers.specs.declared.caller.Caller.{Caller}
use Rattle.sb_workers.specs.declared.helper.Helper.{Helper}
use Rattle.sb_workers.specs.Results.{AreDone}

module _ {J P : Type 0} where
  -- it is the owner, has some parts, and its tasks leave in order
  abbrev pub IsOwner : Worker (Placed J) Global (Known J) P → Type 0
  IsOwner w = ((worker_view w).owns ≡ true) × (0 < (worker_view w).parts) × (worker_flavor w ≡ 0)

  -- the same owner, which may have been given more
  abbrev pub SameOwner : Worker (Placed J) Global (Known J) P → Worker (Placed J) Global (Known J) P → Type 0
  SameOwner old new =
      (worker_deque new ≡ worker_deque old) × (worker_flavor new ≡ worker_flavor old)
      × ((worker_view new).parts ≡ (worker_view old).parts)
      × ((worker_view new).owns ≡ (worker_view old).owns)
      × ((worker_view new).pushed ≡ (worker_view old).pushed)

  -- the same owner, which has so many parts more, and what was given with them
  abbrev pub HasMoreParts : ℕ → Worker (Placed J) Global (Known J) P → Worker (Placed J) Global (Known J) P → Type 0
  HasMoreParts more old new =
      (worker_deque new ≡ worker_deque old) × (worker_flavor new ≡ worker_flavor old)
      × ((worker_view new).parts ≡ (worker_view old).parts + more)
      × ((worker_view new).owns ≡ (worker_view old).owns)
      × ((worker_view new).pushed ≡ (worker_view old).pushed)

  -- the same end of the same deque, with no less room
  abbrev pub SameEnd : Worker (Placed J) Global (Known J) P → Worker (Placed J) Global (Known J) P → Type 0
  SameEnd old new =
      (worker_deque new ≡ worker_deque old) × (worker_flavor new ≡ worker_flavor old)
      × (worker_index new ≡ worker_index old) × (worker_capacity old ≤ worker_capacity new)

-- a seat of this deque that has one part
abbrev pub IsSeat : {J : Type 0} → RowsId × Global → Pass (Placed J) (Known J) Global → Type 0
IsSeat deque seat = IsPassOf deque seat × ((view seat).parts ≡ 1) × ((view seat).owns ≡ false)

module _ {J D : Type 0} (does : J → D → Type 0) where
  -- the calling thread owns the deque, has done what it was given, and has a place for each result
  abbrev pub IsCaller : Caller J D → Type 0
  IsCaller c =
      IsOwner c.owner × AreDone does (worker_view c.owner).given c.done.items
      × (length (worker_view c.owner).pushed ≤ vec_capacity c.done)

module _ {J D : Type 0} (does : J → D → Type 0) (deque : RowsId × Global) where
  -- a helper at this deque, which has done what its seat was given
  abbrev pub IsHelper : Helper J D → Type 0
  IsHelper h = IsSeat deque h.seat × AreDone does (view h.seat).given h.done.items

  abbrev pub AreHelpers : List (Helper J D) → Type 0
  AreHelpers hs = (i : ℕ) (h : Helper J D) → slice_get hs i ≡ Some h → IsHelper h

  -- the calling thread, the helpers that are to begin, and those that are back, with places for all
  abbrev pub IsCrew : Caller J D → Vec (Helper J D) Global → Vec (Helper J D) Global → Type 0
  IsCrew c helpers back =
      IsCaller does c × AreHelpers helpers.items × AreHelpers back.items
      × (vec_len back + vec_len helpers ≤ vec_capacity back)

  -- the same calling thread, and all helpers are back
  abbrev pub IsCrewBack : Caller J D → Vec (Helper J D) Global → Vec (Helper J D) Global →
      Caller J D × Vec (Helper J D) Global → Type 0
  IsCrewBack c helpers back r =
      SameOwner c.owner r.0.owner × IsCaller does r.0 × AreHelpers r.1.items
      × (vec_len r.1 ≡ vec_len back + vec_len helpers) × (vec_capacity back ≤ vec_capacity r.1)
