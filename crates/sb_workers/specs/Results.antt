-- Machine: results, by the places of their jobs.
use Rattle.std.specs.Prelude.{ℕ, ◌≡◌, ◌<◌, ◌≤◌, ◌↔◌, List, [], Option, Some, slice_get, vec_len, vec_capacity}
use Rattle.std.specs.List.{AllZip}
use Rattle.sb_workers.specs.declared.work.Placed.{Placed}
use Rattle.sb_workers.specs.declared.results.Rack.{Rack}
use Rattle.sb_workers.specs.Rule.{AreOf, times}

module _ {J D : Type 0} (does : J → D → Type 0) where
  -- the result of a job, at the job's place
  abbrev pub IsDone : Placed J → Placed D → Type 0
  IsDone t r = (r.place ≡ t.place) × does t.item r.item

  -- the results of the jobs that were given, one by one
  abbrev pub AreDone : List (Placed J) → List (Placed D) → Type 0
  AreDone given done = AllZip IsDone given done

  -- the results of all tasks, in any order: each task was given once for each time that it stands there, and is done
  abbrev pub AllDone : List (Placed J) → List (Placed D) → Type 0
  AllDone all done = (given : List (Placed J)) × AreOf all given × ((x : ℕ) → times x given ≡ times x all) × AreDone given done

module _ {D : Type 0} where
  -- the places below n stand among them, and no others
  abbrev pub CoverPlaces : ℕ → List (Placed D) → Type 0
  CoverPlaces n done = (x : ℕ) → (x < n) ↔ (0 < times x done)

  -- r is one of these results, of the place x
  abbrev pub HasResult : List (Placed D) → ℕ → D → Type 0
  HasResult done x r = (i : ℕ) × (slice_get done i ≡ Some (record { place = x; item = r }))

  -- the list of the results, place by place
  abbrev pub ListsByPlace : List (Placed D) → List D → Type 0
  ListsByPlace done results = (x : ℕ) (r : D) → slice_get results x ≡ Some r → HasResult done x r

  -- each slot holds a result of its place
  abbrev pub HoldByPlace : List (Placed D) → List (Option D) → Type 0
  HoldByPlace done slots = (x : ℕ) (s : Option D) → slice_get slots x ≡ Some s → (r : D) × (s ≡ Some r) × HasResult done x r

  -- no slot holds anything
  abbrev pub AreEmpty : List (Option D) → Type 0
  AreEmpty slots = (x : ℕ) (r : D) → slice_get slots x ≡ Some (Some r) → ⊥

  -- each slot holds something
  abbrev pub AreFull : List (Option D) → Type 0
  AreFull slots = (x : ℕ) (s : Option D) → slice_get slots x ≡ Some s → (r : D) × (s ≡ Some r)

  -- empty slots for so many results, and room for their list
  abbrev pub IsReady : ℕ → Rack D → Type 0
  IsReady n rack = (vec_len rack.slots ≡ n) × AreEmpty rack.slots.items × (rack.results.items ≡ []) × (n ≤ vec_capacity rack.results)
