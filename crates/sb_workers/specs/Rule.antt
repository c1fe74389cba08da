-- Machine: each place pushed stands with its job in the deque, in rising order, or was given with it to exactly one seat.
use Rattle.std.specs.Prelude.{ℕ, suc, ◌+◌, ◌≤◌, ◌≡◌, ◌==◌, Bool, true, cond, List, [], ◌∷◌, ◌++◌, length, Some, slice_get}
use mathlib.Core.Option.{some}
use lib.ListN.{get_elem?}
use Rattle.sb_workers.specs.declared.work.Placed.{Placed}
use Rattle.sb_workers.specs.declared.rule.Known.{Known}

-- what a seat knows
abbrev pub known : {J : Type 0} → ℕ → Bool → List (Placed J) → List (Placed J) → Known J
known parts owns pushed given = record { parts = parts; owns = owns; pushed = pushed; given = given }

-- the jobs with their places, from k on
abbrev pub tasks_from : {J : Type 0} → ℕ → List J → List (Placed J)
tasks_from k [] = []
tasks_from k (j ∷ js) = record { place = k; item = j } ∷ tasks_from (suc k) js

-- how often the place x stands among these
abbrev pub times : {T : Type 0} → ℕ → List (Placed T) → ℕ
times x [] = 0
times x (t ∷ ts) = cond (t.place == x) 1 0 + times x ts

-- f of all seats, added up
abbrev pub total : {J : Type 0} → (Known J → ℕ) → List (Known J) → ℕ
total f [] = 0
total f (v ∷ vs) = f v + total f vs

-- each of these tasks is the one of its place
abbrev pub AreOf : {J : Type 0} → List (Placed J) → List (Placed J) → Type 0
AreOf all ts = (j : ℕ) (t : Placed _) → slice_get ts j ≡ Some t → slice_get all t.place ≡ Some t

-- each stands at its own place
abbrev pub InPlace : {J : Type 0} → List (Placed J) → Type 0
InPlace all = (i : ℕ) (t : Placed _) → slice_get all i ≡ Some t → t.place ≡ i

-- the owner knows all that was pushed; what a seat was given was pushed; a seat with no part was given nothing
abbrev pub Fits : {J : Type 0} → ℕ → List (Placed J) → ℕ → Known J → Type 0
Fits owner all id v = (v.owns ≡ true → (id ≡ owner) × (v.pushed ≡ all)) × AreOf all v.given × (v.parts ≡ 0 → v.given ≡ [])

-- all that was pushed, in rising order, is what was given to some seat, each place as often, and then what the deque holds
abbrev pub Ruled : {J : Type 0} → List (Placed J) → List (Known J) → Type 0
Ruled items views =
    (owner : ℕ) × (all : List (Placed _)) × (front : List (Placed _))
    × (all ≡ front ++ items) × InPlace all
    × (total (λ v. v.parts) views ≡ 1024)
    × ((x : ℕ) → total (λ v. times x v.given) views ≡ times x front)
    × (total (λ v. length v.given) views ≡ length front)
    × ((id : ℕ) (v : Known _) → get_elem? views id ≡ some v → Fits owner all id v)

-- the owner of all parts was given each place as often as it was pushed, with its job
abbrev pub AllOut : {J : Type 0} → Known J → Type 0
AllOut v = v.parts ≡ 1024 → v.owns ≡ true → AreOf v.pushed v.given × ((x : ℕ) → times x v.given ≡ times x v.pushed)

-- the owner was given no more than was pushed
abbrev pub NoMore : {J : Type 0} → Known J → Type 0
NoMore v = v.owns ≡ true → length v.given ≤ length v.pushed
