-- Writing items one after the other, as a loop does.
use Rattle.std.proofs.Common.{◌≡◌, ℕ, ◌+◌, ◌<◌, ◌≤◌, List, [], ◌∷◌, ◌++◌, length, drop, get_or, Result, Ok, Err, sym, ap, ◌∙◌, append_assoc, subst, map}
use Rattle.std.specs.List.{flat_map, AllByRecursion}
use Rattle.std.proofs.lemmas.List.{append-nil, drop_more, drop_all, length-map}
use Rattle.sb_postgres.specs.declared.error.WriteError.{WriteError}
use Rattle.sb_postgres.specs.declared.error.WriteError.TheVariants as errors
use Rattle.std.proofs.lemmas.List.Folds.{flat_map-map}
use Rattle.sb_postgres.specs.Fields.{AreCounted, counted}
use Rattle.sb_postgres.specs.Writing.{Pushes}

-- what is left is written, so all is
abbrev pub Rests : {X : Type 0} → (X → Type 0) → (X → List ℕ) → List ℕ → List ℕ → List X → List X → Type 0
Rests Is bytes old now left all = (r : Result (Unit {0}) WriteError) (new : List ℕ) → Pushes (AllByRecursion Is left) (flat_map bytes left) now new r → Pushes (AllByRecursion Is all) (flat_map bytes all) old new r

step : {X : Type 0} (Is : X → Type 0) (bytes : X → List ℕ) (old now next : List ℕ) (x : X) (left all : List X)
    → Is x → next ≡ now ++ bytes x → Rests Is bytes old now (x ∷ left) all → Rests Is bytes old next left all
step Is bytes old now next x left all is e rests (Ok u) new (alls, said) = rests (Ok u) new ((is, alls), rw (said, e) (append_assoc now (bytes x) (flat_map bytes left)))
step Is bytes old now next x left all is e rests (Err errors.Memory) new given = rests (Err errors.Memory) new tt
step Is bytes old now next x left all is e rests (Err errors.Unsayable) new given = rests (Err errors.Unsayable) new (λ alls. given alls.1)

pub one_more : {X : Type 0} (Is : X → Type 0) (bytes : X → List ℕ) (old : List ℕ) (all : List X) (i : ℕ) → i < length all → (x : X) → x ≡ get_or all i x → (now next : List ℕ)
    → Is x → next ≡ now ++ bytes x → Rests Is bytes old now (drop i all) all → Rests Is bytes old next (drop (i + 1) all) all
one_more Is bytes old all i lt x at now next is e rests =
    let front : drop i all ≡ x ∷ drop (i + 1) all = drop_more all i x lt ∙ ap (λ y. y ∷ drop (i + 1) all) (sym at) in
    step Is bytes old now next x (drop (i + 1) all) all is e (subst (λ left. Rests Is bytes old now left all) front rests)

pub none_left : {X : Type 0} (Is : X → Type 0) (bytes : X → List ℕ) (old now : List ℕ) (all : List X) (i : ℕ) → length all ≤ i
    → Rests Is bytes old now (drop i all) all → AllByRecursion Is all × (now ≡ old ++ flat_map bytes all)
none_left Is bytes old now all i le rests =
    let here : Rests Is bytes old now [] all = subst (λ left. Rests Is bytes old now left all) (drop_all i all le) rests in
    here (Ok tt) now (tt, sym (append-nil now))

-- items as they are seen: each is right, and the bytes of all
pub all_seen : {X Y : Type 0} (seen : X → Y) (Is : Y → Type 0) (xs : List X) → AllByRecursion (λ x. Is (seen x)) xs → AllByRecursion Is (map seen xs)
all_seen seen Is [] all = tt
all_seen seen Is (x ∷ xs) all = (all.0, all_seen seen Is xs all.1)

pub seen_all : {X Y : Type 0} (seen : X → Y) (Is : Y → Type 0) (xs : List X) → AllByRecursion Is (map seen xs) → AllByRecursion (λ x. Is (seen x)) xs
seen_all seen Is [] all = tt
seen_all seen Is (x ∷ xs) all = (all.0, seen_all seen Is xs all.1)

-- what is written of items is written of them as they are seen
pub as_seen : {X Y : Type 0} (seen : X → Y) (Is : Y → Type 0) (bytes : Y → List ℕ) (xs : List X) (old new : List ℕ) (r : Result (Unit {0}) WriteError)
    → Pushes (AllByRecursion (λ x. Is (seen x)) xs) (flat_map (λ x. bytes (seen x)) xs) old new r → Pushes (AllByRecursion Is (map seen xs)) (flat_map bytes (map seen xs)) old new r
as_seen seen Is bytes xs old new (Ok u) (all, e) = (all_seen seen Is xs all, rw (flat_map-map bytes seen xs) e)
as_seen seen Is bytes xs old new (Err errors.Memory) given = tt
as_seen seen Is bytes xs old new (Err errors.Unsayable) given = λ all. given (seen_all seen Is xs all)

pub counted_as_seen : {X Y : Type 0} (seen : X → Y) (Is : Y → Type 0) (bytes : Y → List ℕ) (xs : List X) (old new : List ℕ) (r : Result (Unit {0}) WriteError)
    → Pushes (AreCounted (λ x. Is (seen x)) xs) (counted (λ x. bytes (seen x)) xs) old new r → Pushes (AreCounted Is (map seen xs)) (counted bytes (map seen xs)) old new r
counted_as_seen seen Is bytes xs old new (Ok u) (all, e) = ((rw (length-map xs seen) all.0, all_seen seen Is xs all.1), rw (length-map xs seen, flat_map-map bytes seen xs) e)
counted_as_seen seen Is bytes xs old new (Err errors.Memory) given = tt
counted_as_seen seen Is bytes xs old new (Err errors.Unsayable) given = λ all. given (rw (sym (length-map xs seen)) all.0, seen_all seen Is xs all.1)

pub as_many : {X Y : Type 0} (seen : X → Y) (xs : List X) → length (map seen xs) ≡ length xs
as_many seen xs = length-map xs seen
