-- Reading fields one after the other, as a loop does.
use Rattle.std.proofs.Common.{◌≡◌, ℕ, suc, ◌-◌, ◌+◌, ◌≤◌, ◌<◌, List, [], ◌∷◌, ◌++◌, Result, Ok, Err, refl, sym, ap, ◌∙◌, append_assoc, arith}
use Rattle.std.proofs.lemmas.List.{append-nil}
use Rattle.sb_postgres.specs.declared.error.Fault.{Fault}
use Rattle.sb_postgres.specs.declared.error.ReadError.{ReadError}
use Rattle.sb_postgres.specs.declared.error.ReadError.TheVariants as errors
use Rattle.sb_postgres.specs.Reading.{◌>>=◌, Fails, Reader, items_at}

-- what was read before, and what is still read
abbrev pub with_front : {X : Type 0} → List X → Result (List X × List ℕ) Fault → Result (List X × List ℕ) Fault
with_front front read = read >>= λ x. Ok (front ++ x.0, x.1)

regroup : {X : Type 0} (front : List X) (n : X) (read : Result (List X × List ℕ) Fault) → with_front front (read >>= λ x. Ok (n ∷ x.0, x.1)) ≡ with_front (front ++ n ∷ []) read
regroup {X} front n (Ok x) = ap (λ (ns : List X). Ok (ns, x.1)) (simp append_assoc)
regroup front n (Err f) = refl

pub goes_on : {X : Type 0} (one : Reader X) (front : List X) (count i : ℕ) (bytes : List ℕ) (n : X) (after : List ℕ) (total : Result (List X × List ℕ) Fault) → i < count → one bytes ≡ Ok (n, after)
    → with_front front (items_at one (count - i) bytes) ≡ total → with_front (front ++ n ∷ []) (items_at one (count - (i + 1)) after) ≡ total
unfolding items_at
goes_on one front count i bytes n after total lt h so_far =
    let k : count - i ≡ suc (count - (i + 1)) = omega arith in
    let here : with_front front (items_at one (count - i) bytes) ≡ with_front (front ++ n ∷ []) (items_at one (count - (i + 1)) after) = rw (k, h) (regroup front n (items_at one (count - (i + 1)) after)) in
    sym here ∙ so_far

pub ends : {X : Type 0} (one : Reader X) (e : ReadError) (front : List X) (count i : ℕ) (bytes : List ℕ) (total : Result (List X × List ℕ) Fault) → i < count → Fails e (one bytes)
    → with_front front (items_at one (count - i) bytes) ≡ total → Fails e total
unfolding items_at
ends one errors.Memory front count i bytes total lt h so_far = tt
ends one (errors.Fault f) front count i bytes total lt h so_far =
    let k : count - i ≡ suc (count - (i + 1)) = omega arith in
    let here : with_front front (items_at one (count - i) bytes) ≡ Err f = rw (k, h) refl in
    sym so_far ∙ here

pub is_done : {X : Type 0} (one : Reader X) (front : List X) (count i : ℕ) (bytes : List ℕ) (total : Result (List X × List ℕ) Fault) → count ≤ i → with_front front (items_at one (count - i) bytes) ≡ total → total ≡ Ok (front, bytes)
unfolding items_at
is_done {X} one front count i bytes total le so_far =
    let k : count - i ≡ 0 = omega arith in
    let here : with_front front (items_at one (count - i) bytes) ≡ Ok (front, bytes) = rw k (ap (λ (ns : List X). Ok (ns, bytes)) (append-nil front)) in
    sym so_far ∙ here
