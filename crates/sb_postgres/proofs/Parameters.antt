-- Parameters that are read are those that were written, and what was written is read again.
use Rattle.std.proofs.Common.{◌≡◌, ℕ, zero, suc, ◌+◌, ◌-◌, ◌<◌, ◌≤◌, false, cond, eqb, List, [], ◌∷◌, ◌++◌, length, Result, Ok, Err, refl, sym, ap, subst, ◌∙◌, append_assoc, arith, inl, inr}
use Rattle.std.specs.List.{flat_map, AllByRecursion}
use Rattle.std.proofs.lemmas.Bool.{eqb-true, eqb-false}
use Rattle.std.proofs.lemmas.List.{append-nil, nil_from_length}
use Rattle.std.proofs.lemmas.List.Concat.{flat_map-cons}
use Rattle.sb_postgres.specs.declared.error.Fault.{Fault}
use Rattle.sb_postgres.specs.declared.error.Fault.TheVariants as fault
use Rattle.sb_postgres.specs.declared.error.ReadError.{ReadError}
use Rattle.sb_postgres.specs.declared.error.ReadError.TheVariants as errors
use Rattle.sb_postgres.specs.Fields.{text}
use Rattle.sb_postgres.specs.Reading.{◌>>=◌, Fails, text_at}
use Rattle.sb_postgres.specs.Startup.{Pair, parameter, IsParameter}
use Rattle.sb_postgres.specs.StartupReading.{parameters_at}
use Rattle.sb_postgres.proofs.Loop.{with_front}
use Rattle.sb_postgres.proofs.Takes.{IsBytes, bind_ok, chosen, ok_is, not_eqb, Takes, Takes-then, texts}

-- ---- the loop

abbrev Read : Type 0
Read = Result (List Pair × List ℕ) Fault

-- what is read behind a name
abbrev value_and_others : ℕ → List ℕ → List ℕ → Read
value_and_others n name bytes = text_at bytes >>= λ value. parameters_at n value.1 >>= λ others. Ok ((name, value.0) ∷ others.0, others.1)

abbrev behind_name : ℕ → List ℕ × List ℕ → Read
behind_name n name = cond (eqb (length name.0) 0) (Ok ([], name.1)) (value_and_others n name.0 name.1)

one : (n : ℕ) (bytes : List ℕ) → parameters_at (suc n) bytes ≡ (text_at bytes >>= behind_name n)
unfolding parameters_at
one n bytes = refl

at_left : (count i : ℕ) (bytes : List ℕ) → i < count → parameters_at (count - i) bytes ≡ (text_at bytes >>= behind_name (count - (i + 1)))
at_left count i bytes lt = let k : count - i ≡ suc (count - (i + 1)) = omega arith in ap (λ (n : ℕ). parameters_at n bytes) k ∙ one (count - (i + 1)) bytes

abbrev is_read : List ℕ × List ℕ → Result (List ℕ × List ℕ) Fault
is_read p = Ok p

pub name_fails : (e : ReadError) (front : List Pair) (count i : ℕ) (bytes : List ℕ) (total : Read) → i < count → Fails e (text_at bytes)
    → with_front front (parameters_at (count - i) bytes) ≡ total → Fails e total
name_fails errors.Memory front count i bytes total lt h so_far = tt
name_fails (errors.Fault f) front count i bytes total lt h so_far = sym so_far ∙ rw (at_left count i bytes lt, h) refl

pub is_ended : (front : List Pair) (count i : ℕ) (bytes name behind : List ℕ) (total : Read) → i < count → text_at bytes ≡ Ok (name, behind) → length name ≡ 0
    → with_front front (parameters_at (count - i) bytes) ≡ total → total ≡ Ok (front, behind)
is_ended front count i bytes name behind total lt h none so_far =
    sym so_far ∙ rw (at_left count i bytes lt, h, none) (ap (λ (ps : List Pair). Ok (ps, behind)) (append-nil front))

pub value_fails : (e : ReadError) (front : List Pair) (count i : ℕ) (bytes name behind : List ℕ) (total : Read) → i < count → text_at bytes ≡ Ok (name, behind) → (length name ≡ 0 → ⊥) → Fails e (text_at behind)
    → with_front front (parameters_at (count - i) bytes) ≡ total → Fails e total
value_fails errors.Memory front count i bytes name behind total lt h some v so_far = tt
value_fails (errors.Fault f) front count i bytes name behind total lt h some v so_far =
    let other : eqb (length name) 0 ≡ false = not_eqb _ _ some in
    sym so_far ∙ rw (at_left count i bytes lt, h, other, v) refl

regroup : (front : List Pair) (p : Pair) (read : Read) → with_front front (read >>= λ x. Ok (p ∷ x.0, x.1)) ≡ with_front (front ++ p ∷ []) read
regroup front p (Ok x) = ap (λ (ps : List Pair). Ok (ps, x.1)) (simp append_assoc)
regroup front p (Err f) = refl

pub goes_on : (front : List Pair) (count i : ℕ) (bytes name behind value after : List ℕ) (total : Read) → i < count → text_at bytes ≡ Ok (name, behind) → (length name ≡ 0 → ⊥) → text_at behind ≡ Ok (value, after)
    → with_front front (parameters_at (count - i) bytes) ≡ total → with_front (front ++ (name, value) ∷ []) (parameters_at (count - (i + 1)) after) ≡ total
goes_on front count i bytes name behind value after total lt h some v so_far =
    let other : eqb (length name) 0 ≡ false = not_eqb _ _ some in
    let here : with_front front (parameters_at (count - i) bytes) ≡ with_front front (parameters_at (count - (i + 1)) after >>= λ x. Ok ((name, value) ∷ x.0, x.1)) = rw (at_left count i bytes lt, h, other, v) refl in
    sym (regroup front (name, value) (parameters_at (count - (i + 1)) after)) ∙ sym here ∙ so_far

pub none_ends : (front : List Pair) (count i : ℕ) (bytes : List ℕ) (total : Read) → count ≤ i → with_front front (parameters_at (count - i) bytes) ≡ total → total ≡ Err fault.Short
unfolding parameters_at
none_ends front count i bytes total le so_far =
    let k : count - i ≡ 0 = omega arith in
    sym so_far ∙ rw k refl

-- ---- both ways

abbrev pub parameters : List Pair → List ℕ
parameters ps = flat_map parameter ps ++ 0 ∷ []

pub parameters_take : (n : ℕ) (bytes : List ℕ) (x : List Pair × List ℕ) → IsBytes bytes → parameters_at n bytes ≡ Ok x → Takes bytes (parameters x.0) x.1 × AllByRecursion IsParameter x.0
unfolding parameters_at
parameters_take zero bytes x fits e = absurd cc
parameters_take (suc n) bytes x fits e =
    let a = bind_ok (text_at bytes) (behind_name n) x e in
    let name = a.0.0 in
    let first = texts.takes bytes name a.0.1 fits a.1 in
    elim (chosen (eqb (length name) 0) (Ok ([], a.0.1)) (value_and_others n name a.0.1) (Ok x) a.2) [
      | inl h ↦
          let none : name ≡ [] = nil_from_length name (eqb-true _ _ h.0) in
          let taken : Takes bytes (0 ∷ []) a.0.1 = subst (λ (w : List ℕ). Takes bytes (text w) a.0.1) none first.0 in
          let nothing : List Pair × List ℕ = ([], a.0.1) in
          subst (λ (y : List Pair × List ℕ). Takes bytes (parameters y.0) y.1 × AllByRecursion IsParameter y.0) (ok_is nothing x h.1) (taken, tt)
      | inr h ↦
          let b = bind_ok (text_at a.0.1) (λ value. parameters_at n value.1 >>= λ others. Ok ((name, value.0) ∷ others.0, others.1)) x h.1 in
          let c = bind_ok (parameters_at n b.0.1) (λ others. Ok ((name, b.0.0) ∷ others.0, others.1)) x b.2 in
          let second = texts.takes a.0.1 b.0.0 b.0.1 first.0.rest_fits b.1 in
          let third = parameters_take n b.0.1 c.0 second.0.rest_fits c.1 in
          let pair = Takes-then bytes (text name) a.0.1 (text b.0.0) b.0.1 first.0 second.0 in
          let all = Takes-then bytes (text name ++ text b.0.0) b.0.1 (parameters c.0.0) c.0.1 pair third.0 in
          let made : List Pair × List ℕ = ((name, b.0.0) ∷ c.0.0, c.0.1) in
          let regrouped : parameters made.0 ≡ (text name ++ text b.0.0) ++ parameters c.0.0 = ap (λ (t : List ℕ). t ++ 0 ∷ []) (flat_map-cons parameter (name, b.0.0) c.0.0) ∙ append_assoc (text name ++ text b.0.0) (flat_map parameter c.0.0) (0 ∷ []) in
          let other : length name ≡ 0 → ⊥ = eqb-false _ _ h.0 in
          let long : 0 < length name = omega (arith, other) in
          subst (λ (y : List Pair × List ℕ). Takes bytes (parameters y.0) y.1 × AllByRecursion IsParameter y.0) (ok_is made x c.2) (rw regrouped all, ((long, (first.1, second.1)), third.1))
    ]

pub parameters_again : (n : ℕ) (ps : List Pair) (rest : List ℕ) → length ps < n → AllByRecursion IsParameter ps → parameters_at n (parameters ps ++ rest) ≡ Ok (ps, rest)
unfolding parameters_at
parameters_again zero ps rest lt fits = absurd (omega arith)
parameters_again (suc n) [] rest lt fits = rw (texts.again [] rest tt) refl
parameters_again (suc n) (p ∷ ps) rest lt fits =
    let regrouped : parameters (p ∷ ps) ++ rest ≡ text p.0 ++ (text p.1 ++ (parameters ps ++ rest)) =
    rw flat_map-cons (simp append_assoc) in
    let other : eqb (length p.0) 0 ≡ false = not_eqb _ _ (λ e. omega (arith, fits.0.0, e)) in
    ap (parameters_at (suc n)) regrouped ∙ rw (texts.again p.0 (text p.1 ++ (parameters ps ++ rest)) fits.0.1.0, other, texts.again p.1 (parameters ps ++ rest) fits.0.1.1, parameters_again n ps rest (omega arith) fits.1) refl
