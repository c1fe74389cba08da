-- What a step of one session changes in a cell: which sessions are open, and how many entries there are.
use Rattle.std.proofs.Common.{◌≡◌, ℕ, zero, suc, ◌+◌, ◌*◌, ◌/◌, ◌%◌, ◌<◌, Bool, true, false, cond, ◌&&◌, ◌==◌, nat_lt, List, [], ◌∷◌, ◌++◌, length, Option, None, refl, sym, ap, ◌∙◌, subst, arith, IsTrue, IsFalse}
use Rattle.std.specs.List.{slice_get}
use Rattle.std.proofs.Math.Nat.{add-mul-div_left, add-mul-mod_self_left, div-eq_of_lt, mod-eq_of_lt}
use Rattle.std.proofs.lemmas.Bool.{true≢false, eqb-true, eq-eqb, ne_eqb}
use Rattle.std.proofs.lemmas.List.Sums.{sum_by-cons}
use Rattle.std.proofs.lemmas.Option.{same_Some}
use Rattle.sb_tenant.specs.declared.bound.Bound.{Bound}
use Rattle.sb_tenant.specs.declared.reply.Entry.{Entry}
use Rattle.sb_tenant.specs.Tenant.{Tenant}
use Rattle.sb_tenant.specs.State.{State, session_at, is_open}
use Rattle.sb_tenant.specs.Trail.{after_entry, replayed, state_of}
use Rattle.sb_tenant.specs.TrailLaws.{OthersStay}
use Rattle.sb_cell.specs.Hosting.{entry_count}
use Rattle.sb_cell.specs.Tenants.{Cell, IsSame, hosts, tenant_at, trail_of, trails}
use Rattle.sb_desk.specs.Desks.{open_in}

-- ---- one entry more

replayed-snoc : (tenant : ℕ) (bound : Bound) (st : State) (es : List Entry) (e : Entry) → replayed tenant bound st (es ++ e ∷ []) ≡ after_entry tenant bound (replayed tenant bound st es) e
replayed-snoc tenant bound st [] e = refl
replayed-snoc tenant bound st (x ∷ es) e = replayed-snoc tenant bound (after_entry tenant bound st x) es e

-- another session of the tenant stays open or closed
pub beside : (others : (tenant : ℕ) (bound : Bound) → OthersStay tenant bound) (tenant : ℕ) (bound : Bound) (es new : List Entry) (e : Entry) (s : ℕ) → new ≡ es ++ e ∷ [] → (s ≡ e.session → ⊥) →
    is_open (session_at (state_of tenant bound new) s) ≡ is_open (session_at (state_of tenant bound es) s)
beside others tenant bound es new e s longer apart =
    ap (λ (l : List Entry). is_open (session_at (state_of tenant bound l) s)) longer
    ∙ ap (λ (st : State). is_open (session_at st s)) (replayed-snoc tenant bound (state_of tenant bound []) es e)
    ∙ ap is_open (others tenant bound (state_of tenant bound es) e s (ne_eqb s e.session apart))

-- ---- the entries of all trails

abbrev at_length : Option Tenant → ℕ
at_length w = length (trail_of w)

same_lists : (xs ys : List Tenant) → length ys ≡ length xs → ((i : ℕ) → slice_get ys i ≡ slice_get xs i) → ys ≡ xs
same_lists [] [] n h = refl
same_lists [] (y ∷ ys) n h = absurd (omega arith)
same_lists (x ∷ xs) [] n h = absurd (omega arith)
same_lists (x ∷ xs) (y ∷ ys) n h = λ i. same_Some y x (h 0) i ∷ same_lists xs ys (omega arith) (λ k. h (suc k)) i

-- one tenant's trail is another
counted : (xs ys : List Tenant) (k : ℕ) → length ys ≡ length xs → ((i : ℕ) → (i ≡ k → ⊥) → slice_get ys i ≡ slice_get xs i) →
    entry_count ys + at_length (slice_get xs k) ≡ entry_count xs + at_length (slice_get ys k)
counted [] [] k n h = refl
counted [] (y ∷ ys) k n h = absurd (omega arith)
counted (x ∷ xs) [] k n h = absurd (omega arith)
counted (x ∷ xs) (y ∷ ys) zero n h =
    let rest = ap entry_count (same_lists xs ys (omega arith) (λ k. h (suc k) (λ e. absurd (omega arith)))) in
    let a : entry_count (x ∷ xs) ≡ length x.trail + entry_count xs = sum_by-cons (λ (w : Tenant). length w.trail) x xs in
    let b : entry_count (y ∷ ys) ≡ length y.trail + entry_count ys = sum_by-cons (λ (w : Tenant). length w.trail) y ys in
    let sum : entry_count (y ∷ ys) + length x.trail ≡ entry_count (x ∷ xs) + length y.trail = omega (arith, rest, a, b) in sum
counted (x ∷ xs) (y ∷ ys) (suc k) n h =
    let rest = counted xs ys k (omega arith) (λ i apart. h (suc i) (λ e. apart (omega arith))) in
    let head = ap (λ (w : Tenant). length w.trail) (same_Some y x (h 0 (λ e. absurd (omega arith)))) in
    let a : entry_count (x ∷ xs) ≡ length x.trail + entry_count xs = sum_by-cons (λ (w : Tenant). length w.trail) x xs in
    let b : entry_count (y ∷ ys) ≡ length y.trail + entry_count ys = sum_by-cons (λ (w : Tenant). length w.trail) y ys in
    omega (arith, rest, head, a, b)

-- ---- numbers and places

-- the tenant of a place
pub at_place : (c : Cell) → c.first < c.stride → (i : ℕ) → tenant_at c (c.first + c.stride * i) ≡ slice_get c.tenants i
at_place c smaller i =
    let rest : (c.first + c.stride * i) % c.stride ≡ c.first = add-mul-mod_self_left c.first c.stride i ∙ small c.first c.stride smaller in
    let place : (c.first + c.stride * i) / c.stride ≡ i = add-mul-div_left c.first i (positive c.first c.stride smaller) ∙ by_zero c.first c.stride i smaller in
    (λ j. cond (rest j == c.first) (slice_get c.tenants (place j)) None) ∙ ap (λ b. cond b (slice_get c.tenants i) None) (eq-eqb c.first c.first refl)
  where
    positive : (a b : ℕ) → a < b → 0 < b
    positive a b h = omega arith

    small : (a b : ℕ) → a < b → a % b ≡ a
    small a b h = mod-eq_of_lt h

    by_zero : (a b i : ℕ) → a < b → a / b + i ≡ i
    by_zero a b i h = let none : a / b ≡ 0 = div-eq_of_lt h in omega (arith, none)

class : (c : Cell) (t : ℕ) → IsTrue (hosts c t) → (t % c.stride == c.first) ≡ true
class c t hosted = by (t % c.stride == c.first) hosted
  where
    by : (b : Bool) → (b && nat_lt (t / c.stride) (length c.tenants)) ≡ true → b ≡ true
    by true h = refl
    by false h = absurd (true≢false (sym h))

-- its number is that of its place
pub number_is : (c : Cell) (t : ℕ) → c.first < c.stride → IsTrue (hosts c t) → c.first + c.stride * (t / c.stride) ≡ t
number_is c t smaller hosted = let rest = eqb-true (t % c.stride) c.first (class c t hosted) in omega arith

module _ (c c' : Cell) (t : ℕ) (smaller : c.first < c.stride) (hosted : IsTrue (hosts c t)) (others : (u : ℕ) → IsFalse (u == t) → tenant_at c' u ≡ tenant_at c u) (same : IsSame c c') where
  pub same_hosts : (u : ℕ) → hosts c' u ≡ hosts c u
  same_hosts u = λ i. (u % same.1 i == same.0 i) && nat_lt (u / same.1 i) (same.3 i)

  -- another tenant's sessions stay open or closed
  pub other_open : (u s : ℕ) → (u ≡ t → ⊥) → open_in c' u s ≡ open_in c u s
  other_open u s apart = λ i. is_open (session_at (state_of u (same.2 i) (trail_of (others u (ne_eqb u t apart) i))) s)

  elsewhere : (i : ℕ) → (i ≡ t / c.stride → ⊥) → slice_get c'.tenants i ≡ slice_get c.tenants i
  elsewhere i apart =
      let smaller' : c'.first < c'.stride = subst (λ k. k < c'.stride) (sym same.0) (subst (λ k. c.first < k) (sym same.1) smaller) in
      let here : tenant_at c' (c'.first + c'.stride * i) ≡ slice_get c'.tenants i = at_place c' smaller' i in
      let moved : tenant_at c' (c'.first + c'.stride * i) ≡ tenant_at c' (c.first + c.stride * i) = λ j. tenant_at c' (same.0 j + same.1 j * i) in
      let apart' : c.first + c.stride * i ≡ t → ⊥ = λ e. apart (places_by c.first c.stride i (t / c.stride) smaller (e ∙ sym (number_is c t smaller hosted))) in
      sym here ∙ moved ∙ others (c.first + c.stride * i) (ne_eqb (c.first + c.stride * i) t apart') ∙ at_place c smaller i
    where
      places_by : (first stride i j : ℕ) → first < stride → first + stride * i ≡ first + stride * j → i ≡ j
      places_by first stride i j below e =
          let positive : 0 < stride = omega arith in
          let one = add-mul-div_left first i positive in
          let other = add-mul-div_left first j positive in
          let both = ap (λ n. n / stride) e in
          omega (arith, one, other, both)

  -- where the tenant stands
  own : (d : Cell) → d.first ≡ c.first → d.stride ≡ c.stride → tenant_at d t ≡ slice_get d.tenants (t / c.stride)
  own d f n =
      (λ j. cond (t % n j == f j) (slice_get d.tenants (t / n j)) None) ∙ ap (λ b. cond b (slice_get d.tenants (t / c.stride)) None) (class c t hosted)

  -- all entries, with one trail exchanged
  pub entries_by : entry_count c'.tenants + length (trails c t) ≡ entry_count c.tenants + length (trails c' t)
  entries_by =
      let all = counted c.tenants c'.tenants (t / c.stride) same.3 elsewhere in
      let before = ap at_length (own c refl refl) in
      let after = ap at_length (own c' same.0 same.1) in
      omega (arith, all, before, after)
