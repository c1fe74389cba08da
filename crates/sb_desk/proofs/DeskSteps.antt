-- A step of its cell keeps the desk, where the share gives one part for each entry and the session's seat is where it belongs.
use Rattle.std.proofs.Common.{◌≡◌, ℕ, ◌+◌, ◌*◌, ◌/◌, ◌%◌, ◌<◌, ◌≤◌, Bool, ◌==◌, ◌&&◌, List, length, get_or, set, Option, None, ap, sym, ◌∙◌, subst, arith, length-set, eq-eqb, lt-ltb, IsTrue, IsFalse}
use Rattle.std.proofs.lemmas.List.{get_or-set_same, get_or-set_other}
use native.Mathlib.Decide.{ℕ_discrete}
use Rattle.sb_cell.specs.Tenants.{Cell, IsSame, hosts, tenant_at, trails}
use Rattle.sb_desk.specs.Kept.{IsDesk, Place, SeatAt}
use Rattle.sb_desk.specs.Desks.{open_in}
use Rattle.sb_desk.specs.Seats.{SessionSeat, number_of}
use Rattle.sb_desk.proofs.CellSteps.{same_hosts, other_open, entries_by, number_is}

module _ (p : Place) (c c' : Cell) (parts left : ℕ) (seats : List (Option SessionSeat)) (t s0 : ℕ) (o : Option SessionSeat) (d : IsDesk p c parts seats) (smaller : c.first < c.stride) (hosted : IsTrue (hosts c t)) (below : s0 < 8) (others : (u : ℕ) → IsFalse (u == t) → tenant_at c' u ≡ tenant_at c u) (same : IsSame c c') (grows : left + length (trails c' t) ≡ parts + length (trails c t)) (stays : (s : ℕ) → s < 8 → (s ≡ s0 → ⊥) → open_in c' t s ≡ open_in c t s) (fits : SeatAt p.table (number_of p.cells t s0) (open_in c' t s0) o) where
  abbrev at : ℕ
  at = 8 * (t / p.cells) + s0

  abbrev seats' : List (Option SessionSeat)
  seats' = set seats (8 * (t / p.cells) + s0) o

  abbrev Seated : ℕ → ℕ → Type 0
  Seated u s = SeatAt p.table (number_of p.cells u s) (open_in c' u s) (get_or seats' (8 * (u / p.cells) + s) None)

  here : Seated t s0
  here =
      let room = d.places t hosted in
      subst (λ (x : Option SessionSeat). SeatAt p.table (number_of p.cells t s0) (open_in c' t s0) x) (sym (get_or-set_same seats at o None (omega arith))) fits

  past : (u s : ℕ) → IsTrue (hosts c u) → s < 8 → open_in c' u s ≡ open_in c u s → (8 * (u / p.cells) + s ≡ at → ⊥) → Seated u s
  past u s there b as_was apart =
      subst (λ (x : Option SessionSeat). SeatAt p.table (number_of p.cells u s) (open_in c' u s) x) (sym (get_or-set_other seats at (8 * (u / p.cells) + s) o None apart))
      (subst (λ (x : Bool). SeatAt p.table (number_of p.cells u s) x (get_or seats (8 * (u / p.cells) + s) None)) (sym as_was) (d.seated u s there b))

  -- two tenants have two places
  places : (u : ℕ) → IsTrue (hosts c u) → u / p.cells ≡ t / p.cells → u ≡ t
  places u there e =
      let one = number_is c u smaller there in
      let other = number_is c t smaller hosted in
      let is : c.first + c.stride * (u / c.stride) ≡ c.first + c.stride * (t / c.stride) = subst (λ n. c.first + c.stride * (u / n) ≡ c.first + c.stride * (t / n)) (sym d.stride) (ap (λ k. c.first + c.stride * k) e) in
      sym one ∙ is ∙ other

  by_session : (s : ℕ) → s < 8 → Dec (s ≡ s0) → Seated t s
  by_session s b (yes e) = subst (λ (x : ℕ). Seated t x) (sym e) here
  by_session s b (no e) = past t s hosted b (stays s b e) (λ k. e (omega arith))

  by_tenant : (u s : ℕ) → IsTrue (hosts c u) → s < 8 → Dec (u ≡ t) → Seated u s
  by_tenant u s there b (yes e) = subst (λ (x : ℕ). Seated x s) (sym e) (by_session s b (ℕ_discrete s s0))
  by_tenant u s there b (no e) = past u s there b (other_open c c' t smaller hosted others same u s e) (λ k. e (places u there (omega arith)))

  pub kept : IsDesk p c' left seats'
  kept = record {
    first = same.0 ∙ d.first;
    stride = same.1 ∙ d.stride;
    bound = same.2 ∙ d.bound;
    hosted = λ u. same_hosts c c' t smaller hosted others same u ∙ d.hosted u;
    whole = let sum = entries_by c c' t smaller hosted others same in let rest = d.whole in omega (arith, sum, rest, grows);
    places = λ u there. subst (λ n. 8 * (u / p.cells) + 8 ≤ n) (sym (length-set seats at o)) (d.places u (sym (same_hosts c c' t smaller hosted others same u) ∙ there));
    seated = λ u s there b. by_tenant u s (sym (same_hosts c c' t smaller hosted others same u) ∙ there) b (ℕ_discrete u t);
  }

-- the cell of a desk hosts the tenants of its number
pub hosted_by : (p : Place) (c : Cell) (parts : ℕ) (seats : List (Option SessionSeat)) (t : ℕ) → IsDesk p c parts seats → t % p.cells ≡ p.first → t < p.tenants → IsTrue (hosts c t)
hosted_by p c parts seats t d own below = d.hosted t ∙ (λ i. eq-eqb (t % p.cells) p.first own i && lt-ltb t p.tenants below i)
