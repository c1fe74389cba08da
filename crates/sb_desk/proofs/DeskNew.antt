-- A new cell, with its whole share and a seat for each of its sessions, is a desk.
use Rattle.std.proofs.Common.{◌≡◌, ℕ, suc, ◌+◌, ◌-◌, ◌*◌, ◌/◌, ◌%◌, ◌<◌, ◌≤◌, ◌^◌, Bool, false, ◌==◌, nat_lt, List, [], ◌∷◌, length, get_or, Option, None, refl, ap, sym, ◌∙◌, subst, arith, IsTrue}
use Rattle.std.specs.List.{slice_get}
use Rattle.std.proofs.Math.Nat.{div-mul-le_self}
use Rattle.std.proofs.lemmas.Nat.{le-div}
use Rattle.std.proofs.lemmas.Bool.{eqb-true, ltb-true, and_parts}
use Rattle.std.proofs.lemmas.List.Sums.{sum_by-cons}
use Rattle.sb_tenant.specs.Tenant.{Tenant}
use Rattle.sb_tenant.specs.State.{session_at, is_open}
use Rattle.sb_tenant.specs.Trail.{state_of}
use Rattle.sb_cell.specs.Hosting.{entry_count}
use Rattle.sb_cell.specs.Tenants.{Cell, IsNew, hosts, trail_of}
use Rattle.sb_desk.specs.Kept.{AreDealt, IsDesk, Place, SeatAt}
use Rattle.sb_desk.specs.Desks.{open_in}
use Rattle.sb_desk.specs.Seats.{SessionSeat, number_of}
use Rattle.sb_desk.proofs.CellSteps.{at_place}

none_counted : (xs : List Tenant) → ((i : ℕ) → length (trail_of (slice_get xs i)) ≡ 0) → entry_count xs ≡ 0
none_counted [] h = refl
none_counted (x ∷ xs) h =
    let head = h 0 in
    let rest = none_counted xs (λ i. h (suc i)) in
    let all : entry_count (x ∷ xs) ≡ length x.trail + entry_count xs = sum_by-cons (λ (w : Tenant). length w.trail) x xs in
    omega (arith, head, rest, all)

module _ (p : Place) (c : Cell) (parts : ℕ) (seats : List (Option SessionSeat)) (new : IsNew p.first p.cells p.tenants p.bound c) (smaller : c.first < c.stride) (some : 0 < p.cells) (whole : parts ≡ 2 ^ 32) (dealt : AreDealt p.table p.first (8 * ((p.tenants - 1) / p.cells + 1)) seats) where
  none : entry_count c.tenants ≡ 0
  none = none_counted c.tenants (λ i. ap (λ w. length (trail_of w)) (sym (at_place c smaller i)) ∙ ap length (new.trails (c.first + c.stride * i)))

  own : (t : ℕ) → IsTrue (hosts c t) → (t % p.cells ≡ p.first) × (t < p.tenants)
  own t there = let h = and_parts (t % p.cells == p.first) (nat_lt t p.tenants) (sym (new.hosted t) ∙ there) in (eqb-true (t % p.cells) p.first h.0, ltb-true t p.tenants h.1)

  placed : (t : ℕ) → IsTrue (hosts c t) → t / p.cells ≤ (p.tenants - 1) / p.cells
  placed t there =
      let below = (own t there).1 in
      let less = div-mul-le_self t p.cells in
      le-div (t / p.cells) (p.tenants - 1) p.cells some (omega (arith, below, less))

  shut : (t s : ℕ) → open_in c t s ≡ false
  shut t s = ap (λ l. is_open (session_at (state_of t c.bound l) s)) (new.trails t)

  seated : (t s : ℕ) → IsTrue (hosts c t) → s < 8 → SeatAt p.table (number_of p.cells t s) (open_in c t s) (get_or seats (8 * (t / p.cells) + s) None)
  seated t s there below =
      let here = placed t there in
      let seat = dealt.1 (8 * (t / p.cells) + s) (omega (arith, here, below)) in
      subst (λ (x : ℕ × Bool). SeatAt p.table (2048 * x.0 + (8 * (t / p.cells) + s)) x.1 (get_or seats (8 * (t / p.cells) + s) None)) (λ i. (sym (own t there).0 i, sym (shut t s) i)) seat

  pub is_desk : IsDesk p c parts seats
  is_desk = record {
    first = new.first_is;
    stride = new.stride_is;
    bound = new.at_most;
    hosted = new.hosted;
    whole = omega (arith, whole, none);
    places = λ t there. let here = placed t there in let count = dealt.0 in omega (arith, here, count);
    seated = seated;
  }
