-- A renewal keeps the desk: the parts of the ended trail come, and those of the new one go.
use Rattle.std.proofs.Common.{◌≡◌, ℕ, ◌+◌, ◌*◌, ◌/◌, ◌<◌, ◌≤◌, Bool, true, List, length, get_or, Option, None, sym, ap, ◌∙◌, subst, arith, lt-ltb, IsTrue}
use Rattle.std.proofs.lemmas.List.{set-get_or}
use Rattle.sb_tenant.specs.declared.reply.Entry.{Entry}
use Rattle.sb_tenant.specs.Limits.{entry_limit}
use Rattle.sb_tenant.specs.Tenant.{Tenant}
use Rattle.sb_cell.specs.Hosting.{entry_count}
use Rattle.sb_cell.specs.Renewal.{Renews}
use Rattle.sb_cell.specs.Tenants.{Cell, hosts, trail_of, trails}
use Rattle.sb_desk.specs.Kept.{IsDesk, Place, SeatAt}
use Rattle.sb_desk.specs.Desks.{open_in}
use Rattle.sb_desk.specs.Seats.{SessionSeat, number_of}
use Rattle.sb_desk.proofs.CellSteps.{entries_by}
use Rattle.sb_desk.proofs.DeskSteps.{kept}

module _ (p : Place) (c c' : Cell) (parts : ℕ) (seats : List (Option SessionSeat)) (fresh was : Tenant) (d : IsDesk p c parts seats) (smaller : c.first < c.stride) (r : Renews c was fresh c') (back : ℕ) (brought : back ≡ length (trails c fresh.id)) where
  abbrev t : ℕ
  t = fresh.id

  new_trail : trails c' t ≡ fresh.trail
  new_trail = ap trail_of r.behind.1 ∙ r.behind.2.trail

  entries : entry_count c'.tenants + length (trails c t) ≡ entry_count c.tenants + length fresh.trail
  entries = entries_by c c' t smaller r.hosted r.others r.same ∙ ap (λ (es : List Entry). entry_count c.tenants + length es) new_trail

  -- there are more parts than the new trail has entries
  pub room : entry_count c'.tenants ≤ 256 * entry_limit → length fresh.trail < parts + back
  room few =
      let all = entries in
      let whole = d.whole in
      omega (arith, all, whole, brought, few)

  pub renewed : (left : ℕ) → left + length fresh.trail ≡ parts + back → IsDesk p c' left seats
  renewed left given =
      let seat : Option SessionSeat = get_or seats (8 * (t / p.cells) + 0) None in
      let longer = ap length new_trail in
      let grows : left + length (trails c' t) ≡ parts + length (trails c t) = omega (arith, given, brought, longer) in
      let as_was : (s : ℕ) → s < 8 → open_in c' t s ≡ open_in c t s = λ s below. sym (r.alike.sessions s (lt-ltb s 8 below)) in
      subst (λ (l : List (Option SessionSeat)). IsDesk p c' left l) (set-get_or seats (8 * (t / p.cells) + 0) None)
      (kept p c c' parts left seats t 0 seat d smaller r.hosted (omega arith) r.others r.same grows (λ s below apart. as_was s below)
      (subst (λ (b : Bool). SeatAt p.table (number_of p.cells t 0) b seat) (sym (as_was 0 (omega arith))) (d.seated t 0 r.hosted (omega arith))))
