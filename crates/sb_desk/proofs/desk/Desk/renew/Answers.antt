use Rattle.std.proofs.Common.{◌≡◌, ◌<◌, ◌≤◌, ◌+◌, ℕ, length, List, Option, refl, sym, ap, ◌∙◌, subst, arith}
use Rattle.sb_tenant.specs.declared.reply.Entry.{Entry}
use Rattle.sb_tenant.specs.Limits.{entry_limit}
use Rattle.sb_tenant.specs.Tenant.{Tenant}
use Rattle.sb_cell.specs.Hosting.{entry_count}
use Rattle.sb_cell.specs.Renewal.{IsNotRenewed, Renews}
use Rattle.sb_cell.specs.Tenants.{Cell, trails}
use Rattle.sb_desk.specs.Kept.{IsDesk, Place}
use Rattle.sb_desk.specs.Seats.{SessionSeat}
use Rattle.sb_desk.proofs.DeskRenewals.{renewed, room}
use Rattle.sb_desk.proofs.desk.Desk.renew.Given.{Over}
use Rattle.sb_desk.proofs.desk.Desk.renew.Goals as goal

abbrev place : Over → Place
place g = record { table = g.N.Naming.table; tenants = g.N.Naming.tenants; cells = g.N.Naming.cells; bound = g.N.Naming.bound; first = g.row.FIRST }

-- the number of its class is below the cells' number, as it is afterwards
below : (c c' : Cell) (was fresh : Tenant) → Renews c was fresh c' → c'.first < c'.stride → c.first < c.stride
below c c' was fresh r after = let first = r.same.0 in let stride = r.same.1 in omega (arith, first, stride, after)

-- as many parts come as the trail that ends has entries
brought : (c cell : Cell) (fresh : Tenant) (parts : ℕ) → cell ≡ c → parts ≡ length (trails c fresh.id) → parts ≡ length (trails cell fresh.id)
brought c cell fresh parts same given = given ∙ ap (λ (x : Cell). length (trails x fresh.id)) (sym same)

pub split_off-parts-requires-clause-has_parts : goal.split_off-parts-requires-clause-has_parts
split_off-parts-requires-clause-has_parts g c =
    let r = c.in-Ok.ensures.ok in
    let less = room (place g) c.self.inside.cell c.renew.new.self c.self.inside.share.parts c.self.inside.seats.items c.args.fresh c.in-Ok.old c.self.invariant.2
    (below _ _ c.in-Ok.old c.args.fresh r c.keeps_trails.ensures.first) r c.args.parts.parts (brought _ _ c.args.fresh _ c.self.view_is c.requires) c.keeps_trails.ensures.few in
    let long = ap length c.trail.ensures.value in
    let all = c.merge.ensures.parts in
    omega (arith, less, long, all)

pub split_off-parts-requires-clause-left_backed : goal.split_off-parts-requires-clause-left_backed
split_off-parts-requires-clause-left_backed g c = λ same.
    let r = c.in-Ok.ensures.ok in
    let less = room (place g) c.self.inside.cell c.renew.new.self c.self.inside.share.parts c.self.inside.seats.items c.args.fresh c.in-Ok.old c.self.invariant.2
    (below _ _ c.in-Ok.old c.args.fresh r c.keeps_trails.ensures.first) r c.args.parts.parts (brought _ _ c.args.fresh _ c.self.view_is c.requires) c.keeps_trails.ensures.few in
    let long = ap length c.trail.ensures.value in
    let all = c.merge.ensures.parts in
    absurd (omega (arith, less, long, all, same))

pub invariant_of-self : goal.invariant_of-self
invariant_of-self g c =
    let r = c.in-Ok.ensures.ok in
    let long = ap length c.trail.ensures.value in
    let all = c.merge.ensures.parts in
    let rest = c.split_off-parts.ensures.parts_left in
    let desk = renewed (place g) c.self.inside.cell c.renew.new.self c.self.inside.share.parts c.self.inside.seats.items c.args.fresh c.in-Ok.old c.self.invariant.2
    (below _ _ c.in-Ok.old c.args.fresh r c.keeps_trails.ensures.first) r c.args.parts.parts (brought _ _ c.args.fresh _ c.self.view_is c.requires) c.split_off-parts.new.self.parts (omega (arith, long, all, rest)) in
    (c.self.invariant.0, c.self.invariant.1, desk)

-- a refusal leaves the cell
pub returns-in-Err-clause-err : goal.returns-in-Err-clause-err
returns-in-Err-clause-err g c =
    let e = c.in-Err.ensures.err in
    (e.0 ∙ c.self.view_is, e.1, subst (λ (x : Cell). IsNotRenewed x c.args.fresh c.in-Err.refused.error) c.self.view_is e.2, refl)
