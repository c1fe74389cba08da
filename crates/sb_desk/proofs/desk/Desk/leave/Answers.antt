use Rattle.std.proofs.Common.{◌≡◌, ◌+◌, ◌*◌, ◌/◌, ℕ, false, not, sym, ap, ◌∙◌, subst}
use Rattle.std.specs.Prelude.{codes}
use Rattle.sb_desk.specs.Desks.{open_in}
use Rattle.sb_tenant.specs.Closing.{closes}
use Rattle.sb_desk.specs.Seats.{IsSeat, number_of}
use Rattle.sb_desk.proofs.DeskCalls.{closed_by, end_closes, enough, given_back, opened, own}
use Rattle.sb_desk.proofs.desk.Desk.leave.Goals as goal

pub note_end-requires-clause-parts : goal.note_end-requires-clause-parts
note_end-requires-clause-parts g c = enough _ _ _ _ _ c.tenant-tenant.result c.session-session.result _ c.self.invariant.2 c.self.invariant.0 (own _ c.tenant-tenant.ensures.is c.find_open.ensures.same.1 c.requires.own) c.tenant-tenant.ensures.below c.session-session.ensures.below c.end-answer.result c.in-Some.number c.end-answer.ensures.step c.in-Some.is c.keeps_trails.ensures.few

-- the session is closed, and its seat is back
pub invariant_of-self : goal.invariant_of-self
invariant_of-self g c =
    let t = c.tenant-tenant.result in
    let s = c.session-session.result in
    let up = opened c.self.view_is c.tenant-tenant.ensures.is c.session-session.ensures.is c.find_open.ensures.same c.find_open.ensures.open in
    let mine = own _ c.tenant-tenant.ensures.is c.find_open.ensures.same.1 c.requires.own in
    let did = c.end-answer.ensures.step in
    let shut : open_in c.end-answer.new.self t s ≡ false = closed_by _ _ _ _ _ t s _ c.self.invariant.2 c.self.invariant.0 mine c.tenant-tenant.ensures.below c.session-session.ensures.below c.end-answer.result c.in-Some.number did c.in-Some.is c.entries_open_and_close.ensures.ends up ∙ ap not (ap (closes (codes "end")) c.end-answer.ensures.ok ∙ end_closes) in
    let place = c.seat_place-at.ensures ∙ ap (λ (n : ℕ). 8 * (t / n) + s) c.requires.cells in
    let seat = subst (λ (n : ℕ). IsSeat g.N.Naming.table n c.note_end.result) (λ i. number_of g.N.Naming.cells (sym c.tenant-tenant.ensures.is i) (sym c.session-session.ensures.is i)) c.note_end.ensures.seat in
    let desk = given_back _ _ _ _ _ t s _ c.self.invariant.2 c.self.invariant.0 mine c.tenant-tenant.ensures.below c.session-session.ensures.below c.end-answer.result c.in-Some.number did c.in-Some.is c.entries_open_and_close.ensures.others shut _ place _ seat _ c.note_end.ensures.part in
    (c.self.invariant.0, c.self.invariant.1, desk)
