use Rattle.std.proofs.Common.{◌≡◌, ℕ, ◌+◌, ◌*◌, ◌/◌, Bool, true, false, not, List, [], ◌∷◌, ◌++◌, Option, Ok, Some, None, is_some, refl, sym, ap, ◌∙◌, subst}
use Rattle.std.proofs.lemmas.Bool.{true≢false, not-false}
use Rattle.std.proofs.lemmas.Option.{same_Some}
use Rattle.sb_cell.specs.Tenants.{AnswersEvent, Cell}
use Rattle.sb_desk.specs.Desks.{in_transaction, open_in}
use Rattle.sb_desk.specs.Receipts.{Receipts, after, receipt}
use Rattle.sb_tenant.specs.Closing.{closes}
use Rattle.sb_desk.specs.Seats.{IsSeat, number_of}
use Rattle.sb_desk.proofs.DeskCalls.{closed_by, enough, full, given_back, opened, own, still_open, unbegun}
use Rattle.sb_desk.proofs.ReceiptSteps.{after_closing}
use Rattle.sb_desk.proofs.desk.Desk.enter.Goals as goal
use Rattle.sb_desk.proofs.desk.Desk.enter.Goals.{in-Some-1, in-None-1}

-- by whether the answer has a number
unnumbered : (o : Option ℕ) (b : Bool) → is_some o ≡ not b → b ≡ true → o ≡ None
unnumbered None b h e = refl
unnumbered (Some n) b h e = absurd (true≢false (h ∙ ap not e))

numbered : (o : Option ℕ) (b : Bool) → is_some o ≡ not b → b ≡ false → (n : ℕ) × (o ≡ Some n)
numbered None b h e = absurd (true≢false (sym (h ∙ ap not e)))
numbered (Some n) b h e = (n, refl)

-- the step wasn't begun
pub invariant_of-self : goal.invariant_of-self
invariant_of-self g c =
    let desk = unbegun _ _ _ _ _ c.tenant-tenant.result c.number.result _ c.self.invariant.2 c.self.invariant.0 (own _ c.tenant-tenant.ensures.is c.find_open.ensures.same.1 c.requires.own) c.tenant-tenant.ensures.below c.number.ensures.in_range c.in_default-step_line.field-0 c.in_default-step_line.ensures.step in
    (c.self.invariant.0, c.self.invariant.1, desk)

-- the trail is full
pub invariant_of-self-then-is_none : goal.invariant_of-self-then-is_none
invariant_of-self-then-is_none g c =
    let desk = full _ _ _ _ _ c.tenant-tenant.result c.number.result _ c.self.invariant.2 c.self.invariant.0 (own _ c.tenant-tenant.ensures.is c.find_open.ensures.same.1 c.requires.own) c.tenant-tenant.ensures.below c.number.ensures.in_range c.in-Ok.answer c.in-Ok.ensures.step (unnumbered _ _ c.is_none.ensures c.if-is_none.true) in
    (c.self.invariant.0, c.self.invariant.1, desk)

pub note-requires-clause-parts : goal.note-requires-clause-parts
note-requires-clause-parts g c =
    let has = numbered _ _ c.is_none.ensures c.if-is_none.false in
    enough _ _ _ _ _ c.tenant-tenant.result c.number.result _ c.self.invariant.2 c.self.invariant.0 (own _ c.tenant-tenant.ensures.is c.find_open.ensures.same.1 c.requires.own) c.tenant-tenant.ensures.below c.number.ensures.in_range c.in-Ok.answer has.0 c.in-Ok.ensures.step has.1 c.keeps_trails.ensures.few

-- the session is closed, and its seat is back
pub invariant_of-self-then-not-is_open-2 : goal.invariant_of-self-then-not-is_open-2
invariant_of-self-then-not-is_open-2 g c =
    let t = c.tenant-tenant.result in
    let s = c.session-session.result in
    let mine = own _ c.tenant-tenant.ensures.is c.find_open.ensures.same.1 c.requires.own in
    let did = subst (λ (x : ℕ). AnswersEvent c.self.inside.cell t x c.in-Some.line.now (Ok c.in-Ok.answer) c.step_line.new.self) c.number.ensures.value c.in-Ok.ensures.step in
    let has = numbered _ _ c.is_none.ensures c.if-is_none.false in
    let shut = sym c.is_open.ensures ∙ c.if-not-is_open.true in
    let place = c.seat_place-at.ensures ∙ ap (λ (n : ℕ). 8 * (t / n) + s) c.requires.cells in
    let tenant = ap (λ (r : Receipts). r.tenant) c.note.ensures.note.2 ∙ sym c.tenant-tenant.ensures.is in
    let session = ap (λ (r : Receipts). r.session) c.note.ensures.note.2 ∙ sym c.session-session.ensures.is in
    let seat = subst (λ (n : ℕ). IsSeat g.N.Naming.table n c.give_up_seat.result) (λ i. number_of g.N.Naming.cells (tenant i) (session i)) c.give_up_seat.ensures.seat in
    let desk = given_back _ _ _ _ _ t s _ c.self.invariant.2 c.self.invariant.0 mine c.tenant-tenant.ensures.below c.session-session.ensures.below c.in-Ok.answer has.0 did has.1 c.entries_open_and_close.ensures.others shut _ place _ seat _ c.note.ensures.part in
    (c.self.invariant.0, c.self.invariant.1, desk)

-- the session stays open, and keeps its seat
pub invariant_of-self-else-not-is_open : goal.invariant_of-self-else-not-is_open
invariant_of-self-else-not-is_open g c =
    let t = c.tenant-tenant.result in
    let s = c.session-session.result in
    let up = opened c.self.view_is c.tenant-tenant.ensures.is c.session-session.ensures.is c.find_open.ensures.same c.find_open.ensures.open in
    let mine = own _ c.tenant-tenant.ensures.is c.find_open.ensures.same.1 c.requires.own in
    let did = subst (λ (x : ℕ). AnswersEvent c.self.inside.cell t x c.in-Some.line.now (Ok c.in-Ok.answer) c.step_line.new.self) c.number.ensures.value c.in-Ok.ensures.step in
    let has = numbered _ _ c.is_none.ensures c.if-is_none.false in
    let desk = still_open _ _ _ _ _ t s _ c.self.invariant.2 c.self.invariant.0 mine c.tenant-tenant.ensures.below c.session-session.ensures.below c.in-Ok.answer has.0 did has.1 c.entries_open_and_close.ensures.others _ c.note.ensures.part up (sym c.is_open.ensures ∙ c.if-not-is_open.false) in
    (c.self.invariant.0, c.self.invariant.1, desk)

-- with its `end`
pub returns-then-not-is_open-clause-ok : goal.returns-then-not-is_open-clause-ok
returns-then-not-is_open-clause-ok g c =
    let t = c.tenant-tenant.result in
    let s = c.session-session.result in
    let r = c.find_open.ensures.same.1 in
    let tenant = c.tenant-tenant.ensures.is ∙ ap (λ (r : Receipts). r.tenant) r in
    let session = c.session-session.ensures.is ∙ ap (λ (r : Receipts). r.session) r in
    let cell = c.self.view_is ∙ c.find_open.ensures.same.0 in
    let up : open_in c.self.inside.cell t s ≡ true = (λ i. open_in (cell i) (tenant i) (session i)) ∙ c.find_open.ensures.open in
    let mine = own _ c.tenant-tenant.ensures.is r c.requires.own in
    let line = c.note.ensures.note.0 in
    let line_is : c.in-Some.line.now ≡ line = same_Some c.in-Some.line.now line (sym c.in-Some.ensures ∙ c.note.ensures.note.1) in
    let did : AnswersEvent c.self.inside.cell t s line (Ok c.in-Ok.answer) c.step_line.new.self = subst (λ (x : ℕ × List ℕ). AnswersEvent c.self.inside.cell t x.0 x.1 (Ok c.in-Ok.answer) c.step_line.new.self) (λ i. (c.number.ensures.value i, line_is i)) c.in-Ok.ensures.step in
    let has = numbered _ _ c.is_none.ensures c.if-is_none.false in
    let shut = sym c.is_open.ensures ∙ c.if-not-is_open.true in
    let closing : closes line c.in-Ok.answer.reply ≡ true = not-false _ (sym (closed_by _ _ _ _ _ t s _ c.self.invariant.2 c.self.invariant.0 mine c.tenant-tenant.ensures.below c.session-session.ensures.below c.in-Ok.answer has.0 did has.1 c.entries_open_and_close.ensures.ends up) ∙ shut) in
    let after_is : c.match-index_mut.self ≡ c.step_line.new.self = elim c.match-index_mut.branch [ in-Some-1 w ↦ w.self-is | in-None-1 w ↦ w.self-is ] in (
      line,
      c.in-Ok.answer,
      sym c.ended.ensures ∙ c.if-ended.false,
      ap (λ (r : Receipts). r.ready) (sym r) ∙ c.note.ensures.note.1,
      c.find_open.ensures.open,
      subst (λ (x : Cell × ℕ × ℕ × Cell). AnswersEvent x.0 x.1 x.2 line (Ok c.in-Ok.answer) x.3) (λ i. (cell i, tenant i, session i, sym after_is i)) did,
      after_closing c.args.r.now c.note.new.self c.give_up_seat.new.self line c.in-Ok.answer c.has_transaction-has_transaction.result has.0 has.1 closing (c.note.ensures.note.2 ∙ ap (λ (r : Receipts). record { tenant = r.tenant; session = r.session; list = r.list ++ receipt line c.in-Ok.answer ∷ []; ended = r.ended; has_transaction = c.has_transaction-has_transaction.result; ready = None; last = Some c.in-Ok.answer }) r) c.give_up_seat.ensures.ended
          ∙ ap (after c.args.r.now line c.in-Ok.answer) (c.has_transaction-has_transaction.ensures ∙ (λ i. in_transaction (sym after_is i) (tenant i) (session i))),
    )
