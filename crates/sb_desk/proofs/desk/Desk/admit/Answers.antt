use Rattle.std.proofs.Common.{◌≡◌, ◌+◌, ◌*◌, ◌/◌, ◌<◌, ℕ, ap, ◌∙◌, arith}
use Rattle.std.specs.Prelude.{codes}
use Rattle.sb_desk.proofs.DeskCalls.{admitted, enough, unbegun}
use Rattle.sb_desk.proofs.desk.Desk.admit.Given.{Over}
use Rattle.sb_desk.proofs.desk.Desk.admit.Goals as goal

below : (s n : ℕ) → n ≡ s → n < 8 → s < 8
below s n is h = omega arith

many : (g : Over) (c : goal.After-split_off-arg-1 g) → 1 < c.self.inside.share.parts
many g c = enough _ _ _ _ _ c.args.tenant c.args.session _ c.self.invariant.2 c.self.invariant.0 c.requires.hosts.1 c.requires.hosts.0 (below _ _ c.number-number.ensures.value c.number-number.ensures.in_range) c.in-Ok-open.answer c.in-Some.number c.in-Ok-open.ensures.step c.in-Some.is c.keeps_trails.ensures.few

pub split_off-share-requires-clause-has_parts : goal.split_off-share-requires-clause-has_parts
split_off-share-requires-clause-has_parts g c = let more = many g c in omega (arith, more)

pub split_off-share-requires-clause-left_backed : goal.split_off-share-requires-clause-left_backed
split_off-share-requires-clause-left_backed g c = λ one. let more = many g c in absurd (omega (arith, more, one))

-- the step wasn't begun
pub invariant_of-self : goal.invariant_of-self
invariant_of-self g c =
    let desk = unbegun _ _ _ _ _ c.args.tenant c.args.session _ c.self.invariant.2 c.self.invariant.0 c.requires.hosts.1 c.requires.hosts.0 (below _ _ c.number-number.ensures.value c.number-number.ensures.in_range) c.in_default-open.field-0 c.in_default-open.ensures.step in
    (c.self.invariant.0, c.self.invariant.1, desk)

-- the session is open, and has its seat
pub invariant_of-self-2 : goal.invariant_of-self-2
invariant_of-self-2 g c =
    let place = c.seat_place-at.ensures ∙ ap (λ (n : ℕ). 8 * (c.args.tenant / n) + c.args.session) c.requires.cells in
    let desk = admitted _ _ _ _ _ c.args.tenant c.args.session _ c.self.invariant.2 c.self.invariant.0 c.requires.hosts.1 c.requires.hosts.0 (below _ _ c.number-number.ensures.value c.number-number.ensures.in_range) c.in-Ok-open.answer c.in-Some.number c.in-Ok-open.ensures.step c.in-Some.is c.entries_open_and_close.ensures.others c.entries_open_and_close.ensures.own (λ i. codes "open") c.in-Ok-open.ensures.ok _ place _ c.take.ensures.after _ c.split_off-share.ensures.parts_left in
    (c.self.invariant.0, c.self.invariant.1, desk)
