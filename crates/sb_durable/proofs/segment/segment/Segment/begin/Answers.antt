use Rattle.std.proofs.Common.{List, ℕ, inl, inr, ap, arith, refl, get_or}
use Rattle.sb_durable.specs.Head.{Head, IsHead}
use Rattle.sb_durable.proofs.Begun.{begun_has, head_left}
use Rattle.sb_durable.proofs.segment.segment.Segment.begin.Goals as goal

pub returns-in-Ok-clause-ok : goal.returns-in-Ok-clause-ok
returns-in-Ok-clause-ok g c clean =
    let head : Head = record { number = c.args.number; before = c.args.before; settings = c.args.settings.now } in
    let fits : IsHead head = (c.ranges.number.fits, c.ranges.before.fits, c.requires.settings) in
    begun_has _ _ _ head fits c.in-Ok.ensures.begun (record { gate = 70; opened = omega arith; whole = c.in-Ok.ensures.ok clean }) c.in-Ok.ensures.durable (omega (arith, c.len.ensures, c.in-Ok.beginning.settings.ok.0)) refl refl

pub returns-in-Ok-clause-any_moment : goal.returns-in-Ok-clause-any_moment
returns-in-Ok-clause-any_moment g c clean only unbegun file left =
    let head : Head = record { number = c.args.number; before = c.args.before; settings = c.args.settings.now } in
    let fits : IsHead head = (c.ranges.number.fits, c.ranges.before.fits, c.requires.settings) in
    elim (c.in-Ok.ensures.any_moment clean only unbegun file left) [ inl none ↦ inl none | inr whole ↦ inr (head_left head file fits whole) ]

pub returns-in-Err-clause-any_moment_err : goal.returns-in-Err-clause-any_moment_err
returns-in-Err-clause-any_moment_err g c clean only unbegun file left =
    let head : Head = record { number = c.args.number; before = c.args.before; settings = c.args.settings.now } in
    let fits : IsHead head = (c.ranges.number.fits, c.ranges.before.fits, c.requires.settings) in
    elim (c.in-Err.ensures.any_moment clean only unbegun file left) [ inl none ↦ inl none | inr whole ↦ inr (head_left head file fits whole) ]

pub returns-in-Ok-clause-gate : goal.returns-in-Ok-clause-gate
returns-in-Ok-clause-gate g c clean = ap (λ (l : List ℕ). get_or l 0 0) (c.in-Ok.ensures.ok clean)
