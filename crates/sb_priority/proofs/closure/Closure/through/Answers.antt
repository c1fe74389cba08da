use Rattle.std.proofs.Common.{◌≡◌, ◌∙◌, [], sym, get_or, arith, ◌&&◌, ◌||◌, ◌==◌}
use Rattle.std.proofs.lemmas.List.{get_or_read}
use Rattle.sb_value.specs.Flags.{flag_at}
use Rattle.sb_priority.specs.Closed.{relates, is_led}
use Rattle.sb_priority.proofs.RowClosure.{led_next}
use Rattle.sb_priority.proofs.closure.Closure.through.Goals as goal

pub loop-number-init : goal.loop-number-init
unfolding is_led
loop-number-init c a = c.empty-through.ensures.members a

pub loop-number-preserved : goal.loop-number-preserved
loop-number-preserved c a =
    let i = c.loop-number.number in
    let read : c.index-self-number.result ≡ get_or c.args.self.now i [] = get_or_read c.self.inside.before i c.index-self-number.result (omega arith) c.index-self-number.is [] ∙ (λ j. get_or (c.self.view_is j) i []) in
    led_next (flag_at c.args.row) (relates c.args.self.now a) a i (flag_at c.loop-number.through a) (flag_at c.led_too-through.result a) (c.loop-number.invariant a)
    (c.led_too-through.ensures a ∙ (λ j. flag_at c.loop-number.through a || (flag_at c.args.row (c.new.ensures j) && ((a == c.new.ensures j) || flag_at ((sym c.index-self-number.is ∙ read) j) a))))
