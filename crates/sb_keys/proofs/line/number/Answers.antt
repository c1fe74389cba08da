use Rattle.std.proofs.Common.{◌∙◌, sym}
use Rattle.sb_keys.proofs.Numbers.{no-plus, no-text, read-number}
use Rattle.sb_keys.proofs.line.number.Goals as goal

pub returns-then-digits-eq43 : goal.returns-then-digits-eq43
returns-then-digits-eq43 c = sym (no-plus c.args.digits.now c.if-digits-eq43.true)

pub returns-in-Ok : goal.returns-in-Ok
returns-in-Ok c =
    c.ok.ensures.value
    ∙ read-number c.args.digits.now c.parse.result (rw c.in-Ok.ensures.cases.0 at c.parse.ensures.value.0) c.if-digits-eq43.false c.if-digits-gt-DIGITS.false

pub returns-in-Err : goal.returns-in-Err
returns-in-Err c = sym (no-text c.args.digits.now c.in-Err.ensures.cases.0)
