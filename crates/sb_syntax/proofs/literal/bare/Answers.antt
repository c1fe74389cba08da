use Rattle.std.proofs.Common.{ap, sym, ◌∙◌, length, arith}
use Rattle.std.specs.List.{list_all}
use Rattle.sb_syntax.specs.Plain.{is_bare}
use Rattle.sb_syntax.proofs.Plain.{bare_is}
use Rattle.sb_syntax.proofs.literal.bare.Goals as goal

pub returns : goal.returns
returns c =
    let short = c.if-plain-gt-TEXT_LIMIT.false in
    let same = c.in_ok-copied.ensures ∙ c.inside-plain.ensures in
    bare_is c.args.quoted.now _ same (omega (arith, short, ap (length {A = _}) c.in_ok-copied.ensures)) (ap (list_all is_bare) (sym c.inside-plain.ensures) ∙ sym c.all_bare.ensures ∙ c.if-not-all_bare.false)
