use Rattle.std.proofs.Common.{sym, subst}
use Rattle.sb_eval.specs.Chain.{AreUndecided}
use Rattle.sb_eval.specs.declared.chain.Chain.{Chain}
use Rattle.sb_eval.proofs.Asking.{undecided-and, undecided-or}
use Rattle.sb_eval.proofs.chain.Chain.undecided.Goals as goal

pub returns-in-Or : goal.returns-in-Or
returns-in-Or c =
    let P : Chain → Type 0 = λ chain. AreUndecided chain c.args.asked.now c.args.found.now c.both.result in
    subst P (sym c.in-Or.is) (undecided-or c.args.asked.now c.args.found.now c.negated.result c.both.result c.requires c.negated.ensures c.both.ensures)

pub returns-in-And : goal.returns-in-And
returns-in-And c =
    let P : Chain → Type 0 = λ chain. AreUndecided chain c.args.asked.now c.args.found.now c.both-in-And.result in
    subst P (sym c.in-And.is) (undecided-and c.args.asked.now c.args.found.now c.both-in-And.result c.requires c.both-in-And.ensures)
