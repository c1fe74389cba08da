use Rattle.std.proofs.Common.{sym, subst}
use Rattle.sb_eval.specs.Chain.{AreJoined}
use Rattle.sb_eval.specs.declared.chain.Chain.{Chain}
use Rattle.sb_eval.proofs.Asking.{joined-and, joined-or}
use Rattle.sb_eval.proofs.chain.Chain.joined.Goals as goal

pub returns-in-Or : goal.returns-in-Or
returns-in-Or c =
    let P : Chain → Type 0 = λ chain. AreJoined chain c.args.one.now c.args.two.now c.either.result in
    subst P (sym c.in-Or.is) (joined-or c.args.one.now c.args.two.now c.either.result c.requires c.either.ensures)

pub returns-in-And : goal.returns-in-And
returns-in-And c =
    let P : Chain → Type 0 = λ chain. AreJoined chain c.args.one.now c.args.two.now c.both.result in
    subst P (sym c.in-And.is) (joined-and c.args.one.now c.args.two.now c.both.result c.requires c.both.ensures)
