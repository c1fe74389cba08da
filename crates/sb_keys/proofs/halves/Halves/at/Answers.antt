use Rattle.std.proofs.Common.{sym, arith}
use Rattle.std.proofs.lemmas.List.{drop_all, take_all, take_rest}
use Rattle.sb_keys.proofs.Cuts.{first_at, nowhere}
use Rattle.sb_keys.proofs.halves.Halves.at.Goals as goal

pub returns-in-Some-clause-before : goal.returns-in-Some-clause-before
returns-in-Some-clause-before c = rw (first_at c.args.byte c.args.text.now c.in-Some.place c.in-Some.ensures)

pub returns-in-Some-clause-behind : goal.returns-in-Some-clause-behind
returns-in-Some-clause-behind c = rw (first_at c.args.byte c.args.text.now c.in-Some.place c.in-Some.ensures) (take_rest c.args.text.now _)

pub returns-in-None-clause-before : goal.returns-in-None-clause-before
returns-in-None-clause-before c = rw (nowhere c.args.byte c.args.text.now c.in-None.ensures) (sym (take_all _ c.args.text.now (omega arith)))

pub returns-in-None-clause-behind : goal.returns-in-None-clause-behind
returns-in-None-clause-behind c = rw (nowhere c.args.byte c.args.text.now c.in-None.ensures) (sym (drop_all _ c.args.text.now (omega arith)))
