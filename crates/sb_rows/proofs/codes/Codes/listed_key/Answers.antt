use Rattle.std.proofs.Common.{arith}
use Rattle.std.proofs.lemmas.Int.{ints}
use Rattle.sb_rows.proofs.CodeLaws.{contained}
use Rattle.sb_rows.proofs.codes.Codes.listed_key.Goals as goal

pub returns-then-before-reached-clause-listed : goal.returns-then-before-reached-clause-listed
returns-then-before-reached-clause-listed c =
    contained c.args.self.now c.args.text.now (omega (arith, ints, c.if-before-reached.true, c.code-before.ensures.count, c.reached-reached.ensures.count))
