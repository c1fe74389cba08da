use Rattle.std.proofs.Common.{arith}
use Rattle.sb_value.proofs.FlagLaws.{none-from, first-from, flag_at-beyond}
use Rattle.sb_value.proofs.rule_set.first_in.Goals as goal

pub returns-then-place-ge-WORD_SIZE : goal.returns-then-place-ge-WORD_SIZE
returns-then-place-ge-WORD_SIZE c k from = flag_at-beyond 64 k c.args.word (omega (arith, from, c.if-place-ge-WORD_SIZE.true))

pub returns-then-rest-eq0 : goal.returns-then-rest-eq0
returns-then-rest-eq0 c k from = none-from c.args.word c.args.place c.if-rest-eq0.true k from

pub returns : goal.returns
returns c = first-from c.args.word c.args.place c.ranges.word.fits (omega (arith, c.if-rest-eq0.false))
