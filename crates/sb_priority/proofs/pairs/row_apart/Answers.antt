use Rattle.std.proofs.Common.{◌∙◌, sym}
use Rattle.sb_value.specs.Flags.{flag_at}
use Rattle.sb_priority.proofs.RowLaws.{apart_own, apart_listed, apart_other}
use Rattle.sb_priority.proofs.pairs.row_apart.Goals as goal

pub returns-then-eq : goal.returns-then-eq
returns-then-eq c a = c.row_less.ensures a ∙ apart_own (flag_at c.args.row a) c.args.rule c.args.others.now a c.args.second (sym c.eq.ensures ∙ c.if-eq.true)

pub returns-then-is_listed : goal.returns-then-is_listed
returns-then-is_listed c a = c.without.ensures.members a ∙ apart_listed (flag_at c.args.row a) c.args.rule c.args.others.now a c.args.second (sym c.eq.ensures ∙ c.if-eq.false) (sym c.is_listed.ensures ∙ c.if-is_listed.true)

pub returns-else-is_listed : goal.returns-else-is_listed
returns-else-is_listed c a = apart_other (flag_at c.args.row a) c.args.rule c.args.others.now a c.args.second (sym c.eq.ensures ∙ c.if-eq.false) (sym c.is_listed.ensures ∙ c.if-is_listed.false)
