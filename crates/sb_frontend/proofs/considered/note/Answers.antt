use Rattle.std.proofs.Common.{sym, ◌∙◌}
use Rattle.std.proofs.lemmas.Bool.{eqb-true}
use Rattle.sb_frontend.proofs.Stepless.{no_notices}
use Rattle.sb_frontend.proofs.considered.note.Goals as goal

pub returns-then-is_empty : goal.returns-then-is_empty
returns-then-is_empty c = no_notices c.args.considered.now c.args.out.now (eqb-true _ _ (sym c.is_empty.ensures ∙ c.if-is_empty.true))
