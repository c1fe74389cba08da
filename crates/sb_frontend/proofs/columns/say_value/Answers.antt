use Rattle.std.proofs.Common.{[], ◌∷◌, Some}
use Rattle.sb_postgres.specs.Answers.{DataRow}
use Rattle.sb_frontend.specs.Columns.{column, heads}
use Rattle.sb_frontend.proofs.Saying.{says-then}
use Rattle.sb_frontend.proofs.columns.say_value.Goals as goal

pub returns : goal.returns
returns c =
    says-then (heads c.args.form (column c.args.name.now c.args.of ∷ [])) (DataRow (Some c.args.value.now ∷ []) ∷ []) c.args.out.now c.say_heading.new.out c.say.new.self c.say_heading.ensures c.say.ensures
