use Rattle.std.proofs.Common.{[], ◌∷◌, refl, inl, inr}
use Rattle.sb_postgres.specs.Answers.{NoData}
use Rattle.sb_frontend.specs.Extended.{TellsColumns}
use Rattle.sb_frontend.proofs.Saying.{says-some}
use Rattle.sb_frontend.proofs.description.say_headings.Goals as goal

pub returns-then-is_empty : goal.returns-then-is_empty
returns-then-is_empty c = says-some TellsColumns (NoData ∷ []) c.args.out.now c.say.new.self (inl refl) c.say.ensures

pub returns-else-is_empty : goal.returns-else-is_empty
returns-else-is_empty c = says-some TellsColumns _ c.args.out.now c.say_description.new.out (inr (_, refl)) c.say_description.ensures
