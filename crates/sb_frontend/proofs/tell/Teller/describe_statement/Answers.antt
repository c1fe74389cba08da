use Rattle.std.proofs.Common.{[], ◌∷◌, refl, inl}
use Rattle.sb_postgres.specs.Answers.{NoData}
use Rattle.sb_frontend.specs.Extended.{TellsColumns}
use Rattle.sb_frontend.proofs.Saying.{says-some}
use Rattle.sb_frontend.proofs.tell.Teller.describe_statement.Goals as goal

pub returns-in-None : goal.returns-in-None
returns-in-None g c = says-some TellsColumns (NoData ∷ []) c.args.out.now c.say.new.self (inl refl) c.say.ensures
