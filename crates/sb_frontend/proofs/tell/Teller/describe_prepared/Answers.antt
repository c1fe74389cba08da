use Rattle.std.proofs.Common.{ℕ, List, [], ◌∷◌, ap, subst, ◌∙◌}
use Rattle.sb_postgres.specs.Answers.{ParameterDescription}
use Rattle.sb_frontend.specs.Outputs.{Says}
use Rattle.sb_frontend.specs.Portals.{Prepared}
use Rattle.sb_frontend.proofs.Extending.{prepared-then}
use Rattle.sb_frontend.proofs.tell.Teller.describe_prepared.Goals as goal

pub returns : goal.returns
returns g c =
    let types = c.deref.ensures.value ∙ ap (λ (p : Prepared). p.types) c.prepared.view_is in
    let says = subst (λ (ts : List ℕ). Says (ParameterDescription ts ∷ []) c.args.out.now c.say.new.self) types c.say.ensures in
    prepared-then c.args.prepared.now c.args.out.now c.say.new.self c.describe_statement.new.out says c.describe_statement.ensures
