use Rattle.std.proofs.Common.{ℕ, List, subst}
use Rattle.sb_postgres.specs.Templates.{Counts}
use Rattle.sb_frontend.proofs.Preparing.{not-counted}
use Rattle.sb_frontend.proofs.prepare.typed.Goals as goal

pub returns-in-Err : goal.returns-in-Err
returns-in-Err g c =
    let line = c.args.statement.line.items in
    let counts = subst (λ (bytes : List ℕ). Counts bytes c.parameters_of.result) c.as_slice.ensures.value c.parameters_of.ensures in
    not-counted line c.args.given.now c.in-Err.error c.parameters_of.result c.of_fill.result counts c.in-Err.is c.of_fill.ensures
