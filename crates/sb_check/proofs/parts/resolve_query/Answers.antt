use Rattle.std.proofs.Common.{ap, []}
use Rattle.std.specs.Prelude.{Ok}
use Rattle.sb_syntax.specs.Views.{query}
use Rattle.sb_check.specs.Condition.{Query}
use Rattle.sb_check.specs.Names.{and_then}
use Rattle.sb_check.specs.Parts.{query_walk}
use Rattle.sb_check.specs.Walked.{walked}
use Rattle.sb_check.proofs.Results.{answers-err_then}
use Rattle.sb_check.proofs.parts.resolve_query.Goals as goal

pub returns-in-Ok : goal.returns-in-Ok
unfolding query_walk
returns-in-Ok g c = rw c.into_inner.ensures (ap (λ r. and_then {B = Query} r (λ w. Ok w.0)) c.in-Ok.ensures)

pub returns-in-Err : goal.returns-in-Err
unfolding query_walk
returns-in-Err g c =
    rw c.refusal.ensures
    (answers-err_then walked (λ (q : Query). q) (query_walk (g.S.Schema.names c.args.schema.now) (query c.args.text.now) []) (λ w. Ok w.0) c.in-Err.fault c.in-Err.ensures)
