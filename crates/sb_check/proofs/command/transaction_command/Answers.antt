use Rattle.std.proofs.Common.{[]}
use Rattle.sb_syntax.specs.Views as view
use Rattle.sb_check.specs.Resolved as resolved
use Rattle.sb_check.specs.Walk.{walk_query}
use Rattle.sb_check.proofs.Results.{refused_before}
use Rattle.sb_check.proofs.command.transaction_command.Goals as goal

pub returns-in-Err : goal.returns-in-Err
returns-in-Err g c =
    rw c.in-Query.is
    (refused_before (walk_query (g.S.Schema.names c.args.schema.now) (view.query c.in-Query.query.value) []) (λ w. w.0) (λ w. resolved.query w.0) c.in-Err.refusal (rw c.deref.ensures at c.in-Err.ensures))
