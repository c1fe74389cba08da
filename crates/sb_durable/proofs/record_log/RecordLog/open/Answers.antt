use Rattle.std.proofs.Common.{List, ℕ, take, sym, subst}
use Rattle.sb_durable.specs.Blocks.{Stands}
use Rattle.sb_durable.proofs.Shortened.{shortened}
use Rattle.sb_durable.proofs.record_log.RecordLog.open.Goals as goal

pub returns-in-Err-clause-damaged : goal.returns-in-Err-clause-damaged
returns-in-Err-clause-damaged g c = c.in-Err.ensures.damaged

pub returns-in-Err-clause-cut : goal.returns-in-Err-clause-cut
returns-in-Err-clause-cut g c is clean contents file n stands cut =
    let first = shortened n contents file stands in
    c.in-Err.ensures.damaged is clean (take first.0 contents) (subst (λ (f : List ℕ). Stands (take first.0 contents) f) (sym cut) first.1)
