use Rattle.std.proofs.Common.{◌++◌, List, ℕ, [], drop, ◌∙◌, ap, sym, subst, append-nil, take-append-drop}
use Rattle.sb_durable.specs.Head.{Head, Stands}
use Rattle.sb_durable.specs.Segment.{IsBehind, head_in}
use Rattle.sb_durable.proofs.segment.segment.Segment.open.Goals as goal

pub returns-in-Ok-clause-ok : goal.returns-in-Ok-clause-ok
returns-in-Ok-clause-ok g c clean head contents stands =
    let found = c.in-Ok.ensures.found clean head contents stands in
    let here = head_in c.in-Ok.beginning in (
      found.0,
      record {
        stands = subst (λ (f : List ℕ). Stands here contents f) (sym c.survey.ensures.seen) (subst (λ (h : Head). Stands h contents (g.D.Disk.seen c.args.device)) (sym found.0) stands);
        own = c.in-Ok.ensures.bears.own;
        end = subst (λ (h : Head). IsBehind h contents c.in-Ok.end) (sym found.0) found.1;
      },
    )

pub returns-in-Err-clause-damaged : goal.returns-in-Err-clause-damaged
returns-in-Err-clause-damaged g c is clean head contents stands =
    c.in-Err.ensures.cut is clean head contents [] (subst (λ (f : List ℕ). Stands head contents f) (sym (append-nil (g.D.Disk.seen c.args.device))) stands)

pub returns-in-Err-clause-cut : goal.returns-in-Err-clause-cut
returns-in-Err-clause-cut g c is clean head contents file n stands cut =
    c.in-Err.ensures.cut is clean head contents (drop n file) (subst (λ (f : List ℕ). Stands head contents f) (sym (ap (λ (l : List ℕ). l ++ drop n file) cut ∙ take-append-drop n file)) stands)
