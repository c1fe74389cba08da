use Rattle.std.proofs.Common.{◌++◌, codes, ap, append_assoc, ◌∙◌}
use Rattle.sb_frontend.specs.Considerations.{listed}
use Rattle.sb_frontend.proofs.considered.push_considered.Goals as goal

pub returns : goal.returns
returns c =
    c.in_ok-push_list.ensures ∙ ap (λ t. t ++ listed c.args.considered.now) c.in_ok-extend_from_slice.ensures.items
    ∙ append_assoc c.args.out.now.items (codes "rules considered: ") (listed c.args.considered.now)
