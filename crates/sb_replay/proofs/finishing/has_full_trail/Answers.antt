use Rattle.std.proofs.Common.{List, length, leb, sym, ap, ◌∙◌}
use Rattle.sb_tenant.specs.declared.reply.Entry.{Entry}
use Rattle.sb_host.specs.Rows.{row_past, row_read}
use Rattle.sb_replay.proofs.finishing.has_full_trail.Goals as goal
use Rattle.sb_tenant.specs.Limits.{trail_limit}

pub returns-then-at-trails : goal.returns-then-at-trails
returns-then-at-trails c = ap (λ (l : List Entry). leb trail_limit (length l)) (sym (row_past c.args.trails.now c.args.tenant c.if-at-trails.true))

pub returns : goal.returns
returns c =
    let trail = c.index-trails-at.result in
    ap (leb trail_limit) (c.len.ensures ∙ trail.ok.0 ∙ ap length (sym (row_read c.args.trails.now c.args.tenant trail c.if-at-trails.false c.index-trails-at.is)))
