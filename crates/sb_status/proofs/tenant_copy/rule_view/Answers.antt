use Rattle.sb_status.proofs.tenant_copy.rule_view.Goals as goal

pub returns : goal.returns
returns c = record { name = c.in_ok-copied.ensures; line = c.in_ok-create_line.ensures }
