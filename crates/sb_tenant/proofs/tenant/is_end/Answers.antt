use Rattle.std.proofs.Common.{codes, arith}
use Rattle.sb_tenant.proofs.Tests.{other_length}
use Rattle.sb_tenant.proofs.tenant.is_end.Goals as goal

pub returns-in_default : goal.returns-in_default
returns-in_default c = other_length c.args.line.now (codes "end") (λ same. omega (arith, same, c.in_default.len_below))

pub returns-in_default-5 : goal.returns-in_default-5
returns-in_default-5 c = other_length c.args.line.now (codes "end") (λ same. omega (arith, same, c.in_default.len_at_least))
