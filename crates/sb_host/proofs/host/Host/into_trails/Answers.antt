use Rattle.std.proofs.Common.{arith, rules, subst, ℕ}
use Rattle.sb_host.specs.Finish.{AreTrails}
use Rattle.sb_host.proofs.Trails.{all_trails}
use Rattle.sb_host.proofs.host.Host.into_trails.Goals as goal

-- sixteen cells are all that there are
pub returns-clause-trails : goal.returns-clause-trails
returns-clause-trails g c =
    subst (λ (tenants : ℕ). AreTrails g.N.Naming.bound tenants c.put-4.new.trails.items) (search rules)
    (all_trails g.N.Naming.cells g.N.Naming.bound g.N.Naming.tenants 16 c.put-4.new.trails.items c.put-4.new.volumes.items (search rules) (search rules) c.put-4.ensures)
