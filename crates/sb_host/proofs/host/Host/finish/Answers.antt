use Rattle.sb_host.proofs.Closing.{finishes}
use Rattle.sb_host.proofs.host.Host.finish.Goals as goal

pub returns-in-Ok : goal.returns-in-Ok
returns-in-Ok g c = finishes g.N.Naming.bound c.args.self c.args.stubs.items c.in-Ok.trails.items c.in-Ok.volumes.items c.audit.result c.in-Ok.ensures.trails c.in-Ok.ensures.volumes c.audit.ensures
