use Rattle.std.proofs.Common.{refl}
use Rattle.sb_host.proofs.Renewals.{kept_rows}
use Rattle.sb_host.proofs.host.Host.renew_volume.Goals as goal

pub returns-in_default-clause-back : goal.returns-in_default-clause-back
returns-in_default-clause-back g c = (refl, kept_rows c.args.stubs)
