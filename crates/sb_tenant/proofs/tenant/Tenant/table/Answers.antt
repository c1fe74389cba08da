use Rattle.std.proofs.Common.{◌∙◌, ap}
use Rattle.sb_tenant.specs.Remembered.{seen}
use Rattle.sb_tenant.specs.State.{table_seen}
use Rattle.sb_tenant.specs.Tenant.{state}
use Rattle.sb_tenant.proofs.Tables.{found}
use Rattle.sb_tenant.proofs.tenant.Tenant.table.Goals as goal

pub returns : goal.returns
returns c =
    found c.self.invariant.holds.0 c.self.inside.store (state (seen c.self.inside)) c.self.invariant.holds.1 c.args.name.now _ c.by_name.ensures ∙ ap (λ t. table_seen (state t) c.args.name.now) c.self.view_is
