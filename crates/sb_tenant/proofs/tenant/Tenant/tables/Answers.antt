use Rattle.std.proofs.Common.{◌∙◌, ap}
use Rattle.sb_tenant.specs.Remembered.{seen}
use Rattle.sb_tenant.specs.State.{tables_seen}
use Rattle.sb_tenant.specs.Tenant.{state}
use Rattle.sb_tenant.proofs.Tables.{entries_seen}
use Rattle.sb_tenant.proofs.tenant.Tenant.tables.Goals as goal

pub returns : goal.returns
returns c =
    entries_seen c.self.invariant.holds.0 c.self.inside.store (state (seen c.self.inside)) c.self.invariant.holds.1 ∙ ap (λ t. tables_seen (state t)) c.self.view_is
