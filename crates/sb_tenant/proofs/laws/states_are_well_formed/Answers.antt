use Rattle.sb_tenant.proofs.StateLists.{states_are_well_formed}
use Rattle.sb_tenant.proofs.laws.states_are_well_formed.Goals as goal

pub returns : goal.returns
returns c =
    states_are_well_formed c.changes_are_proper.ensures
    (record { statements = c.resolved_tables_are_there.ensures.statements; rules = c.resolved_tables_are_there.ensures.rules; alterations = c.resolved_tables_are_there.ensures.alterations })
