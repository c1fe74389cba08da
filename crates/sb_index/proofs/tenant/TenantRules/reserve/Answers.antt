use Rattle.std.proofs.Common.{◌∙◌, ap, sym, List}
use Rattle.sb_index.specs.TableSets.{TableSets}
use Rattle.sb_index.specs.Stands.{in_table, in_tenant, no_table}
use Rattle.sb_index.proofs.Columns.{none_in, one_more}
use Rattle.sb_index.proofs.tenant.TenantRules.reserve.Goals as goal

-- one more table has no rules
pub loop-table-preserved : goal.loop-table-preserved
loop-table-preserved c t o r =
    ap (λ (tables : List TableSets). in_tenant tables t o r) c.in_ok-push.ensures.items
    ∙ one_more (λ (x : TableSets). in_table x o r) c.loop-table.self-inside.tables.items t c.none.result no_table (c.none.ensures o r ∙ sym (none_in o r))
    ∙ c.loop-table.invariant t o r
