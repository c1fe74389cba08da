use Rattle.std.proofs.Common.{◌≡◌, ℕ, get_or, not, ◌&&◌, ◌==◌, ◌<◌, ◌≤◌}
use Rattle.sb_index.specs.Operation.{Operation}
use Rattle.sb_index.specs.Stands.{in_table, no_table}
use Rattle.sb_index.proofs.tenant.TenantRules.drop_rule.Given as goal

-- the tables that were passed lack the rule, and the others are as they were
abbrev pub invariant-loop-table : goal.invariant-loop-table
invariant-loop-table l = record {
  lacking : (t : ℕ) (o : Operation) (r : ℕ) → t < l.table-index → in_table (get_or l.table-items t no_table) o r ≡ (in_table (get_or l.initial.table-items t no_table) o r && not (r == l.rule));
  kept : (t : ℕ) → l.table-index ≤ t → get_or l.table-items t no_table ≡ get_or l.initial.table-items t no_table;
}
