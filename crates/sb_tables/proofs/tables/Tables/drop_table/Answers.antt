use Rattle.std.proofs.Common.{◌≡◌, ◌∙◌, ap, subst, sym, ℕ, List, not, nat_eq, map, rules}
use Rattle.indexmap.proofs.CallerLemmas.{filter-RetainsPairs}
use Rattle.sb_tables.specs.Held.{without_table}
use Rattle.sb_tables.specs.Filled.{held_in, AreFilled}
use Rattle.sb_tables.proofs.TablesHeld.{without, kept_without, view_without}
use Rattle.sb_tables.proofs.tables.Tables.drop_table.Goals as goal

-- the names of other tables are left
left : (c : goal.After-clear) → c.retain.new.self.entries ≡ without c.args.id c.self.inside.numbers.entries
left c =
    filter-RetainsPairs _ (λ (e : List ℕ × ℕ). not (nat_eq e.1 c.args.id)) _ (λ k v b w g h. search rules) c.self.inside.numbers.entries c.retain.new.self.entries c.retain.ensures.filtered

pub invariant_of-self : goal.invariant_of-self
invariant_of-self c =
    subst (λ es. AreFilled es c.clear.new.self) (sym (left c)) (kept_without c.self.inside.slots c.clear.new.self c.self.inside.numbers.entries c.args.id c.clear.ensures c.self.invariant)

pub returns : goal.returns
returns c =
    ap (map (held_in c.clear.new.self)) (left c) ∙ view_without c.self.inside.slots c.clear.new.self c.self.inside.numbers.entries c.args.id c.clear.ensures
    ∙ ap (without_table c.args.id) c.self.view_is
