use Rattle.std.proofs.Common.{◌≡◌, ◌∙◌, ap, sym, List, [], Bool, get_or}
use Rattle.std.proofs.lemmas.List.{get_or_past}
use Rattle.sb_value.specs.Flags.{flag_at}
use Rattle.sb_value.specs.Laws.{kind_triggers}
use Rattle.sb_index.specs.TableSets.{TableSets}
use Rattle.sb_index.specs.Stands.{triggers_in, no_table}
use Rattle.sb_index.proofs.Columns.{none_triggered}
use Rattle.sb_index.proofs.index.RuleIndex.candidates.Goals as goal

-- past the last tenant there are no rules
pub returns-in-None : goal.returns-in-None
returns-in-None c r =
    let past : get_or c.args.self.now c.args.change.now.tenant [] ≡ [] =
    (λ i. get_or (sym (c.deref.ensures.value ∙ c.self.view_is) i) (sym c.index.ensures.value i) [])
    ∙ get_or_past c.deref.result.now c.index.result [] c.in-None.ensures.lookup.3 in
    c.empty.ensures.members r
    ∙ sym (ap (λ (ts : List TableSets). kind_triggers c.args.change.now.kind (triggers_in (get_or ts c.args.change.now.table no_table) r) c.args.change.now) past ∙ none_triggered c.args.change.now.kind c.args.change.now r)
