use Rattle.std.proofs.Common.{◌∙◌, ap, sym}
use Rattle.sb_value.specs.Laws.{kind_triggers}
use Rattle.sb_value.specs.NetEffect.{update_between, is_operation}
use Rattle.sb_value.specs.declared.change.ChangeKind.{ChangeKind}
use Rattle.sb_index.specs.Stands.{triggers_in}
use Rattle.sb_index.proofs.table.TableRules.candidates.Goals as goal

pub returns-in-Updated : goal.returns-in-Updated
returns-in-Updated c r =
    c.updating.ensures r
    ∙ (λ i. is_operation (triggers_in c.args.self.now r) (update_between (c.old_row.ensures i) (c.new_row.ensures i)))
    ∙ ap (λ (k : ChangeKind). kind_triggers k (triggers_in c.args.self.now r) c.args.change.now) (sym c.in-Updated.is)
