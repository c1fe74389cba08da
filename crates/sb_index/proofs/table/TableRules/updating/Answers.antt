use Rattle.std.proofs.Common.{◌∙◌, ap, sym, ◌||◌}
use Rattle.sb_value.specs.Columns.{differing}
use Rattle.sb_value.specs.Flags.{flag_at, share_place}
use Rattle.sb_value.specs.NetEffect.{has_update}
use Rattle.sb_index.specs.TableSets.{TableSets}
use Rattle.sb_index.specs.Stands.{triggers_in, column_flags}
use Rattle.sb_index.proofs.Columns.{operation-same, operation-differ}
use Rattle.sb_index.proofs.table.TableRules.updating.Goals as goal

pub returns-then-same_row : goal.returns-then-same_row
returns-then-same_row c r =
    c.empty.ensures.members r ∙ sym (operation-same (triggers_in c.args.self.now r) c.args.old.now c.args.new.now (sym c.same_row.ensures ∙ c.if-same_row.true))

-- the rules for any column, and those of the columns that differ
pub returns : goal.returns
returns c r =
    c.union.ensures.members r
    ∙ ap (λ b. flag_at c.self.inside.updated r || b) (c.named.ensures r ∙ ap (λ l. share_place (column_flags c.self.inside.columns r) l) c.differing.ensures)
    ∙ ap (λ (t : TableSets). has_update (triggers_in t r) (differing c.args.old.now c.args.new.now)) c.self.view_is
    ∙ sym (operation-differ (triggers_in c.args.self.now r) c.args.old.now c.args.new.now (sym c.same_row.ensures ∙ c.if-same_row.false))
