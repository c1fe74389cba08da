use Rattle.std.proofs.Common.{◌∙◌, ◌&&◌, ◌||◌, ◌==◌, sym}
use Rattle.sb_value.specs.Flags.{flag_at}
use Rattle.sb_value.specs.Limits.{rule_limit}
use Rattle.sb_priority.specs.Closed.{relates, is_led}
use Rattle.sb_priority.proofs.RowClosure.{row_closed}
use Rattle.sb_priority.proofs.closure.Closure.link_row.Goals as goal

pub returns : goal.returns
returns c pairs closed a b =
    c.link_rows.ensures a b
    ∙ (λ i. relates (c.self.view_is i) a b || (c.through-through.ensures a i && ((c.args.second == b) || relates (c.self.view_is i) c.args.second b)))
    ∙ (λ i. closed a b i || (is_led (flag_at c.args.row) (λ x. closed a x i) a rule_limit && ((c.args.second == b) || closed c.args.second b i)))
    ∙ sym (row_closed (flag_at c.args.row) c.args.second pairs rule_limit a b)
