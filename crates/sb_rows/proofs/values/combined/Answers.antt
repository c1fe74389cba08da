use Rattle.std.proofs.Common.{length, ap, sym, ◌∙◌}
use Rattle.sb_rows.proofs.values.combined.Goals as goal

pub apply_each-requires-clause-long : goal.apply_each-requires-clause-long
apply_each-requires-clause-long g c =
    c.in-Each.ensures.long _ c.requires.second ∙ sym (ap length c.as_mut_slice-in-Each.ensures.value ∙ c.in_ok-numbers.ensures.long)
