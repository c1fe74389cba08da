use Rattle.sb_rows.proofs.Depth.{term_depth}
use Rattle.sb_rows.proofs.values.+term_values.Given as goal

abbrev pub decreases-term_values : goal.decreases-term_values
decreases-term_values l = term_depth l.term.now
