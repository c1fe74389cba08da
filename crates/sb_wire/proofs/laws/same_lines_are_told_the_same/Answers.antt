use Rattle.sb_wire.proofs.Openings.{told-the-same}
use Rattle.sb_wire.proofs.laws.same_lines_are_told_the_same.Goals as goal

pub returns : goal.returns
returns c = told-the-same
