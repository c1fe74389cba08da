use Rattle.sb_status.proofs.Marked.{markup_stands}
use Rattle.sb_status.proofs.laws.markup_stands_in_marks.Goals as goal

pub returns : goal.returns
returns c = markup_stands
