use Rattle.sb_status.proofs.Marked.{text-plain}
use Rattle.sb_status.proofs.laws.texts_are_no_markup.Goals as goal

pub returns : goal.returns
returns c = text-plain
