use Rattle.std.proofs.Common.{refl}
use Rattle.std.proofs.lemmas.List.{get_or-replicate}
use Rattle.sb_wire.proofs.summary.Summary.new.Goals as goal

pub returns : goal.returns
returns c = record { lines = refl; steps = refl; refused = λ n below. get_or-replicate 256 n 0 0 below }
