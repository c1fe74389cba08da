use Rattle.std.proofs.Common.{rules}
use Rattle.std.proofs.lemmas.Nat.{be_bytes_8}
use Rattle.sb_durable.proofs.segment.bytes.number_of.Goals as goal

pub returns : goal.returns
returns c = be_bytes_8 c.args.bytes _ (search rules) (search rules) c.from_be_bytes.ensures
