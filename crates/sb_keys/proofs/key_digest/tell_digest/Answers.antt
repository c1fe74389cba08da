-- the first line was a key, and its digest is written
use Rattle.sb_keys.proofs.Digests.{tells}
use Rattle.sb_keys.proofs.key_digest.tell_digest.Goals as goal

pub returns-in-Told : goal.returns-in-Told
returns-in-Told g c = let ended = c.in-Ok.ensures.goes in tells ended.0 ended.1.0 ended.1.1 c.in-Told.is
