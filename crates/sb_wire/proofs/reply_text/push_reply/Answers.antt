-- the two words of the first line are one text
use Rattle.sb_wire.proofs.reply_text.push_reply.Goals as goal

pub returns-in-ByLimit-clause-ok : goal.returns-in-ByLimit-clause-ok
returns-in-ByLimit-clause-ok c = rw (c.in-ByLimit.is, ← c.as_slice-in-ByLimit.ensures) c.push_considered-in-ByLimit.ensures.ok
