use Rattle.sb_postgres.specs.Fields.{IsText, text}
use Rattle.sb_postgres.proofs.Pushing.{as_seen}
use Rattle.sb_postgres.proofs.writing.push_texts.Goals as goal

pub returns : goal.returns
returns c = as_seen (λ t. t.now) IsText text c.args.texts.now c.args.out.now.items c.push_all.new.out.items c.push_all.result c.push_all.ensures
