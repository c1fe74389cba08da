use Rattle.sb_process.proofs.Makes.{made_with}
use Rattle.sb_process.proofs.make.make.Goals as goal

pub returns-clause-more : goal.returns-clause-more
returns-clause-more c = λ origin changes m.
    made_with c.changes_keep_places.ensures origin changes c.args.change.now c.args.tables.now c.write.new.tables m c.requires.there c.requires.fits c.write.ensures
