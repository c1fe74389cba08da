use Rattle.sb_tables.specs.Slots.{numbers}
use Rattle.sb_tables.proofs.RisingLaws.{found}
use Rattle.sb_tables.proofs.slot.place_of.Goals as goal

pub returns : goal.returns
returns c =
    let here = found 0 (numbers c.args.slots.now) c.requires.rises.0 c.args.number c.first_from.result c.requires.there.0 c.requires.rises.1
    c.first_from.ensures.below c.first_from.ensures.above c.requires.there.1 c.requires.there.2 in
    record { within = here.0; is = here.1 }
