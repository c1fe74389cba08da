use Rattle.sb_desk.specs.Kept.{Place}
use Rattle.sb_desk.proofs.DeskNew.{is_desk}
use Rattle.sb_desk.proofs.desk.Desk.new.Given.{Over}
use Rattle.sb_desk.proofs.desk.Desk.new.Goals as goal

abbrev place : Over → Place
place g = record { table = g.N.Naming.table; tenants = g.N.Naming.tenants; cells = g.N.Naming.cells; bound = g.N.Naming.bound; first = g.row.FIRST }

pub invariant_of-result : goal.invariant_of-result
invariant_of-result g c = (c.requires.counts.0, c.requires.counts.1, is_desk (place g) c.args.cell c.args.share.parts c.args.seats.items c.requires.new c.keeps_trails.ensures.first c.requires.counts.0 c.requires.whole c.requires.seats)
