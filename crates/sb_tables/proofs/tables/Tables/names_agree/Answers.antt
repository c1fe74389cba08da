use Rattle.std.proofs.Common.{subst}
use Rattle.sb_tables.specs.Held.{NamesAgreeWithNumbers}
use Rattle.sb_tables.proofs.TablesHeld.{names_agree}
use Rattle.sb_tables.proofs.tables.Tables.names_agree.Goals as goal

pub returns : goal.returns
returns c = subst NamesAgreeWithNumbers c.self.view_is (names_agree c.self.inside.slots c.self.inside.numbers.entries c.self.invariant)
