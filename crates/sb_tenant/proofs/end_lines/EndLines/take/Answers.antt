use Rattle.std.proofs.Common.{◌++◌, ◌∷◌, [], subst}
use Rattle.sb_tenant.specs.EndLines.{AreEnds}
use Rattle.sb_tenant.proofs.EndLines.{ends-front, ends-last}
use Rattle.sb_tenant.proofs.end_lines.EndLines.take.Goals as goal

-- the lines were those that are left and the last one
were : (c : goal.In-Some) → AreEnds (c.pop.new.self.items ++ c.in-Some.line ∷ [])
were c = subst AreEnds c.in-Some.ensures.items c.self.invariant

pub invariant_of-self : goal.invariant_of-self
invariant_of-self c = ends-front c.pop.new.self.items c.in-Some.line (were c)

pub returns-clause-line : goal.returns-clause-line
returns-clause-line c = ends-last c.pop.new.self.items c.in-Some.line (were c)
