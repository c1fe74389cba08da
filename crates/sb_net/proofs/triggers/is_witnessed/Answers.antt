use Rattle.std.proofs.Common.{◌∙◌, sym}
use Rattle.sb_net.specs.Scopes.{changes_in}
use Rattle.sb_net.proofs.Hits.{hit_is_enough}
use Rattle.sb_net.proofs.triggers.is_witnessed.Goals as goal

pub returns-in-Some : goal.returns-in-Some
returns-in-Some g c = λ e. hit_is_enough c.args.triggers.now c.args.scope.now.table c.in-Some.tuple (changes_in c.args.scope.now (g.L.ChangeLog.records c.args.log.now)) (sym c.is_hit.ensures ∙ e)
