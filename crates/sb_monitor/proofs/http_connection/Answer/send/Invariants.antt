use Rattle.std.proofs.Common.{◌-◌}
use Rattle.std.specs.Prelude.{vec_len}
use Rattle.sb_monitor.proofs.http_connection.Answer.send.Given as goal

-- what isn't gone yet becomes less
abbrev pub decreases-loop-self : goal.decreases-loop-self
decreases-loop-self l = vec_len l.self.bytes - l.self.gone
