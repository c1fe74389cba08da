use Rattle.std.proofs.Common.{◌≡◌, map, take}
use Rattle.sb_postgres.specs.Startup.{pair_seen}
use Rattle.sb_frontend.specs.Starts.{options_of}
use Rattle.sb_frontend.proofs.start.options_of.Given as goal

abbrev pub invariant-loop-parameter : goal.invariant-loop-parameter
invariant-loop-parameter l = map (λ o. o.now) l.options.items ≡ options_of (map pair_seen (take l.parameter-index l.parameters))
