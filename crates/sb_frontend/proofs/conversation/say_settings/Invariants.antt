use Rattle.std.proofs.Common.{map, take}
use Rattle.sb_postgres.specs.Answers.{ParameterStatus}
use Rattle.sb_frontend.specs.Outputs.{Says}
use Rattle.sb_frontend.proofs.conversation.say_settings.Given as goal

abbrev pub invariant-loop-name : goal.invariant-loop-name
invariant-loop-name l = Says (map (λ s. ParameterStatus s.0.now s.1.now) (take l.name-index l.settings)) l.initial.out l.out
