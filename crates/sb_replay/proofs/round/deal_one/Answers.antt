use Rattle.std.proofs.Common.{[], ◌∷◌, refl}
use Rattle.sb_desk.specs.Calls.{Session}
use Rattle.sb_replay.specs.declared.pool.Job.{Job}
use Rattle.sb_replay.specs.declared.round.Waiting.TheVariants.{Called}
use Rattle.sb_replay.proofs.round.deal_one.Goals as goal

-- the session is called
pub returns-in_ok-push-in-Some-next_command-2 : goal.returns-in_ok-push-in-Some-next_command-2
returns-in_ok-push-in-Some-next_command-2 g c =
    let job : Job Session = record { session = c.in-Some.session; line = c.in-Some-next_command.line } in (
      Called c.next_command.new.self,
      job ∷ [],
      c.in_ok-push-in-Some-next_command-2.ensures.items,
      c.in_ok-push-in-Some-next_command.ensures.items,
      (job, refl, λ i. record { session = c.in-Some.is i; sheet = c.in-Some-next_command.ensures i }),
    )
