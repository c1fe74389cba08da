use Rattle.std.proofs.Common.{codes, subst, sym}
use Rattle.sb_postgres.specs.declared.query.error.QueryError.{QueryError}
use Rattle.sb_postgres.specs.declared.told.sqlstate.SqlState.TheVariants.{OutOfMemory}
use Rattle.sb_frontend.specs.Outputs.{SaysSome}
use Rattle.sb_frontend.specs.Scripts.{TellsUnread, fault_state, fault_text}
use Rattle.sb_frontend.proofs.Saying.{says-failure, says-made}
use Rattle.sb_frontend.proofs.script.tell_unread.Goals as goal

pub returns-in-Memory : goal.returns-in-Memory
returns-in-Memory c =
    subst (λ (e : QueryError). SaysSome (TellsUnread e) c.args.out.now c.say_error.new.self) (sym c.in-Memory.is)
    (says-failure OutOfMemory (codes "out of memory") c.args.out.now c.say_error.new.self c.say_error.ensures)

pub returns-in-Refused : goal.returns-in-Refused
returns-in-Refused c =
    subst (λ (e : QueryError). SaysSome (TellsUnread e) c.args.out.now c.say_made.new.out) (sym c.in-Refused.is)
    (says-made c.report_of-made.result (fault_state c.in-Refused.refusal.fault) (fault_text c.in-Refused.refusal.fault) c.args.out.now c.say_made.new.out c.report_of-made.ensures c.say_made.ensures)
