use Rattle.std.proofs.Common.{sym, subst}
use Rattle.sb_connection.specs.Conversation.{hosting_by}
use Rattle.sb_connection.specs.ProtocolState.{Holds}
use Rattle.sb_connection.proofs.Steps.{nothing_holds}
use Rattle.sb_connection.proofs.connection.Connection.new.Goals as goal

pub invariant_of-result : goal.invariant_of-result
invariant_of-result g c = subst (Holds g.D.Doorkeeper.policy.admits) (sym c.new.ensures) (nothing_holds g.D.Doorkeeper.policy.admits (hosting_by c.args.keyed c.args.first (g.H.Hosting.tenants c.args.host)))
