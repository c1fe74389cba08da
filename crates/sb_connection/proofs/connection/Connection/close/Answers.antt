use Rattle.std.proofs.Common.{List, subst, sym}
use Rattle.sb_desk.specs.declared.receipts.Receipt.{Receipt}
use Rattle.sb_connection.specs.Conversation.{Talks}
use Rattle.sb_connection.specs.ProtocolState.{talk}
use Rattle.sb_connection.specs.History.{Converses, History}
use Rattle.sb_connection.specs.Responses.{LeavesSome, over}
use Rattle.sb_connection.proofs.Whole.{whole}
use Rattle.sb_connection.proofs.connection.Connection.close.Goals as goal

pub returns-clause-conversation : goal.returns-clause-conversation
returns-clause-conversation g c =
    let k = c.self.inside.protocol_state in
    let holds = c.self.invariant in
    let leaves = subst (λ s. LeavesSome s c.close-stub.result) c.into_session.ensures.session c.close-stub.ensures in
    let all = whole g.D.Doorkeeper.policy.admits k.history.hosted holds.pieces holds.text k.caller k.away c.close-stub.result holds.told leaves in
    subst (λ (h : History). Converses g.D.Doorkeeper.policy.admits h c.close-stub.result) c.self.view_is (record { pieces = holds.pieces; text = holds.text; over = over (talk k); tells = holds.tells; talks = subst (λ (left : List (List Receipt)). Talks g.D.Doorkeeper.policy.admits k.history.hosted holds.pieces holds.text left c.close-stub.result (over (talk k))) (sym holds.left) all.0 })

pub returns-clause-closed : goal.returns-clause-closed
returns-clause-closed g c =
    let k = c.self.inside.protocol_state in
    let holds = c.self.invariant in
    let leaves = subst (λ s. LeavesSome s c.close-stub.result) c.into_session.ensures.session c.close-stub.ensures in
    (whole g.D.Doorkeeper.policy.admits k.history.hosted holds.pieces holds.text k.caller k.away c.close-stub.result holds.told leaves).1
