use Rattle.std.proofs.Common.{◌≡◌, ap, rules, arith, true, ◌==◌}
use Rattle.sb_connection.specs.Standing.{is_open}
use Rattle.sb_connection.proofs.Steps.{may_by}
use Rattle.sb_connection.proofs.protocol_state.ProtocolState.may_receive.Goals as goal

pub returns : goal.returns
returns g c =
    let h = c.args.self.now.history in
    let bytes = c.self.inside.input.items in
    let going : is_open h.state ≡ true = search rules in
    may_by (c.self.inside.taken == c.len.result) c.self.inside.taken bytes h (ap (λ n. c.self.inside.taken == n) (search rules)) (omega arith) going (search rules) (search rules) (ap (λ k. k.history.waiting) c.self.view_is)
