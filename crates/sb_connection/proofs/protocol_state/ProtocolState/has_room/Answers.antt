use Rattle.std.proofs.Common.{◌≡◌, ◌<◌, ◌-◌, ◌∙◌, ℕ, List, ap, arith, drop, length, rules, sym}
use Rattle.std.proofs.lemmas.List.{length-drop}
use Rattle.sb_connection.specs.History.{pending_limit}
use Rattle.sb_connection.proofs.Steps.{all_taken}
use Rattle.sb_connection.proofs.protocol_state.ProtocolState.has_room.Goals as goal

pub returns-clause-empty : goal.returns-clause-empty
returns-clause-empty g c = λ none.
    let bytes = c.self.inside.output.items in
    let all : c.self.inside.sent ≡ length bytes = all_taken c.self.inside.sent bytes (omega arith) (ap (λ k. k.history.pending) c.self.view_is ∙ none) in absurd (omega arith)

-- what waits is the part of the output that isn't sent
few_wait : (sent : ℕ) (bytes pending : List ℕ) → drop sent bytes ≡ pending → length bytes - sent < pending_limit → length pending < pending_limit
few_wait sent bytes pending is few =
    let count : length pending ≡ length bytes - sent = sym (ap length is) ∙ length-drop sent bytes in omega (arith, count, few)

pub returns-clause-few : goal.returns-clause-few
returns-clause-few g c = λ room.
    few_wait c.self.inside.sent c.self.inside.output.items c.args.self.now.history.pending (ap (λ k. k.history.pending) c.self.view_is) (search rules)

pub returns-then-self-len-clause-few : goal.returns-then-self-len-clause-few
returns-then-self-len-clause-few g c = λ room.
    few_wait c.self.inside.sent c.self.inside.output.items c.args.self.now.history.pending (ap (λ k. k.history.pending) c.self.view_is) (omega arith)
