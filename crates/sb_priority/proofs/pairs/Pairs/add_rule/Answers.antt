use Rattle.std.proofs.Common.{◌∙◌, ap, ℕ, List, map, ◌++◌, append_assoc}
use Rattle.sb_priority.specs.Closed.{has_pair}
use Rattle.sb_priority.proofs.pairs.Pairs.add_rule.Goals as goal

pub returns : goal.returns
returns c pairs h a b =
    let first : List (ℕ × ℕ) = map (λ o. (c.args.rule, o)) c.args.ahead_of.now in
    let second : List (ℕ × ℕ) = map (λ o. (o, c.args.rule)) c.args.behind.now in
    c.trail.ensures (pairs ++ first) (c.lead.ensures pairs h) a b
    ∙ ap (λ (ps : List (ℕ × ℕ)). has_pair ps a b) (append_assoc pairs first second)
