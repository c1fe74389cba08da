-- a digit is pushed by itself
use Rattle.std.proofs.Common.{◌+◌, ◌∷◌, [], ◌++◌, List, ℕ, ◌∙◌, sym, ap, append_assoc}
use Rattle.sb_wire.specs.Lines.{space}
use Rattle.sb_wire.proofs.Numbers.{one_digit}
use Rattle.sb_wire.proofs.words.push_number.Goals as goal

pub returns-then-number-lt10-clause-ok : goal.returns-then-number-lt10-clause-ok
returns-then-number-lt10-clause-ok c =
    let out : List ℕ = c.args.out.now.items in
    let digit : List ℕ = (48 + c.args.number) ∷ [] in
    c.in_ok-push-2.ensures.items
    ∙ ap (λ (bytes : List ℕ). bytes ++ digit) c.in_ok-push.ensures.items
    ∙ append_assoc out (space ∷ []) digit
    ∙ ap (λ (bytes : List ℕ). out ++ space ∷ bytes) (sym (one_digit c.args.number c.if-number-lt10.true))
