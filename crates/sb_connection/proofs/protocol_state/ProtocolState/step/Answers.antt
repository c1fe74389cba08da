use Rattle.std.proofs.Common.{◌≡◌, ◌∙◌, ◌-◌, ap, arith, sym, subst, rules, drop, take, length, List, [], ◌++◌, ℕ, false, true}
use Rattle.std.proofs.lemmas.List.{take_rest}
use Rattle.sb_wire.specs.Lines.{Completes}
use Rattle.sb_connection.specs.Standing.{is_open}
use Rattle.sb_connection.proofs.Steps.{drop_behind, last_step, line_step, none_step}
use Rattle.sb_connection.proofs.protocol_state.ProtocolState.step.Goals as goal

-- what is left of the input
slice_is : (n : ℕ) (input slice : List ℕ) → slice ≡ input → take (length slice - n) (drop n slice) ≡ drop n input
slice_is n input slice is = take_rest slice n ∙ ap (λ (t : List ℕ). drop n t) is

-- a line is complete, and is answered
pub returns-in-Some-clause-steps : goal.returns-in-Some-clause-steps
returns-in-Some-clause-steps g c =
    let going : is_open c.self.inside.state ≡ true = ap (λ k. is_open k.history.state) c.self.view_is ∙ c.may_answer.ensures.open (search rules) in
    let there : c.args.self.now.history.waits ≡ false = c.may_answer.ensures.there (search rules) in
    let there = ap (λ k. k.history.waits) c.self.view_is ∙ there in
    let fed = c.in-Some.ensures in
    let input = c.self.inside.input.items in
    let behind = c.in-Some.behind.now in
    let split : drop c.self.inside.taken input ≡ fed.0 ++ behind = sym (slice_is c.self.inside.taken input c.as_slice.result.now c.as_slice.ensures.value) ∙ fed.1 in
    let left : drop (c.len.result - length behind) input ≡ behind = ap (λ (n : ℕ). drop (n - length behind) input) (search rules) ∙ drop_behind c.self.inside.taken input fed.0 behind split in
    line_step _ _ _ c.self.view_is going there _ fed.0 behind c.feed.new.self c.clear.new.self _ _ split left fed.3 c.clear.ensures c.self-in-Some.view_is c.answer.ensures.answers c.answer.ensures.named

-- no line is complete, and none comes any more
pub returns-then-self-clause-steps : goal.returns-then-self-clause-steps
returns-then-self-clause-steps g c =
    let going : is_open c.self.inside.state ≡ true = ap (λ k. is_open k.history.state) c.self.view_is ∙ c.may_answer.ensures.open (search rules) in
    let there : c.args.self.now.history.waits ≡ false = c.may_answer.ensures.there (search rules) in
    let there = ap (λ k. k.history.waits) c.self.view_is ∙ there in
    let input = c.self.inside.input.items in
    let rest = slice_is c.self.inside.taken input c.as_slice.result.now c.as_slice.ensures.value in
    last_step _ _ _ c.self.view_is going there _ c.feed.new.self _ c.new.ensures.items (subst (λ (t : List ℕ). Completes c.self.inside.lines t [] c.feed.new.self) rest c.in-None.ensures) c.if-self.true c.answer_last.ensures.finishes c.answer_last.ensures.named

-- no line is complete yet
pub returns-else-self-clause-steps : goal.returns-else-self-clause-steps
returns-else-self-clause-steps g c =
    let going : is_open c.self.inside.state ≡ true = ap (λ k. is_open k.history.state) c.self.view_is ∙ c.may_answer.ensures.open (search rules) in
    let there : c.args.self.now.history.waits ≡ false = c.may_answer.ensures.there (search rules) in
    let there = ap (λ k. k.history.waits) c.self.view_is ∙ there in
    let input = c.self.inside.input.items in
    let rest = slice_is c.self.inside.taken input c.as_slice.result.now c.as_slice.ensures.value in
    none_step _ _ _ c.self.view_is going there _ c.feed.new.self c.new.ensures.items (subst (λ (t : List ℕ). Completes c.self.inside.lines t [] c.feed.new.self) rest c.in-None.ensures) c.if-self.false

-- there is room
pub returns-in-Some-clause-full : goal.returns-in-Some-clause-full
returns-in-Some-clause-full g c = λ full. absurd (let few = c.may_answer.ensures.few (search rules) in omega (arith, full, few))

pub returns-then-self-clause-full : goal.returns-then-self-clause-full
returns-then-self-clause-full g c = λ full. absurd (let few = c.may_answer.ensures.few (search rules) in omega (arith, full, few))

pub returns-else-self-clause-full : goal.returns-else-self-clause-full
returns-else-self-clause-full g c = λ full. absurd (let few = c.may_answer.ensures.few (search rules) in omega (arith, full, few))
