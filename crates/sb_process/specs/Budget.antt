-- Promise: the budget of a step: what is left of it after so much work.
use Rattle.std.specs.Prelude.{ℕ, ◌+◌, ◌*◌, ◌-◌, ◌==◌, nat_lt, if◌then◌else◌, List, filter, length, Option, Some, None, Result, Ok, Err}
use Rattle.sb_value.specs.declared.change.Change.{Change}
use Rattle.sb_value.specs.declared.refusal.Refusal.{Refusal}
use Rattle.sb_value.specs.declared.refusal.Refusal.TheVariants.{TooBig}
use Rattle.sb_catalog.specs.declared.rule.Rule.{Rule}

-- so much is taken of what is left, and what follows is done with the rest; where too little is left, nothing is done. A step without a budget always has enough
abbrev pub with_work : {A : Type 0} → ℕ → Option ℕ → (Option ℕ → Result A Refusal) → Result A Refusal
with_work work None next = next None
with_work work (Some left) next = if nat_lt left work then Err TooBig else next (Some (left - work))

-- the rules of a table
abbrev pub rules_on : List Rule → ℕ → List Rule
rules_on rules table = filter (λ rule. rule.table == table) rules

-- a change is 200 units of work, and one for each rule of its table
abbrev pub change_work : List Rule → ℕ → ℕ
change_work rules table = 200 + length (rules_on rules table)

-- changes within the budget, each so much work, and what is left
abbrev pub within_budget : ℕ → Option ℕ → Result (List Change) Refusal → Result (List Change × Option ℕ) Refusal
within_budget each left (Err refusal) = Err refusal
within_budget each left (Ok changes) = with_work (length changes * each) left (λ rest. Ok (changes, rest))
