-- Promise: what rule processing works on.
use Rattle.std.specs.Prelude.{ℕ, List, drop, map, filter, Bool, ◌&&◌, ◌==◌, if◌then◌else◌, length, Option, find, option_and_then}
use Rattle.sb_value.specs.declared.change.Change.{Change}
use Rattle.sb_value.specs.declared.net.Transition.{Transition}
use Rattle.sb_value.specs.declared.id.Who.{Who}
use Rattle.sb_value.specs.Table.{Entry, after_all}
use Rattle.sb_value.specs.NetEffect.{is_triggered, transition_tables}
use Rattle.sb_value.specs.Locks.{Locks}
use Rattle.sb_value.specs.Order.{chosen}
use Rattle.sb_catalog.specs.declared.rule.Rule.{Rule}
use Rattle.sb_eval.specs.Seen.{Seen}

-- what stays while rules are processed: the session, the rules in order of creation, the pairs of precedence,
-- and the tables as they are seen without the session's own changes
pub record Setting : Type 0 where
  pub who : Who
  pub rules : List Rule
  pub pairs : List (ℕ × ℕ)
  pub base : List Entry

-- what changes: the transaction's changes, a mark for each rule, which is a length of that list, the tenant's locks,
-- and the work that is left to the step, if it has a budget
pub record Progress : Type 0 where
  pub changes : List Change
  pub marks : ℕ → ℕ
  pub locks : Locks
  pub left : Option ℕ

-- the tables with the transaction's changes
abbrev pub tables_seen : Setting → Progress → List Entry
tables_seen setting progress = after_all progress.changes setting.base

-- the changes since the rule's mark
abbrev pub transition : Progress → Rule → List Change
transition progress rule = drop (progress.marks rule.id) progress.changes

-- whether a rule is triggered by its transition
abbrev pub rule_is_triggered : Progress → Rule → Bool
rule_is_triggered progress rule = is_triggered rule.triggers rule.table (transition progress rule)

-- the transition tables of a rule's transition
abbrev pub rule_tables : Progress → Rule → Transition
rule_tables progress rule = transition_tables rule.triggers rule.table (transition progress rule)

-- the rule's mark at the end of the list
abbrev pub marked : Rule → Progress → Progress
marked rule progress = record progress { marks = λ id. if id == rule.id then length progress.changes else progress.marks id }

-- what a statement sees, with these transition tables
abbrev pub seen_with : Setting → Transition → Progress → Seen
seen_with setting tables progress = record { tables = tables_seen setting progress; transition = tables; who = setting.who }

-- the rule that is considered next: of the eligible triggered rules, the earliest created that no other of them precedes
abbrev pub is_candidate : (ℕ → Bool) → Progress → Rule → Bool
is_candidate eligible progress rule = eligible rule.id && rule_is_triggered progress rule

-- of the candidates, the earliest created one that no other of them precedes
abbrev pub next_rule : Setting → (ℕ → Bool) → Progress → Option Rule
next_rule setting eligible progress =
    option_and_then (λ id. find (λ rule. rule.id == id) setting.rules)
    (chosen setting.pairs (map (λ rule. rule.id) (filter (is_candidate eligible progress) setting.rules)))
