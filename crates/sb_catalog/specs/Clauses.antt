-- Promise: the clauses that are kept of rules, as texts: each reads as a tree that means what the rule has.
use Rattle.std.specs.Prelude.{◌≡◌, ℕ, List, [], ◌∷◌, Option, Result, Ok}
use Rattle.sb_value.specs.declared.net.Triggers.{Triggers}
use Rattle.sb_value.specs.declared.refusal.Refusal.{Refusal}
use Rattle.sb_syntax.specs.Tree as text
use Rattle.sb_check.specs.Condition.{Query}
use Rattle.sb_check.specs.Names.{and_then, in_order}
use Rattle.sb_check.specs.RuleParts.{NewParts, Parts}
use Rattle.sb_check.specs.Triggers.{walk_triggers}
use Rattle.sb_check.specs.Walk.{Schema, table_named, walk_action, walk_alone}
use Rattle.sb_check.specs.declared.tree.Action.{Action}
use Rattle.sb_catalog.specs.ClauseTexts.{Event, IsEventText, IsConditionText, IsActionsText, WhereThere}
use Rattle.sb_catalog.specs.declared.clauses.NewClauses.{NewClauses}
use Rattle.sb_catalog.specs.declared.clauses.RuleClauses.{RuleClauses}
use Rattle.sb_catalog.specs.declared.rule.Rule.{Rule}

-- a text reads as something that the walk resolves to this, by the tables of some schema
abbrev pub Means : {A B : Type 0} → (List ℕ → A → Type 0) → (Schema → A → Result B Refusal) → List ℕ → B → Type 0
Means {A = A} Reads walk text x = (schema : Schema) × (read : A) × Reads text read × (walk schema read ≡ Ok x)

-- the table and the triggers that stand behind `on`
abbrev pub walk_event : Schema → Event → Result (ℕ × Triggers) Refusal
walk_event schema e = and_then (table_named schema e.0) (λ t. and_then (walk_triggers t.table.columns e.1) (λ triggers. Ok (t.id, triggers)))

-- actions in order
abbrev pub walk_actions : Schema → List text.Action → Result (List Action) Refusal
walk_actions schema actions = in_order (walk_action schema) actions

abbrev pub IsEventOf : List ℕ → ℕ × Triggers → Type 0
IsEventOf = Means IsEventText walk_event

abbrev pub IsConditionOf : List ℕ → Query → Type 0
IsConditionOf = Means IsConditionText walk_alone

abbrev pub IsActionsOf : List ℕ → List Action → Type 0
IsActionsOf = Means IsActionsText walk_actions

-- the clauses mean the parts of a rule
pub record AreClausesOf (clauses : RuleClauses) (parts : Parts) : Type 0 where
  pub event : IsEventOf clauses.event.items (parts.0, parts.1)
  pub condition : WhereThere IsConditionOf clauses.condition parts.2
  pub actions : IsActionsOf clauses.actions.items parts.3

-- the same of the parts that are written anew
pub record AreNewClausesOf (clauses : NewClauses) (parts : NewParts) : Type 0 where
  pub condition : WhereThere IsConditionOf clauses.condition parts.0
  pub actions : WhereThere IsActionsOf clauses.actions parts.1

abbrev pub parts_of : Rule → Parts
parts_of rule = (rule.table, rule.triggers, rule.condition, rule.actions)

-- each rule has its clauses, in the same order
abbrev pub HaveClauses : List Rule → List RuleClauses → Type 0
HaveClauses [] [] = Unit {0}
HaveClauses (rule ∷ rules) (clauses ∷ more) = AreClausesOf clauses (parts_of rule) × HaveClauses rules more
HaveClauses rules clauses = ⊥
