-- Promise: rules in order of creation, and what the commands on rules do to them.
use Rattle.std.specs.Prelude.{◌≡◌, ℕ, zero, suc, ◌+◌, ◌<◌, IsTrue, IsFalse, Bool, true, not, ◌&&◌, ◌==◌, nat_lt, if◌then◌else◌, List, [], ◌∷◌, ◌++◌, length, map, filter, find, Option, Some, None, option_map, unwrap_or, Result}
use Rattle.std.specs.List.{list_any}
use Rattle.sb_value.specs.Limits.{rule_limit}
use Rattle.sb_value.specs.Name.{same_name}
use Rattle.sb_value.specs.declared.refusal.Refusal.{Refusal}
use Rattle.sb_value.specs.declared.refusal.Refusal.TheVariants.{NoRule, RuleExists, TooManyRules}
use Rattle.sb_check.specs.Names.{some_or}
use Rattle.sb_check.specs.RuleParts.{Parts, NewParts}
use Rattle.sb_catalog.specs.declared.rule.Rule.{Rule}

-- the least number from k on that is not in the list, after n tries at most
abbrev pub least_free_from : ℕ → ℕ → List ℕ → ℕ
least_free_from zero k used = k
least_free_from (suc n) k used = if list_any (λ u. u == k) used then least_free_from n (k + 1) used else k

-- the least number that isn't in the list
abbrev pub least_free : List ℕ → ℕ
least_free used = least_free_from (length used) 0 used

-- a number isn't in the list, and all below it are
pub record IsLeastFree (used : List ℕ) (n : ℕ) : Type 0 where
  pub free : IsFalse (list_any (λ u. u == n) used)
  pub least : (k : ℕ) → k < n → IsTrue (list_any (λ u. u == k) used)

-- ---- look-ups

-- the rule of that name
abbrev pub named : List Rule → List ℕ → Option Rule
named rules name = find (λ r. same_name r.name name) rules

-- its number, or that there is none
abbrev pub rule_named : List Rule → List ℕ → Result ℕ Refusal
rule_named rules name = some_or NoRule (option_map (λ r. r.id) (named rules name))

-- the rule of that number
abbrev pub numbered : List Rule → ℕ → Option Rule
numbered rules id = find (λ r. r.id == id) rules

-- each of the numbers is that of a rule
abbrev pub AreThere : List Rule → List ℕ → Type 0
AreThere rules ids =
    (id : ℕ) → IsTrue (list_any (λ k. k == id) ids) → IsTrue (list_any (λ k. k == id) (map (λ r. r.id) rules))

-- true if there is a rule of that name
abbrev pub has_name : List Rule → List ℕ → Bool
has_name rules name = list_any (λ r. same_name r.name name) rules

-- true if the rule of that number is active
abbrev pub is_active : List Rule → ℕ → Bool
is_active rules id = list_any (λ r. (r.id == id) && r.active) rules

-- true if one more rule may be made
abbrev pub has_room : List Rule → Bool
has_room rules = nat_lt (length rules) rule_limit

-- the number of the next rule
abbrev pub free_rule : List Rule → ℕ
free_rule rules = least_free (map (λ r. r.id) rules)

-- ---- changes

-- what is written, or else what was before
abbrev pub written_or : {A : Type 0} → Option A → Option A → Option A
written_or None before = before
written_or (Some new) before = Some new

-- a new rule is active
abbrev pub rule_of : ℕ → List ℕ → Parts → Rule
rule_of id name parts = record {
  id = id;
  name = name;
  table = parts.0;
  triggers = parts.1;
  condition = parts.2;
  actions = parts.3;
  active = true;
}

-- why a rule of that name is not made, the name first
abbrev pub create_refusal : List Rule → List ℕ → Option Refusal
create_refusal rules name =
    if has_name rules name then Some RuleExists else (if has_room rules then None else Some TooManyRules)

-- a new rule has the least free number and is the last
abbrev pub created : List Rule → List ℕ → Parts → List Rule
created rules name parts = rules ++ rule_of (free_rule rules) name parts ∷ []

-- the others keep their order
abbrev pub without_rule : List Rule → ℕ → List Rule
without_rule rules id = filter (λ r. not (r.id == id)) rules

-- a rule, changed if it has that number
abbrev pub change_numbered : ℕ → (Rule → Rule) → Rule → Rule
change_numbered id change rule = if rule.id == id then change rule else rule

-- a rule with its new parts, as far as they are written
abbrev pub set_parts : NewParts → Rule → Rule
set_parts parts rule =
    record rule { condition = written_or parts.0 rule.condition; actions = unwrap_or parts.1 rule.actions }

-- the rules with new parts for one of them, which keeps its place
abbrev pub with_parts : List Rule → ℕ → NewParts → List Rule
with_parts rules id parts = map (change_numbered id (set_parts parts)) rules

-- a rule, made active or not if it has that number
abbrev pub set_active : ℕ → Bool → Rule → Rule
set_active id active rule = if rule.id == id then record rule { active = active } else rule

-- the rules with one of them made active or not
abbrev pub with_active : List Rule → ℕ → Bool → List Rule
with_active rules id active = map (set_active id active) rules

-- no two rules have one number
abbrev pub AreNumbered : List Rule → Type 0
AreNumbered [] = Unit {0}
AreNumbered (r ∷ rules) = (numbered rules r.id ≡ None) × AreNumbered rules
