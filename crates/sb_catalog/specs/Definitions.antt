-- Promise: what the commands on rules and rulesets define: rules, their pairs of precedence, rulesets.
use Rattle.std.specs.Prelude.{◌≡◌, ◌⊎◌, ℕ, Bool, not, ◌&&◌, ◌==◌, List, [], ◌++◌, map, Option, unwrap_or, MatchOption, Result, Ok, Err, IsFalse}
use Rattle.std.specs.List.{list_any}
use Rattle.sb_value.specs.declared.refusal.Refusal.{Refusal}
use Rattle.sb_value.specs.declared.refusal.Refusal.TheVariants.{NoRule, TooManyRules, Cycle, NoRuleset, NoMemory}
use Rattle.sb_value.specs.Flags.{flag_at}
use Rattle.sb_value.specs.Order.{precedes}
use Rattle.sb_syntax.specs.Tree.{Name, AlterationText, RuleText}
use Rattle.sb_check.specs.Names.{and_then, in_order, required}
use Rattle.sb_check.specs.RuleParts.{Parts, NewParts}
use Rattle.sb_index.specs.Operation.{Operation, names}
use Rattle.sb_index.specs.Stands.{stands}
use Rattle.sb_index.specs.TableSets.{TableSets}
use Rattle.sb_priority.specs.Ranks.{Ranks, HasOrder, pairs_of, pairs_without, pairs_altered}
use Rattle.sb_catalog.specs.Ruleset.{Ruleset}
use Rattle.sb_catalog.specs.Sets.{has_name, members_of, changed}
use Rattle.sb_catalog.specs.Sets as rulesets
use Rattle.sb_catalog.specs.declared.rule.Rule.{Rule}
use Rattle.sb_catalog.specs.declared.definitions.Definitions.{Definitions}
use Rattle.sb_catalog.specs.Rules.{rule_named, is_active, free_rule, has_room, created, without_rule, with_active, with_parts}

-- ---- names

-- the numbers of rules by their names, in order
abbrev pub rules_named : List Rule → List Name → Result (List ℕ) Refusal
rules_named rules names = in_order (rule_named rules) names

-- the numbers of rules that a command names beside a ruleset
abbrev pub members_named : List Ruleset → List Rule → Name → List Name → Result (List ℕ) Refusal
members_named sets rules set names = required (has_name sets set) NoRuleset (rules_named rules names)

-- the same of definitions
abbrev pub members : Definitions → Name → List Name → Result (List ℕ) Refusal
members d set names = members_named d.rulesets d.rules set names

-- true if the rule is in the ruleset of that name
abbrev pub is_member : List Ruleset → Name → ℕ → Bool
is_member sets set id = flag_at (unwrap_or (members_of sets set) []) id

-- the set has the active rules of the ruleset
abbrev pub AreActiveIn : Definitions → Name → List Bool → Type 0
AreActiveIn d set rules = (id : ℕ) → flag_at rules id ≡ (is_active d.rules id && is_member d.rulesets set id)

abbrev pub GivesActiveMembers : Definitions → Name → Option (List Bool) → Type 0
GivesActiveMembers d set result = MatchOption result (IsFalse (has_name d.rulesets set)) (AreActiveIn d set)

-- the set has the rule of that name alone, if it is active
abbrev pub HasActiveRule : Definitions → Name → List Bool → Type 0
HasActiveRule d name rules =
    (r : ℕ) × (rule_named d.rules name ≡ Ok r) × ((id : ℕ) → flag_at rules id ≡ ((id == r) && is_active d.rules id))

abbrev pub GivesActiveRule : Definitions → Name → Option (List Bool) → Type 0
GivesActiveRule d name result = MatchOption result (rule_named d.rules name ≡ Err NoRule) (HasActiveRule d name)

-- ---- a new rule

-- its pairs close no cycle
abbrev pub acyclic : List Rule → List (ℕ × ℕ) → List (ℕ × ℕ) → Result (List (ℕ × ℕ)) Refusal
acyclic rules pairs more = required (not (precedes (pairs ++ more) (free_rule rules) (free_rule rules))) Cycle (Ok more)

-- the pairs that a new rule brings; its lists, the limit and a cycle refuse it in this order
abbrev pub new_pairs : List Rule → List (ℕ × ℕ) → List Name → List Name → Result (List (ℕ × ℕ)) Refusal
new_pairs rules pairs precedes follows =
    and_then (rules_named rules precedes) (λ before.
    and_then (rules_named rules follows) (λ after.
    required (has_room rules) TooManyRules (acyclic rules pairs (pairs_of (free_rule rules) before after))))

-- ---- an altered rule

-- pairs in which the rule doesn't precede itself
abbrev pub uncycled : ℕ → List (ℕ × ℕ) → Result (List (ℕ × ℕ)) Refusal
uncycled id pairs = required (not (precedes pairs id id)) Cycle (Ok pairs)

-- the pairs once the rule has them altered; its lists and a cycle refuse it in this order
abbrev pub altered_pairs : List Rule → List (ℕ × ℕ) → ℕ → AlterationText → Result (List (ℕ × ℕ)) Refusal
altered_pairs rules pairs id r =
    and_then (rules_named rules r.precedes) (λ before.
    and_then (rules_named rules r.follows) (λ after.
    and_then (rules_named rules r.nopriority) (λ apart.
    uncycled id (pairs_altered id apart before after pairs))))

-- ---- an index and an order of rules

-- the index has the operations of the tenant's active rules, and no others
abbrev pub AreIndexed : List (List TableSets) → ℕ → List Rule → Type 0
AreIndexed index tenant rules =
    (table : ℕ) (operation : Operation) (id : ℕ) →
    stands index tenant table operation id
    ≡ list_any (λ rule.
    rule.active && ((rule.table == table) && ((rule.id == id) && names rule.triggers operation))) rules

-- where one list of rules is indexed, so is the other
abbrev pub StayIndexed : List Rule → List Rule → Type 0
StayIndexed old new =
    (index : List (List TableSets)) (tenant : ℕ) → AreIndexed index tenant old → AreIndexed index tenant new

-- what the index has of other tenants stays
abbrev pub OtherTenantsStay : ℕ → List (List TableSets) → List (List TableSets) → Type 0
OtherTenantsStay tenant old new =
    (n table : ℕ) (operation : Operation) (id : ℕ) → IsFalse (n == tenant) →
    stands new n table operation id ≡ stands old n table operation id

-- the order is that of the rules, by these pairs
pub record AreOrdered (ranks : Ranks) (rules : List Rule) (pairs : List (ℕ × ℕ)) : Type 0 where
  pub order : HasOrder ranks pairs
  pub listed : ranks.rules ≡ map (λ rule. rule.id) rules

-- ---- what the commands leave

-- done, or refused
abbrev pub Outcome : Type 0
Outcome = Result (Unit {0}) Refusal

-- a new rule is the last and active, with its pairs; or it is refused, and nothing changes
abbrev pub Creates : Definitions → Definitions → List (ℕ × ℕ) → Name → Parts → List Name → List Name → Outcome → Type 0
Creates old new pairs name parts precedes follows (Ok u) =
    (more : List (ℕ × ℕ)) × (new_pairs old.rules pairs precedes follows ≡ Ok more)
    × (new.rules ≡ created old.rules name parts)
    × AreOrdered new.order new.rules (pairs ++ more) × (new.rulesets ≡ old.rulesets)
Creates old new pairs name parts precedes follows (Err e) =
    ((new_pairs old.rules pairs precedes follows ≡ Err e) ⊎ (e ≡ NoMemory)) × (new ≡ old)

-- the same for pairs that are known
abbrev pub Pushes : Definitions → Definitions → List (ℕ × ℕ) → Name → Parts → List (ℕ × ℕ) → Outcome → Type 0
Pushes old new pairs name parts more (Ok u) =
    (acyclic old.rules pairs more ≡ Ok more)
    × (new.rules ≡ created old.rules name parts)
    × AreOrdered new.order new.rules (pairs ++ more) × (new.rulesets ≡ old.rulesets)
Pushes old new pairs name parts more (Err e) = ((acyclic old.rules pairs more ≡ Err e) ⊎ (e ≡ NoMemory)) × (new ≡ old)

-- both, by whatever pairs order the rules

abbrev pub CreatesInOrder : Definitions → Definitions → RuleText → Parts → Outcome → Type 0
CreatesInOrder old new r parts result =
    (pairs : List (ℕ × ℕ)) → AreOrdered old.order old.rules pairs →
    Creates old new pairs r.name parts r.precedes r.follows result

abbrev pub PushesInOrder : Definitions → Definitions → Name → Parts → List (ℕ × ℕ) → Outcome → Type 0
PushesInOrder old new name parts more result =
    (pairs : List (ℕ × ℕ)) → AreOrdered old.order old.rules pairs → Pushes old new pairs name parts more result

-- a rule has its new parts and pairs, and keeps its place; or it is refused, and nothing changes
abbrev pub Alters : Definitions → Definitions → List (ℕ × ℕ) → ℕ → AlterationText → NewParts → Outcome → Type 0
Alters old new pairs id r parts (Ok u) =
    (all : List (ℕ × ℕ)) × (altered_pairs old.rules pairs id r ≡ Ok all)
    × (new.rules ≡ with_parts old.rules id parts) × AreOrdered new.order new.rules all × (new.rulesets ≡ old.rulesets)
Alters old new pairs id r parts (Err e) = ((altered_pairs old.rules pairs id r ≡ Err e) ⊎ (e ≡ NoMemory)) × (new ≡ old)

-- the same, by whatever pairs order the rules
abbrev pub AltersInOrder : Definitions → Definitions → ℕ → AlterationText → NewParts → Outcome → Type 0
AltersInOrder old new id r parts result =
    (pairs : List (ℕ × ℕ)) → AreOrdered old.order old.rules pairs → Alters old new pairs id r parts result

-- a rule goes with its pairs and its memberships
pub record Drops (old new : Definitions) (id : ℕ) : Type 0 where
  pub rules : new.rules ≡ without_rule old.rules id
  pub order :
      (pairs : List (ℕ × ℕ)) → AreOrdered old.order old.rules pairs → AreOrdered new.order new.rules (pairs_without id pairs)
  pub rulesets : new.rulesets ≡ rulesets.without_rule old.rulesets id

-- a rule is made active or not
pub record SetsActive (old new : Definitions) (id : ℕ) (active : Bool) : Type 0 where
  pub rules : new.rules ≡ with_active old.rules id active
  pub order : (pairs : List (ℕ × ℕ)) → AreOrdered old.order old.rules pairs → AreOrdered new.order new.rules pairs
  pub rulesets : new.rulesets ≡ old.rulesets

-- the members of a ruleset change by these rules, and nothing else does; or it is refused, and nothing changes
abbrev pub ChangesMembers :
    (List Bool → List ℕ → List Bool) → Definitions → Definitions → Name → Result (List ℕ) Refusal → Outcome → Type 0
ChangesMembers change old new set meant (Ok u) =
    (ids : List ℕ) × (meant ≡ Ok ids)
    × (new ≡ record old { rulesets = changed (λ members. change members ids) old.rulesets set })
ChangesMembers change old new set meant (Err e) = ((meant ≡ Err e) ⊎ (e ≡ NoMemory)) × (new ≡ old)
