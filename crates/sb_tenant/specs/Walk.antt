-- Promise: the walk of a command: the first refusal, or the command with its names resolved. What the tables tell comes first,
-- but for the name of a new rule; the names of rules and rulesets, limits and cycles come after it.
use Rattle.std.specs.Prelude.{◌≡◌, ℕ, Bool, false, not, nat_lt, List, [], length, Option, Some, None, Result, Ok, Err}
use Rattle.sb_value.specs.declared.refusal.Refusal.{Refusal}
use Rattle.sb_value.specs.declared.refusal.Refusal.TheVariants as refusal
use Rattle.sb_value.specs.Table.{table_at}
use Rattle.sb_syntax.specs.Tree.{Name, Command, RuleText, AlterationText}
use Rattle.sb_syntax.specs.Tree as text
use Rattle.sb_check.specs.Names.{and_then, required, some_or}
use Rattle.sb_check.specs.Walk.{Schema, table_named, walk_query, walk_statement}
use Rattle.sb_check.specs.RuleParts.{Parts, walk_parts, walk_alteration}
use Rattle.sb_check.specs.Resolved.{walk_names}
use Rattle.sb_catalog.specs.Definitions.{rules_named, new_pairs, altered_pairs}
use Rattle.sb_catalog.specs.declared.rule.Rule.{Rule}
use Rattle.sb_catalog.specs.Rules.{has_name, named, rule_named}
use Rattle.sb_catalog.specs.Uses.{is_used}
use Rattle.sb_catalog.specs.Sets as rulesets
use Rattle.sb_tenant.specs.Limits.{table_limit}
use Rattle.sb_tenant.specs.State.{Catalog}
use Rattle.sb_tenant.specs.Resolved.{Class, opens, ends, begins, defines, works, Resolved, open_session, end_session, begin, commit, rollback, process_rules, process_ruleset, process_rule, create_table, drop_table, create_rule, alter_rule, drop_rule, activate_rule, deactivate_rule, create_ruleset, drop_ruleset, add_rules, del_rules, query, change}

-- what a statement outside of rules may name
abbrev pub outside_rules : Catalog → Schema
outside_rules catalog = record { tables = catalog.tables; rule = None }

-- unless something refuses it
abbrev pub unless : {A : Type 0} → Option Refusal → Result A Refusal → Result A Refusal
unless None next = next
unless (Some e) next = Err e

-- a new rule whose parts are resolved: its lists, the limit, a cycle
abbrev pub walk_lists : Catalog → RuleText → Parts → Result Resolved Refusal
walk_lists catalog r parts =
    and_then (new_pairs catalog.rules catalog.pairs r.precedes r.follows) (λ pairs.
    Ok (create_rule (record { name = r.name; parts = parts; pairs = pairs })))

-- a new rule: its name, what the tables tell of it, and then the rest
abbrev pub walk_rule : Catalog → RuleText → Result Resolved Refusal
walk_rule catalog r =
    required (not (has_name catalog.rules r.name)) refusal.RuleExists
    (and_then (walk_parts (outside_rules catalog) r) (walk_lists catalog r))

-- new parts of a rule that is found: what the tables tell of them, its lists, a cycle
abbrev pub walk_new_parts : Catalog → AlterationText → Rule → Result Resolved Refusal
walk_new_parts catalog r rule =
    and_then (walk_alteration (outside_rules catalog) (table_at catalog.tables rule.table).columns rule.triggers r) (λ parts.
    and_then (altered_pairs catalog.rules catalog.pairs rule.id r) (λ pairs.
    Ok (alter_rule (record { id = rule.id; parts = parts; pairs = pairs }))))

-- a rule that is altered: whether it is there, and then the rest
abbrev pub walk_altered : Catalog → AlterationText → Result Resolved Refusal
walk_altered catalog r = and_then (some_or refusal.NoRule (named catalog.rules r.name)) (walk_new_parts catalog r)

-- ---- all commands

-- a command on a rule
abbrev pub of_rule : Catalog → Name → (ℕ → Resolved) → Result Resolved Refusal
of_rule catalog name form = and_then (rule_named catalog.rules name) (λ id. Ok (form id))

-- a command on a ruleset
abbrev pub of_ruleset : Catalog → Name → Resolved → Result Resolved Refusal
of_ruleset catalog name form = required (rulesets.has_name catalog.rulesets name) refusal.NoRuleset (Ok form)

-- a command on members of a ruleset
abbrev pub of_members : Catalog → Name → List Name → (List ℕ → Resolved) → Result Resolved Refusal
of_members catalog name rules form =
    required (rulesets.has_name catalog.rulesets name) refusal.NoRuleset (and_then (rules_named catalog.rules rules) (λ ids. Ok (form ids)))

-- each command, in the order in which it is refused
abbrev pub walk : Catalog → Command → Result Resolved Refusal
walk catalog text.open_session = Ok open_session
walk catalog text.end_session = Ok end_session
walk catalog text.begin = Ok begin
walk catalog text.commit = Ok commit
walk catalog text.rollback = Ok rollback
walk catalog text.process_rules = Ok process_rules
walk catalog (text.process_ruleset name) = of_ruleset catalog name (process_ruleset name)
walk catalog (text.process_rule name) = of_rule catalog name process_rule
walk catalog (text.create_table name columns) =
    and_then (walk_names (outside_rules catalog) (text.create_table name columns)) (λ _.
    required (nat_lt (length catalog.tables) table_limit) refusal.TooManyTables (Ok (create_table name columns)))
walk catalog (text.drop_table name) =
    and_then (table_named (outside_rules catalog) name) (λ e.
    required (not (is_used catalog.rules e.id)) refusal.TableInUse (Ok (drop_table e.id)))
walk catalog (text.create_rule r) = walk_rule catalog r
walk catalog (text.alter_rule r) = walk_altered catalog r
walk catalog (text.drop_rule name) = of_rule catalog name drop_rule
walk catalog (text.activate_rule name) = of_rule catalog name activate_rule
walk catalog (text.deactivate_rule name) = of_rule catalog name deactivate_rule
walk catalog (text.create_ruleset name) = unless (rulesets.create_refusal catalog.rulesets name) (Ok (create_ruleset name))
walk catalog (text.drop_ruleset name) = of_ruleset catalog name (drop_ruleset name)
walk catalog (text.add_rules name rules) = of_members catalog name rules (add_rules name)
walk catalog (text.del_rules name rules) = of_members catalog name rules (del_rules name)
walk catalog (text.query q) = and_then (walk_query (outside_rules catalog) q []) (λ w. Ok (query w.0))
walk catalog (text.change c) = and_then (walk_statement (outside_rules catalog) c) (λ s. Ok (change s))

-- a new rule whose name is taken
abbrev pub is_taken : Catalog → Command → Bool
is_taken catalog (text.create_rule r) = has_name catalog.rules r.name
is_taken catalog other = false

-- what names and types refuse is refused before all else, but for a new rule whose name is taken
abbrev pub NamesComeFirst : Type 0
NamesComeFirst =
    (catalog : Catalog) (command : Command) (e : Refusal) → is_taken catalog command ≡ false →
    walk_names (outside_rules catalog) command ≡ Err e → walk catalog command ≡ Err e

-- what each command asks of its session
abbrev pub class_of : Command → Class
class_of text.open_session = opens
class_of text.end_session = ends
class_of text.begin = begins
class_of text.commit = works
class_of text.rollback = works
class_of text.process_rules = works
class_of (text.process_ruleset name) = works
class_of (text.process_rule name) = works
class_of (text.create_table name columns) = defines
class_of (text.drop_table name) = defines
class_of (text.create_rule r) = defines
class_of (text.alter_rule r) = defines
class_of (text.drop_rule name) = defines
class_of (text.activate_rule name) = defines
class_of (text.deactivate_rule name) = defines
class_of (text.create_ruleset name) = defines
class_of (text.drop_ruleset name) = defines
class_of (text.add_rules name rules) = defines
class_of (text.del_rules name rules) = defines
class_of (text.query q) = works
class_of (text.change c) = works
