-- The walk begins with names and types.
use Rattle.std.proofs.Common.{◌≡◌, ◌∙◌, Bool, not, nat_lt, length, Result, Ok, Err, ap}
use Rattle.std.specs.Result.{result_err}
use Rattle.std.proofs.lemmas.Option.{same_Some}
use Rattle.sb_value.specs.declared.refusal.Refusal.{Refusal}
use Rattle.sb_value.specs.declared.refusal.Refusal.TheVariants as refusal
use Rattle.sb_syntax.specs.Tree as text
use Rattle.sb_check.specs.Names.{and_then, required}
use Rattle.sb_check.specs.RuleParts.{walk_parts}
use Rattle.sb_check.specs.Resolved as names
use Rattle.sb_tenant.specs.Limits.{table_limit}
use Rattle.sb_tenant.specs.Resolved.{create_table}
use Rattle.sb_tenant.specs.Walk.{outside_rules, walk_lists, NamesComeFirst}

-- what refuses a result refuses what follows it
refuses : {A B C : Type 0} (r : Result A Refusal) (form : A → B) (next : A → Result C Refusal) (e : Refusal) → and_then r (λ a. Ok (form a)) ≡ Err e → and_then r next ≡ Err e
refuses (Err d) form next e h = ap (λ (x : Refusal). Err x) (same_Some d e (ap result_err h))
refuses (Ok a) form next e h = absurd (cc)

pub first : NamesComeFirst
first catalog text.open_session e free h = absurd (cc)
first catalog text.end_session e free h = absurd (cc)
first catalog text.begin e free h = absurd (cc)
first catalog text.commit e free h = absurd (cc)
first catalog text.rollback e free h = absurd (cc)
first catalog text.process_rules e free h = absurd (cc)
first catalog (text.process_ruleset name) e free h = absurd (cc)
first catalog (text.process_rule name) e free h = absurd (cc)
first catalog (text.alter_rule r) e free h = absurd (cc)
first catalog (text.drop_rule name) e free h = absurd (cc)
first catalog (text.activate_rule name) e free h = absurd (cc)
first catalog (text.deactivate_rule name) e free h = absurd (cc)
first catalog (text.create_ruleset name) e free h = absurd (cc)
first catalog (text.drop_ruleset name) e free h = absurd (cc)
first catalog (text.add_rules name rules) e free h = absurd (cc)
first catalog (text.del_rules name rules) e free h = absurd (cc)
first catalog (text.create_table name columns) e free h =
    ap (λ (r : Result names.Resolved Refusal). and_then r (λ _. required (nat_lt (length catalog.tables) table_limit) refusal.TooManyTables (Ok (create_table name columns)))) h
first catalog (text.drop_table name) e free h = refuses _ _ _ e h
first catalog (text.create_rule r) e free h =
    ap (λ (b : Bool). required (not b) refusal.RuleExists (and_then (walk_parts (outside_rules catalog) r) (walk_lists catalog r))) free
    ∙ refuses (walk_parts (outside_rules catalog) r) names.rule (walk_lists catalog r) e h
first catalog (text.query q) e free h = refuses _ _ _ e h
first catalog (text.change c) e free h = refuses _ _ _ e h
