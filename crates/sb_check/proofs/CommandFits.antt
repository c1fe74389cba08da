-- Whole commands that the walk resolves fit.
use Rattle.std.proofs.Common.{◌≡◌, [], subst}
use Rattle.std.specs.Prelude.{Result, Ok, Err, not, IfOk}
use Rattle.std.specs.List.{list_any}
use Rattle.sb_value.specs.declared.refusal.Refusal.{Refusal}
use Rattle.sb_value.specs.declared.refusal.Refusal.TheVariants as refusal
use Rattle.sb_value.specs.Name.{same_name}
use Rattle.sb_syntax.specs.Tree as text
use Rattle.sb_check.specs.declared.command.Resolved as stored
use Rattle.sb_check.specs.Answer.{Answers}
use Rattle.sb_check.specs.Fits.{PartsFit, Fits}
use Rattle.sb_check.specs.Names.{required}
use Rattle.sb_check.specs.Resolved.{Resolved, plain, new_table, table, rule, query, change, walk_names, named_twice, resolved}
use Rattle.sb_check.specs.RuleParts.{Parts, in_rule, walk_parts}
use Rattle.sb_check.specs.Walk.{Schema, table_named, walk_query, walk_statement}
use Rattle.sb_check.proofs.Fitting.{then_ok, required_ok, table_fits, query_fits, statement_fits, rule_condition_fits, actions_fit}
use Rattle.sb_check.proofs.Presence.{parts_walked}

parts_fit : (schema : Schema) (r : text.RuleText) (parts : Parts) → walk_parts schema r ≡ Ok parts → PartsFit schema parts
parts_fit schema r parts h =
    let w = parts_walked schema r parts h in
    let inside = in_rule schema w.0.table.columns w.2 in
    subst (PartsFit schema) w.8
    (w.0.table.columns, λ types_of are. (table_fits inside types_of are r.table w.0 w.1, rule_condition_fits inside types_of are r.condition w.4 w.5, actions_fit inside types_of are r.actions w.6 w.7))

plain_fits : (schema : Schema) (x : Resolved) → plain ≡ x → Fits schema x
unfolding Fits
plain_fits schema x is = subst (Fits schema) is tt

pub names_fit : (schema : Schema) (c : text.Command) (x : Resolved) → walk_names schema c ≡ Ok x → Fits schema x
unfolding Fits
names_fit schema (text.create_table name columns) x h =
    let a = required_ok (not (list_any (λ e. same_name e.name name) schema.tables)) refusal.TableExists (required (not (named_twice columns)) refusal.Ambiguous (Ok new_table)) x h in
    let b = required_ok (not (named_twice columns)) refusal.Ambiguous (Ok new_table) x a.1 in
    let is : new_table ≡ x = cc b.1 in
    subst (Fits schema) is tt
names_fit schema (text.drop_table name) x h =
    let e = then_ok (table_named schema name) (λ e. Ok (table e.id)) x h in
    let is : table e.0.id ≡ x = cc e.2 in
    subst (Fits schema) is tt
names_fit schema (text.create_rule r) x h =
    let p = then_ok (walk_parts schema r) (λ parts. Ok (rule parts)) x h in
    let is : rule p.0 ≡ x = cc p.2 in
    subst (Fits schema) is (parts_fit schema r p.0 p.1)
names_fit schema (text.query q) x h =
    let w = then_ok (walk_query schema q []) (λ w. Ok (query w.0)) x h in
    let is : query w.0.0 ≡ x = cc w.2 in
    subst (Fits schema) is (λ types_of are. (w.0.1, query_fits schema types_of are q [] w.0 w.1))
names_fit schema (text.change c) x h =
    let s = then_ok (walk_statement schema c) (λ s. Ok (change s)) x h in
    let is : change s.0 ≡ x = cc s.2 in
    subst (Fits schema) is (λ types_of are. statement_fits schema types_of are c s.0 s.1)
names_fit schema text.open_session x h = plain_fits schema x (cc h)
names_fit schema text.end_session x h = plain_fits schema x (cc h)
names_fit schema text.begin x h = plain_fits schema x (cc h)
names_fit schema text.commit x h = plain_fits schema x (cc h)
names_fit schema text.rollback x h = plain_fits schema x (cc h)
names_fit schema text.process_rules x h = plain_fits schema x (cc h)
names_fit schema (text.process_ruleset name) x h = plain_fits schema x (cc h)
names_fit schema (text.process_rule name) x h = plain_fits schema x (cc h)
names_fit schema (text.alter_rule r) x h = plain_fits schema x (cc h)
names_fit schema (text.drop_rule name) x h = plain_fits schema x (cc h)
names_fit schema (text.activate_rule name) x h = plain_fits schema x (cc h)
names_fit schema (text.deactivate_rule name) x h = plain_fits schema x (cc h)
names_fit schema (text.create_ruleset name) x h = plain_fits schema x (cc h)
names_fit schema (text.drop_ruleset name) x h = plain_fits schema x (cc h)
names_fit schema (text.add_rules name rules) x h = plain_fits schema x (cc h)
names_fit schema (text.del_rules name rules) x h = plain_fits schema x (cc h)

-- what is answered fits
pub answers_fit : (schema : Schema) (c : text.Command) (r : Result stored.Resolved Refusal) → Answers resolved (walk_names schema c) r → IfOk r (λ y. Fits schema (resolved y))
answers_fit schema c (Ok y) h = names_fit schema c (resolved y) h
answers_fit schema c (Err e) h = tt
