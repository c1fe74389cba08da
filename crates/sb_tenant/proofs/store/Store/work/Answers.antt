use Rattle.std.proofs.Common.{◌≡◌, ◌∙◌, ℕ, List, ◌&&◌, nat_eq, ap, sym, subst, inl, arith, refl}
use Rattle.std.specs.Prelude.{None, Result, Ok, Err}
use Rattle.sb_value.specs.Flags.{flag_at}
use Rattle.sb_value.specs.declared.refusal.Refusal.{Refusal}
use Rattle.sb_value.specs.declared.refusal.Refusal.TheVariants as refusal
use Rattle.sb_syntax.specs.Tree as text
use Rattle.sb_syntax.specs.Views as view
use Rattle.sb_check.specs.Names.{and_then, required}
use Rattle.sb_catalog.specs.Ruleset.{Ruleset}
use Rattle.sb_catalog.specs.Sets.{has_name}
use Rattle.sb_catalog.specs.Rules.{rule_named, is_active}
use Rattle.sb_catalog.specs.Definitions.{is_member}
use Rattle.sb_catalog.specs.declared.rule.Rule.{Rule}
use Rattle.sb_tenant.specs.declared.reply.Reply.{Reply}
use Rattle.sb_tenant.specs.Represents.{Performs}
use Rattle.sb_tenant.specs.Resolved.{process_ruleset, process_rule}
use Rattle.sb_tenant.specs.Step.{outcome_of}
use Rattle.sb_tenant.specs.Walk.{walk}
use Rattle.sb_tenant.proofs.Answering.{performs_command}
use Rattle.sb_tenant.proofs.Leaving.{leaves_more, leaves_same, leaves-budget, with-budget}
use Rattle.sb_tenant.proofs.Working.{performs_as}
use Rattle.sb_tenant.proofs.store.Store.work.Goals as goal

pub returns-in-Commit-clause-performed : goal.returns-in-Commit-clause-performed
returns-in-Commit-clause-performed g c = λ state h.
    performs_command state c.args.self.now.database.id c.args.asker.now.bound c.args.asker.now.session (ap view.transaction_command c.in-Commit.is)
    (c.process.ensures.performed state (with-budget c.args.asker.now.bound.work h) (is_active state.catalog.rules) (λ id. c.active-eligible.ensures id ∙ ap (λ (rs : List Rule). is_active rs id) h.0.1.rules))

pub returns-in-Rollback-clause-performed : goal.returns-in-Rollback-clause-performed
returns-in-Rollback-clause-performed g c = λ state h.
    performs_command state c.args.self.now.database.id c.args.asker.now.bound c.args.asker.now.session (ap view.transaction_command c.in-Rollback.is)
    (inl (ap (λ (r : Reply × Reply). r.0) c.done.ensures, c.conclude.ensures.concluded c.args.index.now state (with-budget c.args.asker.now.bound.work h)))

pub returns-in-Rollback-clause-leaves : goal.returns-in-Rollback-clause-leaves
returns-in-Rollback-clause-leaves g c = leaves_more (leaves-budget c.conclude.ensures.leaves) (omega arith)

pub returns-in-ProcessRules-clause-performed : goal.returns-in-ProcessRules-clause-performed
returns-in-ProcessRules-clause-performed g c = λ state h.
    performs_command state c.args.self.now.database.id c.args.asker.now.bound c.args.asker.now.session (ap view.transaction_command c.in-ProcessRules.is)
    (c.process-in-ProcessRules.ensures.performed state (with-budget c.args.asker.now.bound.work h) (is_active state.catalog.rules) (λ id. c.active-eligible-in-ProcessRules.ensures id ∙ ap (λ (rs : List Rule). is_active rs id) h.0.1.rules))

pub returns-in-Query-clause-performed : goal.returns-in-Query-clause-performed
returns-in-Query-clause-performed g c = λ state h.
    performs_command state c.args.self.now.database.id c.args.asker.now.bound c.args.asker.now.session (ap view.transaction_command c.in-Query.is)
    (subst (λ q. Performs c.query.new.self (g.L.ChangeLog.records c.query.new.log) (g.L.ChangeLog.clock c.query.new.log) c.args.index.now state c.args.asker.now.session (outcome_of c.args.self.now.database.id c.args.asker.now.bound state c.args.asker.now.session None (walk state.catalog (text.query (view.query q)))) c.query.result.0) c.deref.ensures (c.query.ensures.performed c.args.index.now state (with-budget c.args.asker.now.bound.work h) c.args.asker.now.bound refl))

pub returns-in-Query-clause-leaves : goal.returns-in-Query-clause-leaves
returns-in-Query-clause-leaves g c = leaves_more (leaves-budget c.query.ensures.leaves) (omega arith)

pub returns-in-Change-clause-performed : goal.returns-in-Change-clause-performed
returns-in-Change-clause-performed g c = λ state h.
    performs_command state c.args.self.now.database.id c.args.asker.now.bound c.args.asker.now.session (ap view.transaction_command c.in-Change.is)
    (c.write.ensures.performed state (with-budget c.args.asker.now.bound.work h) c.args.asker.now.bound refl)

pub returns-in-Change-clause-leaves : goal.returns-in-Change-clause-leaves
returns-in-Change-clause-leaves g c = leaves_more (leaves-budget c.write.ensures.leaves) (omega arith)

pub returns-in-None-clause-performed : goal.returns-in-None-clause-performed
returns-in-None-clause-performed g c = λ state h.
    let name = c.in-ProcessRuleset.name in
    performs_command state c.args.self.now.database.id c.args.asker.now.bound c.args.asker.now.session (ap view.transaction_command c.in-ProcessRuleset.is)
    (performs_as (record c.args.self.now { database = record c.args.self.now.database { left = c.args.asker.now.bound.work } }) (g.L.ChangeLog.records c.args.log.now) (g.L.ChangeLog.clock c.args.log.now) c.args.index.now state c.args.self.now.database.id c.args.asker.now.bound c.args.asker.now.session (walk state.catalog (text.process_ruleset name)) (Err refusal.NoRuleset) c.refused.result.0
    (ap (λ b. required b refusal.NoRuleset (Ok (process_ruleset name))) (ap (λ (sets : List Ruleset). has_name sets name) (sym h.0.1.rulesets) ∙ c.in-None.ensures.members))
    (inl (ap (λ (r : Reply × Reply). r.0) c.refused.ensures, with-budget c.args.asker.now.bound.work h)))

pub returns-in-None-clause-leaves : goal.returns-in-None-clause-leaves
returns-in-None-clause-leaves g c = leaves_same 32768000 refl refl

pub returns-in-Some-clause-performed : goal.returns-in-Some-clause-performed
returns-in-Some-clause-performed g c = λ state h.
    let name = c.in-ProcessRuleset.name in
    performs_command state c.args.self.now.database.id c.args.asker.now.bound c.args.asker.now.session (ap view.transaction_command c.in-ProcessRuleset.is)
    (performs_as c.process-in-Some.new.self (g.L.ChangeLog.records c.process-in-Some.new.log) (g.L.ChangeLog.clock c.process-in-Some.new.log) c.args.index.now state c.args.self.now.database.id c.args.asker.now.bound c.args.asker.now.session (walk state.catalog (text.process_ruleset name)) (Ok (process_ruleset name)) c.process-in-Some.result.0
    (ap (λ b. required b refusal.NoRuleset (Ok (process_ruleset name))) (ap (λ (sets : List Ruleset). has_name sets name) (sym h.0.1.rulesets) ∙ c.in-Some.ensures.known))
    (c.process-in-Some.ensures.performed state (with-budget c.args.asker.now.bound.work h) (λ id. is_active state.catalog.rules id && is_member state.catalog.rulesets name id)
    (λ id. c.in-Some.ensures.members id ∙ (λ i. is_active (h.0.1.rules i) id && is_member (h.0.1.rulesets i) name id))))

pub returns-in-Some-active_rule-clause-performed : goal.returns-in-Some-active_rule-clause-performed
returns-in-Some-active_rule-clause-performed g c = λ state h.
    let name = c.in-ProcessRule.name in
    let found : (r : ℕ) × (rule_named c.args.self.now.definitions.rules name ≡ Ok r) × ((id : ℕ) → flag_at c.in-Some-active_rule.eligible id ≡ (nat_eq id r && is_active c.args.self.now.definitions.rules id)) = c.in-Some-active_rule.ensures in
    performs_command state c.args.self.now.database.id c.args.asker.now.bound c.args.asker.now.session (ap view.transaction_command c.in-ProcessRule.is)
    (performs_as c.process-in-Some-active_rule.new.self (g.L.ChangeLog.records c.process-in-Some-active_rule.new.log) (g.L.ChangeLog.clock c.process-in-Some-active_rule.new.log) c.args.index.now state c.args.self.now.database.id c.args.asker.now.bound c.args.asker.now.session (walk state.catalog (text.process_rule name)) (Ok (process_rule found.0)) c.process-in-Some-active_rule.result.0
    (ap (λ (o : Result ℕ Refusal). and_then o (λ id. Ok (process_rule id))) (ap (λ (rs : List Rule). rule_named rs name) (sym h.0.1.rules) ∙ found.1))
    (c.process-in-Some-active_rule.ensures.performed state (with-budget c.args.asker.now.bound.work h) (λ id. nat_eq id found.0 && is_active state.catalog.rules id)
    (λ id. found.2 id ∙ ap (λ (rs : List Rule). nat_eq id found.0 && is_active rs id) h.0.1.rules)))

pub returns-in-None-active_rule-clause-performed : goal.returns-in-None-active_rule-clause-performed
returns-in-None-active_rule-clause-performed g c = λ state h.
    let name = c.in-ProcessRule.name in
    let none : rule_named c.args.self.now.definitions.rules name ≡ Err refusal.NoRule = c.in-None-active_rule.ensures in
    performs_command state c.args.self.now.database.id c.args.asker.now.bound c.args.asker.now.session (ap view.transaction_command c.in-ProcessRule.is)
    (performs_as (record c.args.self.now { database = record c.args.self.now.database { left = c.args.asker.now.bound.work } }) (g.L.ChangeLog.records c.args.log.now) (g.L.ChangeLog.clock c.args.log.now) c.args.index.now state c.args.self.now.database.id c.args.asker.now.bound c.args.asker.now.session (walk state.catalog (text.process_rule name)) (Err refusal.NoRule) c.refused-in-None-active_rule.result.0
    (ap (λ (o : Result ℕ Refusal). and_then o (λ id. Ok (process_rule id))) (ap (λ (rs : List Rule). rule_named rs name) (sym h.0.1.rules) ∙ none))
    (inl (ap (λ (r : Reply × Reply). r.0) c.refused-in-None-active_rule.ensures, (with-budget c.args.asker.now.bound.work h))))

pub returns-in-None-active_rule-clause-leaves : goal.returns-in-None-active_rule-clause-leaves
returns-in-None-active_rule-clause-leaves g c = leaves_same 32768000 refl refl

pub process-requires-clause-stand : goal.process-requires-clause-stand
process-requires-clause-stand g c = (c.requires.stand.0, with-budget c.args.asker.now.bound.work c.requires.stand.1)

pub process-requires-in-ProcessRules-clause-stand : goal.process-requires-in-ProcessRules-clause-stand
process-requires-in-ProcessRules-clause-stand g c = (c.requires.stand.0, with-budget c.args.asker.now.bound.work c.requires.stand.1)

pub process-requires-in-Some-clause-stand : goal.process-requires-in-Some-clause-stand
process-requires-in-Some-clause-stand g c = (c.requires.stand.0, with-budget c.args.asker.now.bound.work c.requires.stand.1)

pub process-requires-in-Some-active_rule-clause-stand : goal.process-requires-in-Some-active_rule-clause-stand
process-requires-in-Some-active_rule-clause-stand g c = (c.requires.stand.0, with-budget c.args.asker.now.bound.work c.requires.stand.1)

pub write-requires-clause-stand : goal.write-requires-clause-stand
write-requires-clause-stand g c = (c.requires.stand.0, with-budget c.args.asker.now.bound.work c.requires.stand.1)

pub conclude-requires-clause-stand : goal.conclude-requires-clause-stand
conclude-requires-clause-stand g c = (c.args.index.now, c.requires.stand.0, with-budget c.args.asker.now.bound.work c.requires.stand.1)

pub query-requires-clause-stand : goal.query-requires-clause-stand
query-requires-clause-stand g c = (c.args.index.now, c.requires.stand.0, with-budget c.args.asker.now.bound.work c.requires.stand.1)
