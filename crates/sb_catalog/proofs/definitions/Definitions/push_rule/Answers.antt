use Rattle.std.proofs.Common.{◌≡◌, ◌∙◌, ◌<◌, ◌==◌, ℕ, false, not, cond, List, [], ◌∷◌, ◌++◌, map, length, Option, Some, None, Ok, IfOk, option_map, unwrap_or, refl, sym, ap, subst, inl, inr}
use Rattle.std.proofs.lemmas.Bool.{false≢true, ltb-true}
use Rattle.std.proofs.lemmas.List.{length-map, map-append}
use Rattle.std.specs.List.{list_any}
use Rattle.sb_value.specs.Limits.{rule_limit}
use Rattle.sb_value.specs.Order.{precedes}
use Rattle.sb_value.specs.declared.refusal.Refusal.TheVariants.{NoRule, RuleExists, TooManyRules, Cycle, NoMemory}
use Rattle.sb_check.specs.Names.{some_or, required}
use Rattle.sb_check.specs.RulePartsView.{rule_parts}
use Rattle.sb_priority.specs.Ranks.{pairs_of, ClosesCycle, Gains}
use Rattle.sb_catalog.specs.declared.rule.Rule.{Rule}
use Rattle.sb_catalog.specs.Rules.{free_rule, numbered, rule_named, rule_of, without_rule}
use Rattle.sb_catalog.proofs.Indexing.{named_last, without_last}
use Rattle.sb_catalog.proofs.NewRules.{agreed, unlisted}
use Rattle.sb_catalog.proofs.definitions.Definitions.push_rule.Goals as goal

pub returns-then-closes_cycle : goal.returns-then-closes_cycle
returns-then-closes_cycle c = λ pairs o.
    let more : List (ℕ × ℕ) = pairs_of c.args.rule c.args.before.now c.args.after.now in (
      inl (λ i. required (not ((ap (λ id. precedes (pairs ++ more) id id) (sym c.requires.number) ∙ sym (c.closes_cycle.ensures pairs o.order) ∙ c.if-closes_cycle.true) i)) Cycle (Ok more)),
      refl,
    )

-- the order lists as many rules as there are, and not the new one
pub add-requires : goal.add-requires
add-requires c =
    let rules = c.args.self.now.rules in
    let listed = c.reserve.ensures.rules ∙ c.requires.ordered.1.listed in
    let count = ap length listed ∙ length-map rules (λ (r : Rule). r.id) in
    record {
      room = subst (λ (n : ℕ). n < rule_limit) (sym count) (ltb-true (length rules) rule_limit c.requires.room);
      row = c.in-Ok-reserve.ensures.room;
      new = ap (λ (ids : List ℕ). list_any (λ k. k == c.args.rule) ids) listed ∙ unlisted rules c.args.rule c.requires.free;
      others = λ r h. ap (λ (ids : List ℕ). list_any (λ k. k == r) ids) listed ∙ c.requires.others r h;
    }

pub returns-in-Ok-reserve : goal.returns-in-Ok-reserve
returns-in-Ok-reserve c = λ pairs o.
    let rules = c.args.self.now.rules in
    let more : List (ℕ × ℕ) = pairs_of c.args.rule c.args.before.now c.args.after.now in
    let no : precedes (pairs ++ more) c.args.rule c.args.rule ≡ false = sym (c.closes_cycle.ensures pairs o.order) ∙ c.if-closes_cycle.false in
    let mid = c.reserve.ensures.pairs pairs o.order in
    let never = λ (cycle : ClosesCycle c.reserve.new.self c.args.rule more). false≢true (sym no ∙ cycle pairs mid) in
    let linked = agreed c.add.result (Gains c.reserve.new.self c.add.new.self more) (ClosesCycle c.reserve.new.self c.args.rule more) c.add.ensures.linked c.add.ensures.cycle never pairs mid in
    let last = agreed c.add.result (c.add.new.self.rules ≡ c.reserve.new.self.rules ++ c.args.rule ∷ []) (ClosesCycle c.reserve.new.self c.args.rule more) c.add.ensures.last c.add.ensures.cycle never in (
      (λ i. required (not ((ap (λ id. precedes (pairs ++ more) id id) (sym c.requires.number) ∙ no) i)) Cycle (Ok more)),
      c.in-Ok.ensures.added,
      record {
        order = linked;
        listed = last ∙ (λ i. (c.reserve.ensures.rules ∙ o.listed) i ++ c.requires.number i ∷ []) ∙ sym (map-append (λ (r : Rule). r.id) rules (rule_of (free_rule rules) c.args.name (rule_parts c.args.read.parts) ∷ [])) ∙ ap (map (λ (r : Rule). r.id)) (sym c.in-Ok.ensures.added);
      },
      refl,
    )

-- the rule that was made is found and dropped again
dropped : (c : goal.After-drop_rule) → c.drop_rule.new.self ≡ c.args.self.now.rules
dropped c =
    let rules = c.args.self.now.rules in
    let rule : Rule = rule_of (free_rule rules) c.args.name (rule_parts c.args.read.parts) in
    let found : c.drop_rule.result ≡ Ok rule.id =
    c.drop_rule.ensures.found ∙ ap (λ (l : List Rule). rule_named l c.args.name) c.in-Ok.ensures.added
    ∙ ap (λ (f : Option Rule). some_or NoRule (option_map (λ r. r.id) f)) (named_last rules rule c.requires.new_name) in
    subst (λ r. IfOk r (λ id. c.drop_rule.new.self ≡ without_rule c.create.new.self id)) found c.drop_rule.ensures.dropped
    ∙ ap (λ (l : List Rule). without_rule l rule.id) c.in-Ok.ensures.added
    ∙ without_last rules rule (ap (numbered rules) (sym c.requires.number) ∙ c.requires.free)

pub returns-in-Err-reserve : goal.returns-in-Err-reserve
returns-in-Err-reserve c = λ pairs o. (
  inr refl,
  λ i. record { rules = dropped c i; order = c.in-Err-reserve.ensures.unchanged i; rulesets = c.args.self.now.rulesets },
)

-- its name is new and there is room, so memory lacks
pub returns-in-Err : goal.returns-in-Err
returns-in-Err c = λ pairs o. (
  inr (c.in-Err.ensures.refused ∙ (λ i. unwrap_or (cond (c.requires.new_name i) (Some RuleExists) (cond (c.requires.room i) None (Some TooManyRules))) NoMemory)),
  λ i. record { rules = c.in-Err.ensures.unchanged i; order = c.args.self.now.order; rulesets = c.args.self.now.rulesets },
)
