-- The clauses that are kept of rules, after a change of the rules.
use Rattle.std.proofs.Common.{◌≡◌, ◌<◌, ◌+◌, arith, ℕ, zero, suc, Bool, true, false, cond, nat_eq, List, [], ◌∷◌, ◌++◌, length, map, set, Option, Some, None, Result, Ok, Err, Vec, unwrap_or, slice_get, refl, sym, ap, ◌∙◌, subst}
use Rattle.std.specs.Global.{Global}
use Rattle.std.specs.List.{remove}
use Rattle.std.proofs.lemmas.Option.{none-some, same_Some, slice_get_within}
use Rattle.sb_value.specs.declared.net.Triggers.{Triggers}
use Rattle.sb_value.specs.declared.refusal.Refusal.{Refusal}
use Rattle.sb_value.specs.declared.value.ColumnDefinition.{ColumnDefinition}
use Rattle.sb_syntax.specs.Tree as text
use Rattle.sb_syntax.specs.Tree.{AlterationText, RuleText}
use Rattle.sb_check.specs.Condition.{Query}
use Rattle.sb_check.specs.Names.{and_then}
use Rattle.sb_check.specs.RuleParts.{NewParts, Parts, actions_parts, condition_parts, in_rule, walk_alteration, walk_parts}
use Rattle.sb_check.specs.Walk.{Schema, table_named, walk_query}
use Rattle.sb_check.specs.Triggers.{walk_triggers}
use Rattle.sb_check.specs.declared.tree.Action.{Action}
use Rattle.sb_catalog.specs.ClauseTexts.{AreClauses, AreNewClauses, IsActionsText, IsConditionText, WhereThere, altered}
use Rattle.sb_catalog.specs.ClauseTexts as c
use Rattle.sb_catalog.specs.declared.clauses.NewClauses.{NewClauses}
use Rattle.sb_catalog.specs.declared.clauses.RuleClauses.{RuleClauses}
use Rattle.sb_catalog.specs.declared.rule.Rule.{Rule}
use Rattle.sb_catalog.specs.Clauses.{AreClausesOf, AreNewClausesOf, HaveClauses, IsActionsOf, IsConditionOf, parts_of, walk_actions}
use Rattle.sb_catalog.specs.Rules.{change_numbered, set_parts, with_parts, written_or}
use Rattle.sb_catalog.specs.Places.{AreNotedFrom, place_at}
use Rattle.sb_catalog.proofs.Noted.{changed, noted_at}

-- ---- lists

pub written_push : (rules : List Rule) (all : List RuleClauses) (r : Rule) (clauses : RuleClauses) → HaveClauses rules all → AreClausesOf clauses (parts_of r) → HaveClauses (rules ++ r ∷ []) (all ++ clauses ∷ [])
written_push [] [] r clauses h w = (w, tt)
written_push [] (x ∷ all) r clauses h w = absurd h
written_push (s ∷ rules) [] r clauses h w = absurd h
written_push (s ∷ rules) (x ∷ all) r clauses h w = (h.0, written_push rules all r clauses h.1 w)

pub written_without : (rules : List Rule) (all : List RuleClauses) (i : ℕ) → HaveClauses rules all → HaveClauses (remove rules i) (remove all i)
written_without [] [] zero h = tt
written_without [] [] (suc i) h = tt
written_without [] (x ∷ all) i h = absurd h
written_without (s ∷ rules) [] i h = absurd h
written_without (s ∷ rules) (x ∷ all) zero h = h.1
written_without (s ∷ rules) (x ∷ all) (suc i) h = (h.0, written_without rules all i h.1)

pub written_set : (rules : List Rule) (all : List RuleClauses) (i : ℕ) (r : Rule) (clauses : RuleClauses) → HaveClauses rules all → AreClausesOf clauses (parts_of r) → HaveClauses (set rules i r) (set all i clauses)
written_set [] [] zero r clauses h w = tt
written_set [] [] (suc i) r clauses h w = tt
written_set [] (x ∷ all) i r clauses h w = absurd h
written_set (s ∷ rules) [] i r clauses h w = absurd h
written_set (s ∷ rules) (x ∷ all) zero r clauses h w = (w, h.1)
written_set (s ∷ rules) (x ∷ all) (suc i) r clauses h w = (h.0, written_set rules all i r clauses h.1 w)

-- a change that leaves the parts leaves the clauses
pub written_same : (change : Rule → Rule) → ((r : Rule) → parts_of (change r) ≡ parts_of r) → (n : ℕ) (rules : List Rule) (all : List RuleClauses) → HaveClauses rules all → HaveClauses (map (change_numbered n change) rules) all
written_same change keeps n [] [] h = tt
written_same change keeps n [] (x ∷ all) h = absurd h
written_same change keeps n (s ∷ rules) [] h = absurd h
written_same change keeps n (s ∷ rules) (x ∷ all) h = (by (nat_eq s.id n), written_same change keeps n rules all h.1)
  where
    by : (b : Bool) → AreClausesOf x (parts_of (cond b (change s) s))
    by true = subst (AreClausesOf x) (sym (keeps s)) h.0
    by false = h.0

pub written_length : (rules : List Rule) (all : List RuleClauses) → HaveClauses rules all → length all ≡ length rules
written_length [] [] h = refl
written_length [] (x ∷ all) h = absurd h
written_length (s ∷ rules) [] h = absurd h
written_length (s ∷ rules) (x ∷ all) h = ap suc (written_length rules all h.1)

-- those of the rule at a place
pub written_at : (rules : List Rule) (all : List RuleClauses) (i : ℕ) (r : Rule) → HaveClauses rules all → slice_get rules i ≡ Some r → (clauses : RuleClauses) × (slice_get all i ≡ Some clauses) × AreClausesOf clauses (parts_of r)
written_at [] all i r h e = absurd (none-some r e)
written_at (s ∷ rules) [] i r h e = absurd h
written_at (s ∷ rules) (x ∷ all) zero r h e = (x, refl, subst (λ (q : Rule). AreClausesOf x (parts_of q)) (same_Some s r e) h.0)
written_at (s ∷ rules) (x ∷ all) (suc i) r h e = written_at rules all i r h.1 e

-- ---- an altered rule

new_condition : (old : Option (Vec ℕ Global)) (query : Option Query) (written : Option (Vec ℕ Global)) (new : Option Query) → WhereThere IsConditionOf old query → WhereThere IsConditionOf written new
    → WhereThere IsConditionOf (c.written_or written old) (written_or new query)
new_condition old query None None h w = h
new_condition old query None (Some q) h w = absurd w
new_condition old query (Some t) None h w = absurd w
new_condition old query (Some t) (Some q) h w = w

new_actions : (old : Vec ℕ Global) (actions : List Action) (written : Option (Vec ℕ Global)) (new : Option (List Action)) → IsActionsOf old.items actions → WhereThere IsActionsOf written new
    → IsActionsOf (unwrap_or written old).items (unwrap_or new actions)
new_actions old actions None None h w = h
new_actions old actions None (Some all) h w = absurd w
new_actions old actions (Some t) None h w = absurd w
new_actions old actions (Some t) (Some all) h w = w

pub written_anew : (old : RuleClauses) (new : NewClauses) (parts : NewParts) (r : Rule) → AreClausesOf old (parts_of r) → AreNewClausesOf new parts → AreClausesOf (altered new old) (parts_of (set_parts parts r))
written_anew old new parts r h w = record {
  event = h.event;
  condition = new_condition old.condition r.condition new.condition parts.0 h.condition w.condition;
  actions = new_actions old.actions r.actions new.actions parts.1 h.actions w.actions;
}

-- ---- what is read means the parts that the walk gives

two_steps : {A B : Type 0} (first : Result A Refusal) (next : A → Result B Refusal) (y : B) → and_then first next ≡ Ok y → (x : A) × (first ≡ Ok x) × (next x ≡ Ok y)
two_steps (Ok x) next y e = (x, refl, e)
two_steps (Err f) next y e = absurd (cc)

same_ok : {A : Type 0} (x y : A) → ◌≡◌ {A = Result A Refusal} (Ok x) (Ok y) → x ≡ y
same_ok x y e = cc

condition_means : (schema : Schema) (written : Option (Vec ℕ Global)) (read : Option text.Query) (condition : Option Query) → WhereThere IsConditionText written read → condition_parts schema read ≡ Ok condition → WhereThere IsConditionOf written condition
condition_means schema None None condition h e = subst (WhereThere IsConditionOf None) (same_ok None condition e) tt
condition_means schema None (Some q) condition h e = absurd h
condition_means schema (Some t) None condition h e = absurd h
condition_means schema (Some t) (Some q) condition h e =
    let s = two_steps (walk_query schema q []) (λ w. Ok (Some w.0)) condition e in
    subst (WhereThere IsConditionOf (Some t)) (same_ok (Some s.0.0) condition s.2) (schema, q, h, ap (λ r. and_then r (λ w. Ok w.0)) s.1)

actions_mean : (schema : Schema) (written : Option (Vec ℕ Global)) (read : Option (List text.Action)) (actions : Option (List Action)) → WhereThere IsActionsText written read → actions_parts schema read ≡ Ok actions → WhereThere IsActionsOf written actions
actions_mean schema None None actions h e = subst (WhereThere IsActionsOf None) (same_ok None actions e) tt
actions_mean schema None (Some all) actions h e = absurd h
actions_mean schema (Some t) None actions h e = absurd h
actions_mean schema (Some t) (Some all) actions h e =
    let s = two_steps (walk_actions schema all) (λ a. Ok (Some a)) actions e in
    subst (WhereThere IsActionsOf (Some t)) (same_ok (Some s.0) actions s.2) (schema, all, h, s.1)

pub clauses_mean : (clauses : RuleClauses) (r : RuleText) (schema : Schema) (parts : Parts) → AreClauses clauses r → walk_parts schema r ≡ Ok parts → AreClausesOf clauses parts
clauses_mean clauses r schema parts h e =
    let t = two_steps (table_named schema r.table) _ parts e in
    let g = two_steps (walk_triggers t.0.table.columns r.triggers) _ parts t.2 in
    let inner = in_rule schema t.0.table.columns g.0 in
    let q = two_steps (condition_parts inner r.condition) _ parts g.2 in
    let a = two_steps (walk_actions inner r.actions) _ parts q.2 in
    subst (AreClausesOf clauses) (same_ok (t.0.id, g.0, q.0, a.0) parts a.2) (record {
      event = (schema, (r.table, r.triggers), h.event, ap (λ x. and_then x (λ t. and_then (walk_triggers t.table.columns r.triggers) (λ triggers. Ok (t.id, triggers)))) t.1 ∙ ap (λ x. and_then x (λ triggers. Ok (t.0.id, triggers))) g.1);
      condition = condition_means inner clauses.condition r.condition q.0 h.condition q.1;
      actions = (inner, r.actions, h.actions, a.1);
    })

pub new_clauses_mean : (clauses : NewClauses) (r : AlterationText) (schema : Schema) (columns : List ColumnDefinition) (triggers : Triggers) (parts : NewParts) → AreNewClauses clauses r → walk_alteration schema columns triggers r ≡ Ok parts → AreNewClausesOf clauses parts
new_clauses_mean clauses r schema columns triggers parts h e =
    let inner = in_rule schema columns triggers in
    let q = two_steps (condition_parts inner r.condition) _ parts e in
    let a = two_steps (actions_parts inner r.actions) _ parts q.2 in
    subst (AreNewClausesOf clauses) (same_ok (q.0, a.0) parts a.2) (record {
      condition = condition_means inner clauses.condition r.condition q.0 h.condition q.1;
      actions = actions_mean inner clauses.actions r.actions a.0 h.actions a.1;
    })

-- ---- the rule that is altered, at the place that is noted for it

place_is : (places : List ℕ) (rules : List Rule) (i place : ℕ) (r : Rule) → AreNotedFrom 0 places rules → slice_get rules i ≡ Some r → place ≡ place_at places r.id → place ≡ i
place_is places rules i place r noted at e =
    let p : place_at places r.id ≡ 0 + i = ap (λ (o : Option ℕ). unwrap_or o 0) (noted_at places 0 i rules r noted at) in
    e ∙ p ∙ omega arith

pub written_within : (places : List ℕ) (rules : List Rule) (all : List RuleClauses) (i place : ℕ) (r : Rule) → AreNotedFrom 0 places rules → HaveClauses rules all → slice_get rules i ≡ Some r → place ≡ place_at places r.id → place < length all
written_within places rules all i place r noted h at e = omega (arith, place_is places rules i place r noted at e, slice_get_within rules i r at, written_length rules all h)

pub written_altered : (places : List ℕ) (rules : List Rule) (all : List RuleClauses) (i place : ℕ) (r : Rule) (old changed_to : RuleClauses) (new : NewClauses) (parts : NewParts)
    → AreNotedFrom 0 places rules → HaveClauses rules all → slice_get rules i ≡ Some r → place ≡ place_at places r.id → slice_get all place ≡ Some old → changed_to ≡ altered new old → AreNewClausesOf new parts
    → HaveClauses (with_parts rules r.id parts) (set all place changed_to)
written_altered places rules all i place r old changed_to new parts noted h at e there becomes w =
    let p = place_is places rules i place r noted at e in
    let here = written_at rules all i r h at in
    let same : old ≡ here.0 = same_Some old here.0 (sym there ∙ ap (slice_get all) p ∙ here.1) in
    let means = written_anew here.0 new parts r here.2 w in
    let put = written_set rules all i (set_parts parts r) changed_to h (subst (λ (x : RuleClauses). AreClausesOf x (parts_of (set_parts parts r))) (sym (becomes ∙ ap (altered new) same)) means) in
    subst (λ (n : ℕ). HaveClauses (with_parts rules r.id parts) (set all n changed_to)) (sym p)
    (subst (λ (rs : List Rule). HaveClauses rs (set all i changed_to)) (sym (changed places (set_parts parts) 0 i rules r noted at)) put)
