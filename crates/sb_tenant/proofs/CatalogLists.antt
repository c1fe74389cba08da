-- Tables that come and go, and rules that come and go: what they leave of proper lists, and what commands ask of them.
use Rattle.std.proofs.Common.{◌≡◌, ◌∙◌, ℕ, Bool, true, false, not, ◌||◌, cond, nat_eq, List, [], ◌∷◌, ◌++◌, filter, refl, sym, ap, subst, eqb-true, true≢false, IsTrue}
use Rattle.std.specs.List.{list_any}
use Rattle.std.proofs.lemmas.Bool.{eq-eqb, or_parts}
use Rattle.sb_value.specs.declared.change.Change.{Change}
use Rattle.sb_value.specs.Table.{Entry, empty_table, has_table, table_at, IsProper, IsTable}
use Rattle.sb_check.specs.There as check
use Rattle.sb_check.specs.declared.tree.Action.{Action}
use Rattle.sb_check.specs.declared.tree.Action.TheVariants as action
use Rattle.sb_check.specs.declared.tree.Statement.{Statement}
use Rattle.sb_check.specs.declared.tree.Statement.TheVariants.{InsertRows, InsertQuery, Delete, Update}
use Rattle.sb_check.specs.Mentions.{sources_of, query_sources, assignment_sources}
use Rattle.sb_catalog.specs.Rules.{without_rule, with_active, set_parts, with_parts}
use Rattle.sb_check.specs.RuleParts.{NewParts}
use Rattle.sb_syntax.specs.Tree as text
use Rattle.std.proofs.lemmas.Option.{none-some, same_Some}
use Rattle.std.specs.Prelude.{Option, None, Some, unwrap_or}
use Rattle.sb_catalog.specs.Uses.{has_source, statement_names, action_names, condition_names, rule_names, is_used}
use Rattle.sb_catalog.specs.declared.rule.Rule.{Rule}
use Rattle.sb_eval.specs.Target.{target}
use Rattle.sb_tenant.proofs.Keeping.{AreGoodActions, AreGoodRules}
use Rattle.sb_tenant.proofs.ListLaws.{IsIn}
use Rattle.sb_tenant.proofs.ProperLists.{AreOn, proper-on}

-- ---- one table more

module _ (new : Entry) where
  pub has-more : (es : List Entry) (t : ℕ) → IsTrue (has_table es t) → IsTrue (has_table (es ++ new ∷ []) t)
  has-more [] t h = absurd (true≢false (sym h))
  has-more (e ∷ es) t h = by (nat_eq e.id t) h (has-more es t)
    where
      by : (b : Bool) → IsTrue (b || has_table es t) → (IsTrue (has_table es t) → IsTrue (has_table (es ++ new ∷ []) t)) → IsTrue (b || has_table (es ++ new ∷ []) t)
      by true k rest = refl
      by false k rest = rest k

  at-more : (es : List Entry) (t : ℕ) → IsTrue (has_table es t) → table_at (es ++ new ∷ []) t ≡ table_at es t
  at-more [] t h = absurd (true≢false (sym h))
  at-more (e ∷ es) t h = by (nat_eq e.id t) h (at-more es t)
    where
      by : (b : Bool) → IsTrue (b || has_table es t) → (IsTrue (has_table es t) → table_at (es ++ new ∷ []) t ≡ table_at es t) → cond b e.table (table_at (es ++ new ∷ []) t) ≡ cond b e.table (table_at es t)
      by true k rest = refl
      by false k rest = rest k

  pub sound-more : IsTable new.table → (es : List Entry) (t : ℕ) → IsTable (table_at es t) → IsTable (table_at (es ++ new ∷ []) t)
  sound-more sound [] t h = by (nat_eq new.id t)
    where
      by : (b : Bool) → IsTable (cond b new.table (empty_table []))
      by true = sound
      by false = h
  sound-more sound (e ∷ es) t h = by (nat_eq e.id t) h (sound-more sound es t)
    where
      by : (b : Bool) → IsTable (cond b e.table (table_at es t)) → (IsTable (table_at es t) → IsTable (table_at (es ++ new ∷ []) t)) → IsTable (cond b e.table (table_at (es ++ new ∷ []) t))
      by true k rest = k
      by false k rest = rest k

  on-all : (cs : List Change) → AreOn (λ t. true) cs
  on-all [] = tt
  on-all (c ∷ cs) = (refl, on-all cs)

  pub proper-more : (es : List Entry) (cs : List Change) → IsProper es cs → IsProper (es ++ new ∷ []) cs
  proper-more es cs = proper-on (λ t. true) cs es (es ++ new ∷ []) (on-all cs) (λ t p h. (has-more es t h, at-more es t h))

-- ---- one table less

module _ (id : ℕ) where
  abbrev less : List Entry → List Entry
  less es = filter (λ e. not (nat_eq e.id id)) es

  pub sound-less : (es : List Entry) (t : ℕ) → IsTable (table_at es t) → IsTable (table_at (less es) t)
  sound-less es t h = by (nat_eq t id) refl
    where
      gone : (es : List Entry) → IsTable (table_at (less es) id)
      gone [] = (tt, tt)
      gone (e ∷ es) = out (nat_eq e.id id) refl (gone es)
        where
          out : (b : Bool) → nat_eq e.id id ≡ b → IsTable (table_at (less es) id) → IsTable (table_at (cond (not b) (e ∷ less es) (less es)) id)
          out true p rest = rest
          out false p rest = subst (λ (b : Bool). IsTable (cond b e.table (table_at (less es) id))) (sym p) rest

      same : nat_eq t id ≡ false → (es : List Entry) → table_at (less es) t ≡ table_at es t
      same o [] = refl
      same o (e ∷ es) = out (nat_eq e.id id) refl (nat_eq e.id t) refl (same o es)
        where
          out : (a : Bool) → nat_eq e.id id ≡ a → (b : Bool) → nat_eq e.id t ≡ b → table_at (less es) t ≡ table_at es t → table_at (cond (not a) (e ∷ less es) (less es)) t ≡ cond b e.table (table_at es t)
          out true p true q rest = absurd (true≢false (sym (eq-eqb t id (sym (eqb-true e.id t q) ∙ eqb-true e.id id p)) ∙ o))
          out true p false q rest = rest
          out false p b q rest = (λ i. cond (q i) e.table (rest i))

      by : (b : Bool) → nat_eq t id ≡ b → IsTable (table_at (less es) t)
      by true p = subst (λ (n : ℕ). IsTable (table_at (less es) n)) (sym (eqb-true t id p)) (gone es)
      by false p = subst IsTable (sym (same p es)) h

  has-less : (es : List Entry) (t : ℕ) → nat_eq t id ≡ false → IsTrue (has_table es t) → IsTrue (has_table (less es) t)
  has-less [] t o h = h
  has-less (e ∷ es) t o h = out (nat_eq e.id id) refl (nat_eq e.id t) refl h (has-less es t o)
    where
      out : (a : Bool) → nat_eq e.id id ≡ a → (b : Bool) → nat_eq e.id t ≡ b → IsTrue (b || has_table es t) → (IsTrue (has_table es t) → IsTrue (has_table (less es) t)) → IsTrue (has_table (cond (not a) (e ∷ less es) (less es)) t)
      out true p true q k rest = absurd (true≢false (sym (eq-eqb t id (sym (eqb-true e.id t q) ∙ eqb-true e.id id p)) ∙ o))
      out true p false q k rest = rest k
      out false p true q k rest = ap (λ (b : Bool). b || has_table (less es) t) q
      out false p false q k rest = ap (λ (b : Bool). b || has_table (less es) t) q ∙ rest k

  target-other : (s : Statement) → statement_names id s ≡ false → nat_eq (target s) id ≡ false
  target-other (InsertRows t rows) h = h
  target-other (InsertQuery t q) h = (or_parts (nat_eq t id) (has_source id (query_sources q)) h).0
  target-other (Delete t c) h = (or_parts (nat_eq t id) (has_source id (sources_of c)) h).0
  target-other (Update t assignments c) h = (or_parts (nat_eq t id) (has_source id (assignment_sources assignments) || has_source id (sources_of c)) h).0

  actions-less : (es : List Entry) (actions : List Action) → list_any (action_names id) actions ≡ false → AreGoodActions (IsIn es) actions → AreGoodActions (IsIn (less es)) actions
  actions-less es [] l h = tt
  actions-less es (action.Rollback ∷ actions) l h = actions-less es actions l h
  actions-less es (action.Change s ∷ actions) l h =
      let p = or_parts (statement_names id s) (list_any (action_names id) actions) l in
      (has-less es (target s) (target-other s p.0) h.0, actions-less es actions p.1 h.1)

  pub rules-less : (es : List Entry) (rules : List Rule) → is_used rules id ≡ false → AreGoodRules (IsIn es) rules → AreGoodRules (IsIn (less es)) rules
  rules-less es [] l h = tt
  rules-less es (r ∷ rules) l h =
      let p = or_parts (rule_names id r) (is_used rules id) l in
      let q = or_parts (nat_eq r.table id) (condition_names id r.condition || list_any (action_names id) r.actions) p.0 in
      let o = or_parts (condition_names id r.condition) (list_any (action_names id) r.actions) q.1 in
      (actions-less es r.actions o.1 h.0, rules-less es rules p.1 h.1)

-- ---- rules

module _ (Good : Statement → Type 0) where
  pub rules-last : (rules : List Rule) (rule : Rule) → AreGoodRules Good rules → AreGoodActions Good rule.actions → AreGoodRules Good (rules ++ rule ∷ [])
  rules-last [] rule h k = (k, tt)
  rules-last (r ∷ rules) rule h k = (h.0, rules-last rules rule h.1 k)

  pub rules-without : (rules : List Rule) (id : ℕ) → AreGoodRules Good rules → AreGoodRules Good (without_rule rules id)
  rules-without [] id h = tt
  rules-without (r ∷ rules) id h = by (nat_eq r.id id) (rules-without rules id h.1)
    where
      by : (b : Bool) → AreGoodRules Good (without_rule rules id) → AreGoodRules Good (cond (not b) (r ∷ without_rule rules id) (without_rule rules id))
      by true rest = rest
      by false rest = (h.0, rest)

  pub rules-active : (rules : List Rule) (id : ℕ) (active : Bool) → AreGoodRules Good rules → AreGoodRules Good (with_active rules id active)
  rules-active [] id active h = tt
  rules-active (r ∷ rules) id active h = (by (nat_eq r.id id), rules-active rules id active h.1)
    where
      by : (b : Bool) → AreGoodActions Good (cond b (record r { active = active }) r).actions
      by true = h.0
      by false = h.0

  pub rules-altered : (rules : List Rule) (id : ℕ) (parts : NewParts) → AreGoodRules Good rules → ((actions : List Action) → parts.1 ≡ Some actions → AreGoodActions Good actions) → AreGoodRules Good (with_parts rules id parts)
  rules-altered [] id parts h k = tt
  rules-altered (r ∷ rules) id parts h k = (by (nat_eq r.id id), rules-altered rules id parts h.1 k)
    where
      written : (new : Option (List Action)) → parts.1 ≡ new → AreGoodActions Good (unwrap_or new r.actions)
      written None e = h.0
      written (Some actions) e = k actions e

      by : (b : Bool) → AreGoodActions Good (cond b (set_parts parts r) r).actions
      by true = written parts.1 refl
      by false = h.0

-- what a walk found is there
pub statement-in : (es : List Entry) (s : Statement) → check.IsStatementThere es s → IsIn es s
statement-in es (InsertRows id rows) h = h
statement-in es (InsertQuery id q) h = h.0
statement-in es (Delete id c) h = h.0
statement-in es (Update id assignments c) h = h.0

pub actions-in : (es : List Entry) (actions : List Action) → check.AreActionsThere es actions → AreGoodActions (IsIn es) actions
actions-in es [] h = tt
actions-in es (action.Rollback ∷ actions) h = actions-in es actions h
actions-in es (action.Change s ∷ actions) h = (statement-in es s h.0, actions-in es actions h.1)

pub new-actions-in : (es : List Entry) (written : Option (List text.Action)) (new : Option (List Action)) → check.AreNewActionsThere es written new → (actions : List Action) → new ≡ Some actions → AreGoodActions (IsIn es) actions
new-actions-in es written None h actions e = absurd (none-some actions e)
new-actions-in es None (Some new) h actions e = absurd h
new-actions-in es (Some written) (Some new) h actions e = subst (AreGoodActions (IsIn es)) (same_Some new actions e) (actions-in es new h.0)
