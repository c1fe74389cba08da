use Rattle.std.proofs.Common.{◌≡◌, ◌∙◌, ℕ, ap, sym, subst, List, Some, None, slice_get, length, refl, eqb-true}
use Rattle.std.proofs.lemmas.Bool.{ltb-true, ltb-false, eqb-false}
use Rattle.std.proofs.lemmas.Option.{none-some, same_Some, slice_get_read, slice_get_past}
use Rattle.sb_catalog.specs.declared.rule.Rule.{Rule}
use Rattle.sb_catalog.specs.Places.{AreNotedFrom}
use Rattle.sb_catalog.proofs.Noted.{numbered_none, numbered_some}
use Rattle.sb_catalog.proofs.catalog.Catalog.rule.Goals as goal

-- the rules, seen as the list that the catalog is
seen : (rules values : List Rule) (place at : ℕ) (r : Rule) → values ≡ rules → place ≡ at → slice_get values place ≡ Some r → slice_get rules at ≡ Some r
seen rules values place at r same is found = ap (slice_get rules) (sym is) ∙ ap (λ (l : List Rule). slice_get l place) (sym same) ∙ found

found : (rules values : List Rule) (place at : ℕ) (r : Rule) → values ≡ rules → place ≡ at → slice_get rules at ≡ Some r → slice_get values place ≡ Some r
found rules values place at r same is e = ap (λ (l : List Rule). slice_get l place) same ∙ ap (slice_get rules) is ∙ e

-- there is no rule at the place
pub returns-in_err-rule : goal.returns-in_err-rule
returns-in_err-rule c =
    let noted : AreNotedFrom 0 c.self.inside.places c.args.self.now = subst (AreNotedFrom 0 c.self.inside.places) c.self.view_is c.self.invariant.noted in
    let past : slice_get c.rules.result.now c.get.result ≡ None = slice_get_past c.rules.result.now c.get.result (ltb-false _ _ (sym c.in_err-rule.ensures.lookup.0)) in
    rw c.from_residual.ensures (sym (numbered_none c.self.inside.places c.args.id c.args.self.now noted (λ r e same. none-some r (sym past ∙ found c.args.self.now _ _ _ r c.rules.ensures.value c.get.ensures e))))

-- the rule at the place has the number
pub returns-then-eq : goal.returns-then-eq
returns-then-eq c =
    let noted : AreNotedFrom 0 c.self.inside.places c.args.self.now = subst (AreNotedFrom 0 c.self.inside.places) c.self.view_is c.self.invariant.noted in
    let at = slice_get_read c.rules.result.now (length c.rules.result.now) c.get.result c.in_ok-rule.rule.now refl (ltb-true _ _ (sym c.in_ok-rule.ensures.lookup.0)) c.in_ok-rule.ensures.lookup.1 in
    sym (numbered_some c.self.inside.places c.args.id c.args.self.now c.in_ok-rule.rule.now noted (seen c.args.self.now _ _ _ _ c.rules.ensures.value c.get.ensures at) (eqb-true c.in_ok-rule.rule.now.id c.args.id (sym c.eq.ensures ∙ c.if-eq.true)))

-- it has another
pub returns-else-eq : goal.returns-else-eq
returns-else-eq c =
    let noted : AreNotedFrom 0 c.self.inside.places c.args.self.now = subst (AreNotedFrom 0 c.self.inside.places) c.self.view_is c.self.invariant.noted in
    let at = slice_get_read c.rules.result.now (length c.rules.result.now) c.get.result c.in_ok-rule.rule.now refl (ltb-true _ _ (sym c.in_ok-rule.ensures.lookup.0)) c.in_ok-rule.ensures.lookup.1 in
    let other = eqb-false c.in_ok-rule.rule.now.id c.args.id (sym c.eq.ensures ∙ c.if-eq.false) in
    sym (numbered_none c.self.inside.places c.args.id c.args.self.now noted
    (λ r e same. other (ap (λ (x : Rule). x.id) (same_Some c.in_ok-rule.rule.now r (sym at ∙ found c.args.self.now _ _ _ r c.rules.ensures.value c.get.ensures e)) ∙ same)))
