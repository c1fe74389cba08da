use Rattle.std.proofs.Common.{◌≡◌, ◌∙◌, ℕ, List, Bool, sym, subst}
use Rattle.sb_value.specs.Flags.{IsFirstFrom}
use Rattle.sb_value.proofs.WordLaws.{NoneFrom, first_in_first, first_in_second, first_in_third, first_in_fourth, none_in_four}
use Rattle.sb_value.proofs.rule_set.RuleSet.first_from.Goals as goal

in_set : (flags set : List Bool) (n k at : ℕ) → flags ≡ set → k ≡ at → IsFirstFrom n flags at → IsFirstFrom n set k
in_set flags set n k at view is first = subst (λ (s : List Bool). IsFirstFrom n s k) view (subst (λ (m : ℕ). IsFirstFrom n flags m) (sym is) first)

pub returns-in-Some : goal.returns-in-Some
returns-in-Some c =
    in_set _ c.args.self c.args.number c.new.result _ c.self.view_is c.new.ensures
    (first_in_first c.self.inside.words c.args.number c.in-Some.place c.self.invariant c.in-Some.ensures.0 c.in-Some.ensures.1)

pub returns-in-Some-first_in : goal.returns-in-Some-first_in
returns-in-Some-first_in c =
    in_set _ c.args.self c.args.number c.new-in-Some-first_in.result _ c.self.view_is c.new-in-Some-first_in.ensures
    (first_in_second c.self.inside.words c.args.number c.saturating_sub-second.result c.in-Some-first_in.place c.self.invariant c.saturating_sub-second.ensures c.in_default.ensures c.in-Some-first_in.ensures.0 c.in-Some-first_in.ensures.1)

pub returns-in-Some-first_in-2 : goal.returns-in-Some-first_in-2
returns-in-Some-first_in-2 c =
    in_set _ c.args.self c.args.number c.new-in-Some-first_in-2.result _ c.self.view_is c.new-in-Some-first_in-2.ensures
    (first_in_third c.self.inside.words c.args.number c.saturating_sub-second.result c.saturating_sub-third.result c.in-Some-first_in-2.place c.self.invariant c.saturating_sub-second.ensures c.saturating_sub-third.ensures
    c.in_default.ensures c.in_default-first_in.ensures c.in-Some-first_in-2.ensures.0 c.in-Some-first_in-2.ensures.1)

pub returns-in-Some-first_in-3 : goal.returns-in-Some-first_in-3
returns-in-Some-first_in-3 c =
    in_set _ c.args.self c.args.number c.new-in-Some-first_in-3.result _ c.self.view_is c.new-in-Some-first_in-3.ensures
    (first_in_fourth c.self.inside.words c.args.number c.saturating_sub-second.result c.saturating_sub-third.result c.saturating_sub-fourth.result c.in-Some-first_in-3.place c.self.invariant
    c.saturating_sub-second.ensures c.saturating_sub-third.ensures c.saturating_sub-fourth.ensures
    c.in_default.ensures c.in_default-first_in.ensures c.in_default-first_in-2.ensures c.in-Some-first_in-3.ensures.0 c.in-Some-first_in-3.ensures.1)

pub returns : goal.returns
returns c =
    subst (NoneFrom c.args.number) c.self.view_is
    (none_in_four c.self.inside.words c.args.number c.saturating_sub-second.result c.saturating_sub-third.result c.saturating_sub-fourth.result c.self.invariant
    c.saturating_sub-second.ensures c.saturating_sub-third.ensures c.saturating_sub-fourth.ensures
    c.in_default.ensures c.in_default-first_in.ensures c.in_default-first_in-2.ensures c.in_default-first_in-3.ensures)
