-- The walks of conditions, operands and queries, a case each.
use Rattle.std.proofs.Common.{◌≡◌, refl, Bool, List, [], ◌∷◌, map}
use Rattle.std.specs.Prelude.{Result, Ok, Err}
use Rattle.sb_value.specs.declared.refusal.Refusal.{Refusal}
use Rattle.sb_value.specs.declared.refusal.Refusal.TheVariants as refusal
use Rattle.sb_value.specs.declared.value.ColumnType.{ColumnType}
use Rattle.sb_value.specs.declared.value.ColumnType.TheVariants.{Int}
use Rattle.sb_syntax.specs.Tree as text
use Rattle.sb_syntax.specs.declared.tree.Comparison.{Comparison}
use Rattle.sb_syntax.specs.declared.tree.SourceReference.{SourceReference}
use Rattle.sb_check.specs.declared.tree.Items.{Items}
use Rattle.sb_check.specs.declared.tree.Source.{Source}
use Rattle.sb_check.specs.Condition.{Condition, Operand, always, disjunction, conjunction, negation, compare, is_in, exists, expression, scalar_subquery, select}
use Rattle.sb_check.specs.Names.{and_then, required, same_type, Scope, Visible}
use Rattle.sb_check.specs.Parts.{condition_walk, operand_walk, filter_walk, query_walk}
use Rattle.sb_check.specs.Sources.{seen_sources}
use Rattle.sb_check.specs.Walk.{Schema, Walked, walk_expression, walk_items, walk_sources, is_aggregate, in_type, with_not}
use Rattle.sb_check.proofs.Results.{regroup}

module _ (schema : Schema) where
  pub walk_disjunction : (a b : text.Condition) (scope : Scope) → condition_walk schema (text.disjunction a b) scope ≡ and_then (condition_walk schema a scope) (λ x. and_then (condition_walk schema b scope) (λ y. Ok (disjunction x y)))
  unfolding condition_walk
  walk_disjunction a b scope = refl

  pub walk_conjunction : (a b : text.Condition) (scope : Scope) → condition_walk schema (text.conjunction a b) scope ≡ and_then (condition_walk schema a scope) (λ x. and_then (condition_walk schema b scope) (λ y. Ok (conjunction x y)))
  unfolding condition_walk
  walk_conjunction a b scope = refl

  pub walk_negation : (a : text.Condition) (scope : Scope) → condition_walk schema (text.negation a) scope ≡ and_then (condition_walk schema a scope) (λ x. Ok (negation x))
  unfolding condition_walk
  walk_negation a scope = refl

  pub walk_compare : (a : text.Expression) (op : Comparison) (b : text.Operand) (scope : Scope) → condition_walk schema (text.compare a op b) scope
      ≡ and_then (walk_expression scope a) (λ x. and_then (operand_walk schema b scope) (λ y. required (same_type x.1 y.1) refusal.BadType (Ok (compare x.0 op y.0))))
  unfolding condition_walk operand_walk
  walk_compare a op b scope = refl

  through : {A B C : Type 0} (r : Result A Refusal) (f : A → B) (next : B → Result C Refusal) → and_then (and_then r (λ x. Ok (f x))) next ≡ and_then r (λ x. next (f x))
  through (Ok x) f next = refl
  through (Err e) f next = refl

  pub walk_compare_plain : (a : text.Expression) (op : Comparison) (b : text.Expression) (scope : Scope) → condition_walk schema (text.compare a op (text.expression b)) scope
      ≡ and_then (walk_expression scope a) (λ x. and_then (walk_expression scope b) (λ y. required (same_type x.1 y.1) refusal.BadType (Ok (compare x.0 op (expression y.0)))))
  unfolding condition_walk
  walk_compare_plain a op b scope =
      λ i. and_then (walk_expression scope a) (λ x. through {B = Operand × ColumnType} (walk_expression scope b) (λ y. (expression y.0, y.1)) (λ y. required (same_type x.1 y.1) refusal.BadType (Ok (compare x.0 op y.0))) i)

  pub walk_is_in : (a : text.Expression) (has_not : Bool) (q : text.Query) (scope : Scope) → condition_walk schema (text.is_in a has_not q) scope
      ≡ and_then (walk_expression scope a) (λ x. and_then (query_walk schema q scope) (λ w. and_then (in_type x.1 w.1) (λ _. Ok (with_not has_not (is_in x.0 w.0)))))
  unfolding condition_walk query_walk
  walk_is_in a has_not q scope = refl

  pub walk_exists : (q : text.Query) (scope : Scope) → condition_walk schema (text.exists q) scope ≡ and_then (query_walk schema q scope) (λ w. Ok (exists w.0))
  unfolding condition_walk query_walk
  walk_exists q scope = refl

  pub walk_plain : (e : text.Expression) (scope : Scope) → operand_walk schema (text.expression e) scope ≡ and_then (walk_expression scope e) (λ x. Ok (expression x.0, x.1))
  unfolding operand_walk
  walk_plain e scope = refl

  pub walk_answer : (its : text.Items) (sources : List SourceReference) (f : text.Filter) (scope : Scope) → operand_walk schema (text.scalar_subquery (text.select its sources f)) scope
      ≡ and_then (query_walk schema (text.select its sources f) scope) (λ w. required (is_aggregate its) refusal.WrongCount (Ok (scalar_subquery w.0, Int)))
  unfolding operand_walk query_walk
  walk_answer its sources f scope = refl

  pub walk_everything : (scope : Scope) → filter_walk schema text.everything scope ≡ Ok always
  unfolding filter_walk
  walk_everything scope = refl

  pub walk_those : (c : text.Condition) (scope : Scope) → filter_walk schema (text.those c) scope ≡ condition_walk schema c scope
  unfolding filter_walk condition_walk
  walk_those c scope = refl

  selects : (its : text.Items) (filter : Scope → Result Condition Refusal) (scope : Scope) (walk : Result (List (Source × Visible)) Refusal)
      → and_then walk (λ ss. and_then (walk_items (map (λ s. s.1) ss ∷ scope) (map (λ s. s.1) ss) its) (λ i. and_then {B = Walked} (filter (map (λ s. s.1) ss ∷ scope)) (λ c. Ok (select i.0 (map (λ s. s.0) ss) c, i.1))))
      ≡ and_then (and_then {B = List Source × List Visible} walk (λ ss. Ok (map (λ s. s.0) ss, map (λ s. s.1) ss))) (λ p.
      and_then {B = Walked} (and_then {B = (Items × List ColumnType) × Condition} (walk_items (p.1 ∷ scope) p.1 its) (λ i. and_then (filter (p.1 ∷ scope)) (λ c. Ok (i, c)))) (λ x. Ok (select x.0.0 p.0 x.1, x.0.1)))
  selects its filter scope (Ok ss) =
      let seen : List Visible = map (λ s. s.1) ss in
      regroup (walk_items (seen ∷ scope) seen its) (filter (seen ∷ scope)) (λ i c. (select i.0 (map (λ s. s.0) ss) c, i.1))
  selects its filter scope (Err e) = refl

  pub walk_select : (its : text.Items) (sources : List SourceReference) (f : text.Filter) (scope : Scope) → query_walk schema (text.select its sources f) scope
      ≡ and_then (seen_sources schema [] sources) (λ p.
      and_then {B = Walked} (and_then {B = (Items × List ColumnType) × Condition} (walk_items (p.1 ∷ scope) p.1 its) (λ i. and_then (filter_walk schema f (p.1 ∷ scope)) (λ c. Ok (i, c)))) (λ x. Ok (select x.0.0 p.0 x.1, x.0.1)))
  unfolding query_walk filter_walk
  walk_select its sources f scope = selects its (filter_walk schema f) scope (walk_sources schema [] sources)

pub ruleset condition_walks = (walk_disjunction, walk_conjunction, walk_negation)

pub ruleset operand_walks = (walk_plain, walk_answer)

pub ruleset filter_walks = (walk_everything, walk_those)
