-- Only the set of pairs counts, and not their order.
use Rattle.std.proofs.lemmas.Bool.{and_parts, true≢false}
use Rattle.std.proofs.Math.Bool.{and-false}
use Rattle.std.proofs.Common.{◌≡◌, ◌∙◌, ℕ, Bool, true, false, not, cond, ◌&&◌, ◌||◌, nat_eq, List, [], ◌∷◌, ◌++◌, filter, find, Result, Ok, Err, refl, sym, eqb-true}
use Rattle.std.proofs.lemmas.List.Folds.{list_any-append}
use Rattle.std.specs.List.{list_any}
use Rattle.sb_value.specs.declared.refusal.Refusal.{Refusal}
use Rattle.sb_value.specs.declared.refusal.Refusal.TheVariants.{TooManyRules, Cycle}
use Rattle.sb_value.specs.Order.{Precedes, pair, onward, precedes, chosen}
use Rattle.sb_value.specs.Laws.{PrecedesIsClosure}
use Rattle.sb_syntax.specs.Tree.{Name, AlterationText}
use Rattle.sb_priority.specs.Closed.{has_pair}
use Rattle.sb_priority.specs.Ranks.{pairs_of, pairs_without, pairs_apart, pairs_altered, is_between}
use Rattle.sb_check.specs.Names.{and_then, required}
use Rattle.sb_catalog.specs.declared.rule.Rule.{Rule}
use Rattle.sb_catalog.specs.Definitions.{rules_named, acyclic, new_pairs, uncycled, altered_pairs}
use Rattle.sb_catalog.specs.Rules.{free_rule, has_room}
use Rattle.sb_tenant.specs.Alike.{HaveSamePairs}

-- ---- precedence

same_test : (x y : Bool) → (x ≡ true → y ≡ true) → (y ≡ true → x ≡ true) → x ≡ y
same_test true y f g = sym (f refl)
same_test false true f g = g refl
same_test false false f g = refl

led : (ps qs : List (ℕ × ℕ)) → HaveSamePairs ps qs → {a b : ℕ} → Precedes ps a b → Precedes qs a b
led ps qs h (pair {a = a} {b = b} p) = pair (sym (h a b) ∙ p)
led ps qs h (onward f g) = onward (led ps qs h f) (led ps qs h g)

module _ (law : PrecedesIsClosure) (ps qs : List (ℕ × ℕ)) (h : HaveSamePairs ps qs) where
  pub precedes-at : (a b : ℕ) → precedes ps a b ≡ precedes qs a b
  precedes-at a b =
      same_test (precedes ps a b) (precedes qs a b)
      (λ p. (law qs a b).0 (led ps qs h ((law ps a b).1 p)))
      (λ p. (law ps a b).0 (led qs ps (λ x y. sym (h x y)) ((law qs a b).1 p)))

  pub precedes-same : precedes ps ≡ precedes qs
  precedes-same = λ i a b. precedes-at a b i

  pub chosen-same : (set : List ℕ) → chosen ps set ≡ chosen qs set
  chosen-same set = λ i. find (λ r. not (list_any (λ q. not (nat_eq q r) && precedes-same i q r) set)) set

-- ---- lists of pairs that are made of others

module _ (ps qs : List (ℕ × ℕ)) (h : HaveSamePairs ps qs) where
  pub append-same : (more : List (ℕ × ℕ)) → HaveSamePairs (ps ++ more) (qs ++ more)
  append-same more a b =
      list_any-append (λ p. nat_eq p.0 a && nat_eq p.1 b) ps more
      ∙ (λ i. h a b i || has_pair more a b)
      ∙ sym (list_any-append (λ p. nat_eq p.0 a && nat_eq p.1 b) qs more)

kept : (test : ℕ → ℕ → Bool) (ps : List (ℕ × ℕ)) (a b : ℕ) → has_pair (filter (λ p. test p.0 p.1) ps) a b ≡ (test a b && has_pair ps a b)
kept test [] a b = sym (and-false (test a b))
kept test (p ∷ ps) a b = by (test p.0 p.1) (nat_eq p.0 a && nat_eq p.1 b) refl refl (kept test ps a b)
  where
    here : (nat_eq p.0 a && nat_eq p.1 b) ≡ true → test p.0 p.1 ≡ test a b
    here e = let parts = and_parts (nat_eq p.0 a) (nat_eq p.1 b) e in λ i. test (eqb-true p.0 a parts.0 i) (eqb-true p.1 b parts.1 i)

    by : (t hit : Bool) → test p.0 p.1 ≡ t → (nat_eq p.0 a && nat_eq p.1 b) ≡ hit →
        has_pair (filter (λ q. test q.0 q.1) ps) a b ≡ (test a b && has_pair ps a b) →
        has_pair (cond t (p ∷ filter (λ q. test q.0 q.1) ps) (filter (λ q. test q.0 q.1) ps)) a b ≡ (test a b && (hit || has_pair ps a b))
    by true true e f rest = (λ i. f i || has_pair (filter (λ q. test q.0 q.1) ps) a b) ∙ (λ i. (sym e ∙ here f) i && true)
    by true false e f rest = (λ i. f i || has_pair (filter (λ q. test q.0 q.1) ps) a b) ∙ rest
    by false true e f rest = rest ∙ (λ i. (sym (here f) ∙ e) i && has_pair ps a b) ∙ (λ i. (sym e ∙ here f) i && true)
    by false false e f rest = rest

filter-same : (test : ℕ → ℕ → Bool) (ps qs : List (ℕ × ℕ)) → HaveSamePairs ps qs → HaveSamePairs (filter (λ p. test p.0 p.1) ps) (filter (λ p. test p.0 p.1) qs)
filter-same test ps qs h a b = kept test ps a b ∙ (λ i. test a b && h a b i) ∙ sym (kept test qs a b)

pub without-same : (rule : ℕ) (ps qs : List (ℕ × ℕ)) → HaveSamePairs ps qs → HaveSamePairs (pairs_without rule ps) (pairs_without rule qs)
without-same rule ps qs h = filter-same (λ a b. not (nat_eq a rule) && not (nat_eq b rule)) ps qs h

pub apart-same : (rule : ℕ) (others : List ℕ) (ps qs : List (ℕ × ℕ)) → HaveSamePairs ps qs → HaveSamePairs (pairs_apart rule others ps) (pairs_apart rule others qs)
apart-same rule others ps qs h = filter-same (λ a b. not (is_between rule others a b)) ps qs h

pub altered-same : (rule : ℕ) (apart ahead behind : List ℕ) (ps qs : List (ℕ × ℕ)) → HaveSamePairs ps qs →
    HaveSamePairs (pairs_altered rule apart ahead behind ps) (pairs_altered rule apart ahead behind qs)
altered-same rule apart ahead behind ps qs h =
    append-same (pairs_apart rule apart ps) (pairs_apart rule apart qs) (apart-same rule apart ps qs h) (pairs_of rule ahead behind)

-- ---- results that are the same but for what stands in them

abbrev pub AreSame : {A : Type 0} → (A → A → Type 0) → Result A Refusal → Result A Refusal → Type 0
AreSame Same (Ok a) (Ok b) = Same a b
AreSame Same (Err e) (Err f) = e ≡ f
AreSame Same (Ok a) (Err f) = ⊥
AreSame Same (Err e) (Ok b) = ⊥

-- the same first part
pub then-same : {A B : Type 0} (Same : B → B → Type 0) (r : Result A Refusal) (f g : A → Result B Refusal) → ((a : A) → AreSame Same (f a) (g a)) →
    AreSame Same (and_then r f) (and_then r g)
then-same Same (Ok a) f g h = h a
then-same Same (Err e) f g h = refl

-- first parts that are the same
pub then-alike : {A B : Type 0} (One : A → A → Type 0) (Same : B → B → Type 0) (r s : Result A Refusal) (f g : A → Result B Refusal) → AreSame One r s →
    ((a b : A) → One a b → AreSame Same (f a) (g b)) → AreSame Same (and_then r f) (and_then s g)
then-alike One Same (Ok a) (Ok b) f g p h = h a b p
then-alike One Same (Err d) (Err e) f g p h = p
then-alike One Same (Ok a) (Err e) f g p h = elim p [ ]
then-alike One Same (Err d) (Ok b) f g p h = elim p [ ]

-- ---- a new rule, an altered rule

module _ (law : PrecedesIsClosure) (ps qs : List (ℕ × ℕ)) (h : HaveSamePairs ps qs) where
  acyclic-same : (rules : List Rule) (more : List (ℕ × ℕ)) → acyclic rules ps more ≡ acyclic rules qs more
  acyclic-same rules more =
      let same = precedes-at law (ps ++ more) (qs ++ more) (append-same ps qs h more) (free_rule rules) (free_rule rules) in
      λ i. required (not (same i)) Cycle (Ok more)

  pub new-same : (rules : List Rule) (before after : List Name) → new_pairs rules ps before after ≡ new_pairs rules qs before after
  new-same rules before after =
      λ i. and_then (rules_named rules before) (λ bs.
      and_then (rules_named rules after) (λ ends.
      required (has_room rules) TooManyRules (acyclic-same rules (pairs_of (free_rule rules) bs ends) i)))

  uncycled-same : (id : ℕ) → AreSame HaveSamePairs (uncycled id ps) (uncycled id qs)
  uncycled-same id = by (precedes ps id id) (precedes qs id id) (precedes-at law ps qs h id id)
    where
      by : (x y : Bool) → x ≡ y → AreSame HaveSamePairs (required (not x) Cycle (Ok ps)) (required (not y) Cycle (Ok qs))
      by true true same = refl
      by false false same = h
      by true false same = absurd (true≢false same)
      by false true same = absurd (true≢false (sym same))

module _ (law : PrecedesIsClosure) (rules : List Rule) (ps qs : List (ℕ × ℕ)) (h : HaveSamePairs ps qs) (id : ℕ) (r : AlterationText) where
  abbrev with-apart : List (ℕ × ℕ) → List ℕ → List ℕ → List ℕ → Result (List (ℕ × ℕ)) Refusal
  with-apart pairs before after apart = uncycled id (pairs_altered id apart before after pairs)

  abbrev with-after : List (ℕ × ℕ) → List ℕ → List ℕ → Result (List (ℕ × ℕ)) Refusal
  with-after pairs before after = and_then (rules_named rules r.nopriority) (with-apart pairs before after)

  abbrev with-before : List (ℕ × ℕ) → List ℕ → Result (List (ℕ × ℕ)) Refusal
  with-before pairs before = and_then (rules_named rules r.follows) (with-after pairs before)

  pub altered-pairs-same : AreSame HaveSamePairs (altered_pairs rules ps id r) (altered_pairs rules qs id r)
  altered-pairs-same =
      then-same HaveSamePairs (rules_named rules r.precedes) (with-before ps) (with-before qs) (λ before.
      then-same HaveSamePairs (rules_named rules r.follows) (with-after ps before) (with-after qs before) (λ after.
      then-same HaveSamePairs (rules_named rules r.nopriority) (with-apart ps before after) (with-apart qs before after) (λ apart.
      uncycled-same law (pairs_altered id apart before after ps) (pairs_altered id apart before after qs) (altered-same id apart before after ps qs h) id)))
