-- Soundness of conditions and queries.
use Rattle.std.proofs.Common.{◌≡◌, inl, inr, ℕ, zero, suc, Bool, true, false, cond, Option, Some, None, sym, refl, subst}
use Rattle.std.proofs.lemmas.Option.{same_Some}
use Rattle.sb_syntax.specs.declared.kind.TokenKind.{TokenKind}
use Rattle.sb_syntax.specs.declared.kind.TokenKind.TheVariants as k
use Rattle.sb_syntax.specs.declared.tree.Comparison.{Comparison}
use Rattle.sb_syntax.specs.Input.{Input, Is}
use Rattle.sb_syntax.specs.Tree as tree
use Rattle.sb_syntax.specs.Tree.{Name, Expression, Items, Condition, Operand, Filter, Query, Statement, Command}
use Rattle.sb_syntax.specs.Grammar as g
use Rattle.sb_syntax.specs.Grammar.{IsName, IsLiteral, IsExpr, IsItems, IsComparison, IsNot, IsCond, IsConj, IsNeg, IsPredicate, IsOperand, IsSubquery, IsFilter, IsQuery, IsColumnType, IsDefinition, IsTuple, IsChange, IsPhrase, IsLeadingCommand, Separated, IsCommand, max_nesting, max_depth, max_columns}
use Rattle.sb_syntax.specs.Reading as r
use Rattle.sb_syntax.specs.Reading.{Reader, Joins, and_then, kind_at, sees, next, expect, bytes_of, ◌>>=◌, ◌>>◌, pure}
use Rattle.sb_syntax.proofs.TokenLaws.{two_steps, chosen, seen-is, kind-is, expect-is}
use Rattle.sb_syntax.proofs.Loops.{same_read, chained-sound}
use Rattle.sb_syntax.proofs.SoundLaws.{Sound, mapped-sound, expr-sound, items-sound, sources-sound}

comparison-is : (op : Comparison) (ts : Input) (kind : Option TokenKind) → kind_at ts ≡ kind → r.comparison_of kind ≡ Some op → IsComparison op ts (next ts)
comparison-is op ts (Some k.Equal) is e = subst (λ (o : Comparison). IsComparison o ts (next ts)) (same_Some _ _ e) (g.equal (kind-is k.Equal ts is))
comparison-is op ts (Some k.NotEqual) is e = subst (λ (o : Comparison). IsComparison o ts (next ts)) (same_Some _ _ e) (g.not_equal (kind-is k.NotEqual ts is))
comparison-is op ts (Some k.Less) is e = subst (λ (o : Comparison). IsComparison o ts (next ts)) (same_Some _ _ e) (g.less_than (kind-is k.Less ts is))
comparison-is op ts (Some k.LessEqual) is e = subst (λ (o : Comparison). IsComparison o ts (next ts)) (same_Some _ _ e) (g.at_most (kind-is k.LessEqual ts is))
comparison-is op ts (Some k.Greater) is e = subst (λ (o : Comparison). IsComparison o ts (next ts)) (same_Some _ _ e) (g.greater_than (kind-is k.Greater ts is))
comparison-is op ts (Some k.GreaterEqual) is e = subst (λ (o : Comparison). IsComparison o ts (next ts)) (same_Some _ _ e) (g.at_least (kind-is k.GreaterEqual ts is))
comparison-is op ts _ is e = absurd (cc)

not-is : (ts : Input) (b : Bool) → sees k.Not ts ≡ b → IsNot b ts (cond b (next ts) ts)
not-is ts true e = g.not (seen-is k.Not ts e)
not-is ts false e = g.plain

ors-is : (kind : Option TokenKind) (join : Condition → Condition → Condition) → r.ors kind ≡ Some join → (kind ≡ Some k.Or) × (join ≡ tree.disjunction)
ors-is (Some k.Or) join e = (refl, sym (same_Some _ _ e))
ors-is _ join e = absurd (cc)

ands-is : (kind : Option TokenKind) (join : Condition → Condition → Condition) → r.ands kind ≡ Some join → (kind ≡ Some k.And) × (join ≡ tree.conjunction)
ands-is (Some k.And) join e = (refl, sym (same_Some _ _ e))
ands-is _ join e = absurd (cc)

conj-sound : (depth nesting : ℕ) (neg : Reader Condition) → Sound neg (IsNeg depth nesting) → Sound (r.conj neg) (IsConj depth nesting)
unfolding r.conj
conj-sound depth nesting neg sound a ts rest read = chained-sound r.ands neg (λ a mid. IsConj depth nesting a ts mid) ts (λ x mid d. g.neg (sound x ts mid d))
    (λ acc mid after join x d is read.
    let m = ands-is (kind_at mid) join is in
    subst (λ (f : Condition → Condition → Condition). IsConj depth nesting (f acc x) ts after) (sym m.1) (g.and d (kind-is k.And mid m.0) (sound x (next mid) after read)))
    a rest read

cond-sound : (depth nesting : ℕ) (neg : Reader Condition) → Sound neg (IsNeg depth nesting) → Sound (r.cond neg) (IsCond depth nesting)
unfolding r.cond
cond-sound depth nesting neg sound a ts rest read =
    let conj = conj-sound depth nesting neg sound in
    chained-sound r.ors (r.conj neg) (λ a mid. IsCond depth nesting a ts mid) ts (λ x mid d. g.conj (conj x ts mid d))
    (λ acc mid after join x d is read.
    let m = ors-is (kind_at mid) join is in
    subst (λ (f : Condition → Condition → Condition). IsCond depth nesting (f acc x) ts after) (sym m.1) (g.or d (kind-is k.Or mid m.0) (conj x (next mid) after read)))
    a rest read

no_cond : (a : Condition) (ts rest : Input) → r.cond r.refuse ts ≡ Some (a, rest) → ⊥
unfolding r.cond r.conj
no_cond a ts rest e = cc

module _ (depth : ℕ) (sub : Reader Query) (sub-sound : Sound (r.subquery sub) (IsSubquery depth)) where
  pub operand-sound : Sound (r.operand sub) (IsOperand depth)
  unfolding r.operand
  operand-sound s ts rest e = elim (chosen (sees k.LeftParen ts) _ _ (s, rest) e) [
    | inl p ↦ mapped-sound tree.scalar_subquery (r.subquery sub) (IsSubquery depth) (IsOperand depth) (λ _ _ _ d. g.query_side d) sub-sound s ts rest p.1
    | inr p ↦ mapped-sound tree.expression r.expr IsExpr (IsOperand depth) (λ _ _ _ d. g.expr_side d) expr-sound s ts rest p.1
  ]

  member-sound : (e : Expression) (ts mid : Input) → IsExpr e ts mid → (a : Condition) (rest : Input) → r.member sub e mid ≡ Some (a, rest) → IsPredicate depth a ts rest
  unfolding r.member
  member-sound e ts mid d a rest read =
      let after = cond (sees k.Not mid) (next mid) mid in
      let i = two_steps (expect k.In after) (λ _. r.subquery sub >>= λ q. pure (tree.is_in e (sees k.Not mid) q)) (a, rest) read in
      let s = two_steps (r.subquery sub i.1) (λ q. pure (tree.is_in e (sees k.Not mid) q)) (a, rest) i.3 in
      same_read (λ z m. IsPredicate depth z ts m) _ a s.1 rest s.3
      (g.member d (not-is mid (sees k.Not mid) refl) (expect-is k.In after i.1 i.0 i.2) (sub-sound s.0 i.1 s.1 s.2))

  compared-sound : (e : Expression) (ts mid : Input) → IsExpr e ts mid → (o : Option Comparison) → r.comparison_of (kind_at mid) ≡ o → (a : Condition) (rest : Input) → r.compared_by sub e o mid ≡ Some (a, rest) → IsPredicate depth a ts rest
  unfolding r.compared_by
  compared-sound e ts mid d None is a rest read = member-sound e ts mid d a rest read
  compared-sound e ts mid d (Some op) is a rest read =
      let s = two_steps (r.operand sub (next mid)) (λ s. pure (tree.compare e op s)) (a, rest) read in
      same_read (λ z m. IsPredicate depth z ts m) _ a s.1 rest s.3
      (g.comparison d (comparison-is op mid (kind_at mid) refl is) (operand-sound s.0 (next mid) s.1 s.2))

  predicate-sound : Sound (r.predicate sub) (IsPredicate depth)
  unfolding r.predicate
  predicate-sound a ts rest e = elim (chosen (sees k.Exists ts) _ _ (a, rest) e) [
    | inl p ↦ (let s = two_steps (expect k.Exists ts) (λ _. r.subquery sub >>= λ q. pure (tree.exists q)) (a, rest) p.1 in
        let q = two_steps (r.subquery sub s.1) (λ q. pure (tree.exists q)) (a, rest) s.3 in
        same_read (λ z m. IsPredicate depth z ts m) _ a q.1 rest q.3 (g.exists_one (expect-is k.Exists ts s.1 s.0 s.2) (sub-sound q.0 s.1 q.1 q.2)))
    | inr p ↦ (let s = two_steps (r.expr ts) (λ e mid. r.compared_by sub e (r.comparison_of (kind_at mid)) mid) (a, rest) p.1 in
        compared-sound s.0 ts s.1 (expr-sound s.0 ts s.1 s.2) _ refl a rest s.3)
  ]

  -- given what the deeper reader reads
  neg_with-sound : (nesting : ℕ) (deeper : Reader Condition) → ((a : Condition) (ts mid rest : Input) → Is k.Not ts mid → deeper mid ≡ Some (a, rest) → IsNeg depth nesting (tree.negation a) ts rest)
      → ((a : Condition) (ts x y rest : Input) → Is k.LeftParen ts x → r.cond deeper x ≡ Some (a, y) → Is k.RightParen y rest → IsNeg depth nesting a ts rest) → Sound (r.neg_with sub deeper) (IsNeg depth nesting)
  unfolding r.neg_with r.group
  neg_with-sound nesting deeper nots groups a ts rest e = elim (chosen (sees k.Not ts) _ _ (a, rest) e) [
    | inl p ↦ (let s = two_steps (expect k.Not ts) (λ _. deeper >>= λ a. pure (tree.negation a)) (a, rest) p.1 in
        let q = two_steps (deeper s.1) (λ a. pure (tree.negation a)) (a, rest) s.3 in
        same_read (λ z m. IsNeg depth nesting z ts m) _ a q.1 rest q.3 (nots q.0 ts s.1 q.1 (expect-is k.Not ts s.1 s.0 s.2) q.2))
    | inr p ↦ elim (chosen (sees k.LeftParen ts) _ _ (a, rest) p.1) [
      | inl q ↦ between_cond a ts rest q.1
      | inr q ↦ g.predicate (predicate-sound a ts rest q.1)
    ]
  ]
    where
      between_cond : (a : Condition) (ts rest : Input) → (expect k.LeftParen >> (r.cond deeper >>= λ x. expect k.RightParen >> pure x)) ts ≡ Some (a, rest) → IsNeg depth nesting a ts rest
      between_cond a ts rest e =
          let f = two_steps (expect k.LeftParen ts) (λ _. r.cond deeper >>= λ x. expect k.RightParen >> pure x) (a, rest) e in
          let s = two_steps (r.cond deeper f.1) (λ x. expect k.RightParen >> pure x) (a, rest) f.3 in
          let l = two_steps (expect k.RightParen s.1) (λ _. pure s.0) (a, rest) s.3 in
          same_read (λ z m. IsNeg depth nesting z ts m) s.0 a l.1 rest l.3 (groups s.0 ts f.1 s.1 l.1 (expect-is k.LeftParen ts f.1 f.0 f.2) s.2 (expect-is k.RightParen s.1 l.1 l.0 l.2))

  pub neg-sound : (nesting : ℕ) → Sound (r.neg sub nesting) (IsNeg depth nesting)
  unfolding r.neg r.inner_neg
  neg-sound zero = neg_with-sound zero r.refuse (λ a ts mid rest is e. absurd (cc)) (λ a ts x y rest is e _. absurd (no_cond a x y e))
  neg-sound (suc n) = neg_with-sound (suc n) (r.neg_with sub (r.inner_neg sub n)) (λ a ts mid rest is e. g.not_neg is (neg-sound n a mid rest e))
      (λ a ts x y rest is e close. g.group is (cond-sound depth n (r.neg_with sub (r.inner_neg sub n)) (neg-sound n) a x y e) close)

  pub filter-sound : Sound (r.filter sub) (IsFilter depth)
  unfolding r.filter
  filter-sound f ts rest e = elim (chosen (sees k.Where ts) _ _ (f, rest) e) [
    | inl p ↦ (let s = two_steps (expect k.Where ts) (λ _. r.cond (r.neg sub max_nesting) >>= λ a. pure (tree.those a)) (f, rest) p.1 in
        let q = two_steps (r.cond (r.neg sub max_nesting) s.1) (λ a. pure (tree.those a)) (f, rest) s.3 in
        same_read (λ z m. IsFilter depth z ts m) _ f q.1 rest q.3
        (g.filter (expect-is k.Where ts s.1 s.0 s.2) (cond-sound depth max_nesting (r.neg sub max_nesting) (neg-sound max_nesting) q.0 s.1 q.1 q.2)))
    | inr p ↦ same_read (λ z m. IsFilter depth z ts m) tree.everything f ts rest p.1 g.no_filter
  ]

  query_with-sound : Sound (r.query_with sub) (IsQuery depth)
  unfolding r.query_with
  query_with-sound q ts rest e =
      let from = λ (i : Items). expect k.From >> (r.sources >>= λ ss. r.filter sub >>= λ f. pure (tree.select i ss f)) in
      let s1 = two_steps (expect k.Select ts) (λ _. r.items >>= from) (q, rest) e in
      let s2 = two_steps (r.items s1.1) from (q, rest) s1.3 in
      let s3 = two_steps (expect k.From s2.1) (λ _. r.sources >>= λ ss. r.filter sub >>= λ f. pure (tree.select s2.0 ss f)) (q, rest) s2.3 in
      let s4 = two_steps (r.sources s3.1) (λ ss. r.filter sub >>= λ f. pure (tree.select s2.0 ss f)) (q, rest) s3.3 in
      let s5 = two_steps (r.filter sub s4.1) (λ f. pure (tree.select s2.0 s4.0 f)) (q, rest) s4.3 in
      same_read (λ z m. IsQuery depth z ts m) _ q s5.1 rest s5.3
      (g.selects (expect-is k.Select ts s1.1 s1.0 s1.2) (items-sound s2.0 s1.1 s2.1 s2.2) (expect-is k.From s2.1 s3.1 s3.0 s3.2) (sources-sound s4.0 s3.1 s4.1 s4.2) (filter-sound s5.0 s4.1 s5.1 s5.2))

no_subquery : Sound (r.subquery r.refuse) (IsSubquery zero)
unfolding r.subquery
no_subquery q ts rest e =
    let s = two_steps (expect k.LeftParen ts) (λ _. r.refuse >>= λ q. expect k.RightParen >> pure q) (q, rest) e in
    absurd (cc)

subquery-sound : (depth : ℕ) (sub : Reader Query) → Sound sub (IsQuery depth) → Sound (r.subquery sub) (IsSubquery (suc depth))
unfolding r.subquery
subquery-sound depth sub sound q ts rest e =
    let f = two_steps (expect k.LeftParen ts) (λ _. sub >>= λ q. expect k.RightParen >> pure q) (q, rest) e in
    let s = two_steps (sub f.1) (λ q. expect k.RightParen >> pure q) (q, rest) f.3 in
    let l = two_steps (expect k.RightParen s.1) (λ _. pure s.0) (q, rest) s.3 in
    same_read (λ z m. IsSubquery (suc depth) z ts m) s.0 q l.1 rest l.3 (g.nested (expect-is k.LeftParen ts f.1 f.0 f.2) (sound s.0 f.1 s.1 s.2) (expect-is k.RightParen s.1 l.1 l.0 l.2))

pub query-sound : (depth : ℕ) → Sound (r.query_to depth) (IsQuery depth)
unfolding r.query_to r.inner_query
query-sound zero = query_with-sound zero r.refuse no_subquery
query-sound (suc depth) = query_with-sound (suc depth) (r.query_with (r.inner_query depth)) (subquery-sound depth (r.query_with (r.inner_query depth)) (query-sound depth))

pub inner-sound : (depth : ℕ) → Sound (r.subquery (r.inner_query depth)) (IsSubquery depth)
unfolding r.query_to r.inner_query
inner-sound zero = no_subquery
inner-sound (suc depth) = subquery-sound depth (r.query_with (r.inner_query depth)) (query-sound depth)
