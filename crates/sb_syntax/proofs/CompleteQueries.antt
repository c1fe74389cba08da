-- Completeness of conditions and queries.
use Rattle.std.proofs.Common.{◌≡◌, ◌<◌, ℕ, suc, Bool, true, false, List, length, Option, Some, None, ap, sym, ◌∙◌, refl, arith}
use Rattle.sb_syntax.specs.declared.kind.TokenKind.{TokenKind}
use Rattle.sb_syntax.specs.declared.kind.TokenKind.TheVariants as k
use Rattle.sb_syntax.specs.declared.tree.Comparison.{Comparison}
use Rattle.sb_syntax.specs.declared.tree.SourceReference.{SourceReference}
use Rattle.sb_syntax.specs.Input.{Input, Is, same_kind}
use Rattle.sb_syntax.specs.Tree as tree
use Rattle.sb_syntax.specs.Tree.{Name, Expression, Items, Condition, Operand, Filter, Query, Statement, Command}
use Rattle.sb_syntax.specs.Grammar as g
use Rattle.sb_syntax.specs.Grammar.{IsName, IsLiteral, IsExpr, IsItems, IsSources, IsComparison, IsNot, IsCond, IsConj, IsNeg, IsPredicate, IsOperand, IsSubquery, IsFilter, IsQuery, IsColumnType, IsDefinition, IsTuple, IsChange, IsPhrase, IsLeadingCommand, Separated, IsCommand, max_nesting, max_depth, max_columns}
use Rattle.sb_syntax.specs.Reading as r
use Rattle.sb_syntax.specs.Reading.{Reader, Joins, and_then, kind_at, sees, next, expect, bytes_of, ◌>>=◌, ◌>>◌, pure, pushes}
use Rattle.sb_syntax.specs.Turns.{GoesOn}
use Rattle.sb_syntax.proofs.Turns.{goes_on-end, pushes_no}
use Rattle.sb_syntax.proofs.TokenLaws.{Reads, is-kind, is-sees, is-other, is-next, is-shorter, is-expect}
use Rattle.sb_syntax.proofs.Loops.{chained-start, goes_on-token}
use Rattle.sb_syntax.proofs.CompleteLaws.{mapped, expr-reads, expr-begins, Stops, dot, begins-no, items-reads, sources-reads}

pub record StopsConj (ts : Input) : Type 0 where
  pub expr : Stops ts
  pub no_and : r.ands (kind_at ts) ≡ None

pub record StopsCond (ts : Input) : Type 0 where
  pub conj : StopsConj ts
  pub no_or : r.ors (kind_at ts) ≡ None

-- where a command's part ends: neither a filter, nor a further item or source, nor an alias goes on
pub record StopsQuery (ts : Input) : Type 0 where
  pub cond : StopsCond ts
  pub no_where : sees k.Where ts ≡ false
  pub no_name : sees k.Name ts ≡ false
  pub no_comma : sees k.Comma ts ≡ false

-- a token that goes on with none of them
pub stops : (kind : TokenKind) (ts rest : Input) → Is kind ts rest → dot (Some kind) ≡ false → r.multiplies (Some kind) ≡ None → r.adds (Some kind) ≡ None → Stops ts
stops kind ts rest is d a b = record { term = record { no_dot = ap dot (is-kind kind ts rest is) ∙ d; no_product = ap r.multiplies (is-kind kind ts rest is) ∙ a }; no_sum = ap r.adds (is-kind kind ts rest is) ∙ b }

pub stops-query : (kind : TokenKind) (ts rest : Input) → Is kind ts rest → dot (Some kind) ≡ false → r.multiplies (Some kind) ≡ None → r.adds (Some kind) ≡ None → r.ands (Some kind) ≡ None → r.ors (Some kind) ≡ None
    → same_kind kind k.Where ≡ false → same_kind kind k.Name ≡ false → same_kind kind k.Comma ≡ false → StopsQuery ts
stops-query kind ts rest is d a b c e w n m = record {
  cond = record {
    conj = record { expr = stops kind ts rest is d a b; no_and = ap r.ands (is-kind kind ts rest is) ∙ c };
    no_or = ap r.ors (is-kind kind ts rest is) ∙ e;
  };
  no_where = is-other kind k.Where ts rest is w;
  no_name = is-other kind k.Name ts rest is n;
  no_comma = is-other kind k.Comma ts rest is m;
}

pub paren-stops : (ts rest : Input) → Is k.RightParen ts rest → StopsQuery ts
unfolding same_kind
paren-stops ts rest is = stops-query k.RightParen ts rest is refl refl refl refl refl refl refl refl

-- a list ends where no separator stands
pub no_separator : {A : Type 0} (sep : TokenKind) (ts : Input) → sees sep ts ≡ false → pushes {A = A} sep (kind_at ts) ≡ None
no_separator {A = A} sep ts absent = pushes_no sep ts false (sym absent) refl

-- one step after another
then : {A B : Type 0} (p : Reader A) (f : A → Reader B) (x : A) (ts mid : Input) (o : Option (B × Input)) → p ts ≡ Some (x, mid) → f x mid ≡ o → (p >>= f) ts ≡ o
then p f x ts mid o e h = ap (λ q. and_then q f) e ∙ h

-- ---- comparisons

comparison-kind : (op : Comparison) (ts rest : Input) → IsComparison op ts rest → (r.comparison_of (kind_at ts) ≡ Some op) × (next ts ≡ rest) × Stops ts
comparison-kind op ts rest (g.equal is) = (ap r.comparison_of (is-kind k.Equal ts rest is), is-next k.Equal ts rest is, stops k.Equal ts rest is refl refl refl)
comparison-kind op ts rest (g.not_equal is) = (ap r.comparison_of (is-kind k.NotEqual ts rest is), is-next k.NotEqual ts rest is, stops k.NotEqual ts rest is refl refl refl)
comparison-kind op ts rest (g.less_than is) = (ap r.comparison_of (is-kind k.Less ts rest is), is-next k.Less ts rest is, stops k.Less ts rest is refl refl refl)
comparison-kind op ts rest (g.at_most is) = (ap r.comparison_of (is-kind k.LessEqual ts rest is), is-next k.LessEqual ts rest is, stops k.LessEqual ts rest is refl refl refl)
comparison-kind op ts rest (g.greater_than is) = (ap r.comparison_of (is-kind k.Greater ts rest is), is-next k.Greater ts rest is, stops k.Greater ts rest is refl refl refl)
comparison-kind op ts rest (g.at_least is) = (ap r.comparison_of (is-kind k.GreaterEqual ts rest is), is-next k.GreaterEqual ts rest is, stops k.GreaterEqual ts rest is refl refl refl)

comparison-shorter : (op : Comparison) (ts rest : Input) → IsComparison op ts rest → length rest < length ts
comparison-shorter op ts rest (g.equal is) = is-shorter _ ts rest is
comparison-shorter op ts rest (g.not_equal is) = is-shorter _ ts rest is
comparison-shorter op ts rest (g.less_than is) = is-shorter _ ts rest is
comparison-shorter op ts rest (g.at_most is) = is-shorter _ ts rest is
comparison-shorter op ts rest (g.greater_than is) = is-shorter _ ts rest is
comparison-shorter op ts rest (g.at_least is) = is-shorter _ ts rest is

-- ---- each production, given its parts

module _ (sub : Reader Query) where
  not-case : (deeper : Reader Condition) (a : Condition) (ts x rest : Input) → Is k.Not ts x → Reads deeper a x rest → Reads (r.neg_with sub deeper) (tree.negation a) ts rest
  unfolding r.neg_with
  not-case deeper a ts x rest is d = (rw (is-sees k.Not ts x is, is-expect k.Not ts x is, d.0) refl, omega (arith, is-shorter k.Not ts x is, d.1))

  group-case : (deeper : Reader Condition) (a : Condition) (ts x y rest : Input) → Is k.LeftParen ts x → Reads (r.cond deeper) a x y → Is k.RightParen y rest → Reads (r.neg_with sub deeper) a ts rest
  unfolding r.neg_with r.group same_kind
  group-case deeper a ts x y rest is d close = (
    rw (is-other k.LeftParen k.Not ts x is refl, is-sees k.LeftParen ts x is, is-expect k.LeftParen ts x is, d.0, is-expect k.RightParen y rest close) refl,
    omega (arith, is-shorter k.LeftParen ts x is, d.1, is-shorter k.RightParen y rest close),
  )

  predicate-case : (deeper : Reader Condition) (a : Condition) (ts rest : Input) → sees k.Not ts ≡ false → sees k.LeftParen ts ≡ false → Reads (r.predicate sub) a ts rest → Reads (r.neg_with sub deeper) a ts rest
  unfolding r.neg_with
  predicate-case deeper a ts rest no_not no_paren d = (rw (no_not, no_paren) d.0, d.1)

  comparison-case : (e : Expression) (op : Comparison) (s : Operand) (ts x y rest : Input) → IsExpr e ts x → IsComparison op x y → Reads (r.operand sub) s y rest → Reads (r.predicate sub) (tree.compare e op s) ts rest
  unfolding r.predicate r.compared_by
  comparison-case e op s ts x y rest d is h =
      let o = comparison-kind op x y is in
      let m = expr-reads e ts x d o.2 in
      (rw (begins-no k.Exists ts refl (expr-begins e ts x d), m.0, o.0, o.1, h.0) refl, omega (arith, m.1, comparison-shorter op x y is, h.1))

  member-case : (e : Expression) (negated : Bool) (q : Query) (ts x y z rest : Input) → IsExpr e ts x → IsNot negated x y → Is k.In y z → Reads (r.subquery sub) q z rest → Reads (r.predicate sub) (tree.is_in e negated q) ts rest
  unfolding r.predicate r.compared_by r.member same_kind
  member-case e negated q ts x y z rest d g.plain is h =
      let m = expr-reads e ts x d (stops k.In x z is refl refl refl) in
      (rw (begins-no k.Exists ts refl (expr-begins e ts x d), m.0, is-kind k.In x z is, is-other k.In k.Not x z is refl, is-expect k.In x z is, h.0) refl, omega (arith, m.1, is-shorter k.In x z is, h.1))
  member-case e negated q ts x y z rest d (g.not n) is h =
      let m = expr-reads e ts x d (stops k.Not x y n refl refl refl) in
      (rw (begins-no k.Exists ts refl (expr-begins e ts x d), m.0, is-kind k.Not x y n, is-sees k.Not x y n, is-next k.Not x y n, is-expect k.In y z is, h.0) refl, omega (arith, m.1, is-shorter k.Not x y n, is-shorter k.In y z is, h.1))

  exists-case : (q : Query) (ts x rest : Input) → Is k.Exists ts x → Reads (r.subquery sub) q x rest → Reads (r.predicate sub) (tree.exists q) ts rest
  unfolding r.predicate
  exists-case q ts x rest is h = (rw (is-sees k.Exists ts x is, is-expect k.Exists ts x is, h.0) refl, omega (arith, is-shorter k.Exists ts x is, h.1))

  subquery-case : (q : Query) (ts x y rest : Input) → Is k.LeftParen ts x → Reads sub q x y → Is k.RightParen y rest → Reads (r.subquery sub) q ts rest
  unfolding r.subquery
  subquery-case q ts x y rest is h close = (rw (is-expect k.LeftParen ts x is, h.0, is-expect k.RightParen y rest close) refl, omega (arith, is-shorter k.LeftParen ts x is, h.1, is-shorter k.RightParen y rest close))

  subquery-paren : (depth : ℕ) (q : Query) (ts rest : Input) → IsSubquery depth q ts rest → sees k.LeftParen ts ≡ true
  subquery-paren depth q ts rest (g.nested is d close) = is-sees k.LeftParen ts _ is

  query_side-case : (depth : ℕ) (q : Query) (ts rest : Input) → IsSubquery depth q ts rest → Reads (r.subquery sub) q ts rest → Reads (r.operand sub) (tree.scalar_subquery q) ts rest
  unfolding r.operand
  query_side-case depth q ts rest d h = let m = mapped tree.scalar_subquery (r.subquery sub) q ts rest h in (rw (subquery-paren depth q ts rest d) m.0, m.1)

  expr_side-case : (e : Expression) (ts rest : Input) → IsExpr e ts rest → Stops rest → Reads (r.operand sub) (tree.expression e) ts rest
  unfolding r.operand
  expr_side-case e ts rest d stops = let m = mapped tree.expression r.expr e ts rest (expr-reads e ts rest d stops) in (rw (begins-no k.LeftParen ts refl (expr-begins e ts rest d)) m.0, m.1)

  no_filter-case : (ts : Input) → sees k.Where ts ≡ false → Reads (r.filter sub) tree.everything ts ts
  unfolding r.filter
  no_filter-case ts e = (rw e refl, omega arith)

  filter-case : (a : Condition) (ts x rest : Input) → Is k.Where ts x → Reads (r.cond (r.neg sub max_nesting)) a x rest → Reads (r.filter sub) (tree.those a) ts rest
  unfolding r.filter
  filter-case a ts x rest is h = (rw (is-sees k.Where ts x is, is-expect k.Where ts x is, h.0) refl, omega (arith, is-shorter k.Where ts x is, h.1))

  query-case : (depth : ℕ) (i : Items) (ss : List SourceReference) (f : Filter) (ts x y z w rest : Input) → Is k.Select ts x → IsItems i x y → Is k.From y z → IsSources ss z w → sees k.Name w ≡ false → sees k.Comma w ≡ false
      → Reads (r.filter sub) f w rest → Reads (r.query_with sub) (tree.select i ss f) ts rest
  unfolding r.query_with same_kind
  query-case depth i ss f ts x y z w rest a b c d no_name no_comma h =
      let m = items-reads i x y b (stops k.From y z c refl refl refl) (no_separator k.Comma y (is-other k.From k.Comma y z c refl)) in
      let n = sources-reads ss z w d no_name no_comma in
      (rw (is-expect k.Select ts x a, m.0, is-expect k.From y z c, n.0, h.0) refl, omega (arith, is-shorter k.Select ts x a, m.1, is-shorter k.From y z c, n.1, h.1))

pub predicate-begins : (depth : ℕ) (a : Condition) (ts rest : Input) → IsPredicate depth a ts rest → (sees k.Not ts ≡ false) × (sees k.LeftParen ts ≡ false)
unfolding same_kind
predicate-begins depth a ts rest (g.comparison d is h) = (begins-no k.Not ts refl (expr-begins _ ts _ d), begins-no k.LeftParen ts refl (expr-begins _ ts _ d))
predicate-begins depth a ts rest (g.member d n is h) = (begins-no k.Not ts refl (expr-begins _ ts _ d), begins-no k.LeftParen ts refl (expr-begins _ ts _ d))
predicate-begins depth a ts rest (g.exists_one is h) = (is-other k.Exists k.Not ts _ is refl, is-other k.Exists k.LeftParen ts _ is refl)

-- ---- all together, by recursion on how the grammar has it

or-conj : (ts rest : Input) → Is k.Or ts rest → StopsConj ts
or-conj ts rest is = record { expr = stops k.Or ts rest is refl refl refl; no_and = ap r.ands (is-kind k.Or ts rest is) }

cond-end : (depth nesting : ℕ) (a : Condition) (ts rest : Input) → GoesOn r.ors (r.conj (r.neg (r.inner_query depth) nesting)) (r.cond (r.neg (r.inner_query depth) nesting) ts) (length ts) a rest → r.ors (kind_at rest) ≡ None → Reads (r.cond (r.neg (r.inner_query depth) nesting)) a ts rest
cond-end depth nesting a ts rest h stop = goes_on-end r.ors (r.conj (r.neg (r.inner_query depth) nesting)) _ _ _ rest _ h refl stop

conj-end : (depth nesting : ℕ) (a : Condition) (ts rest : Input) → GoesOn r.ands (r.neg (r.inner_query depth) nesting) (r.conj (r.neg (r.inner_query depth) nesting) ts) (length ts) a rest → r.ands (kind_at rest) ≡ None → Reads (r.conj (r.neg (r.inner_query depth) nesting)) a ts rest
conj-end depth nesting a ts rest h stop = goes_on-end r.ands (r.neg (r.inner_query depth) nesting) _ _ _ rest _ h refl stop

cond-first : (neg : Reader Condition) (a : Condition) (ts rest : Input) → Reads (r.conj neg) a ts rest → GoesOn r.ors (r.conj neg) (r.cond neg ts) (length ts) a rest
unfolding r.cond
cond-first neg a ts rest h = chained-start r.ors (r.conj neg) a ts rest h

conj-first : (neg : Reader Condition) (a : Condition) (ts rest : Input) → Reads neg a ts rest → GoesOn r.ands neg (r.conj neg ts) (length ts) a rest
unfolding r.conj
conj-first neg a ts rest h = chained-start r.ands neg a ts rest h

neg-step : (sub : Reader Query) (nesting : ℕ) (a : Condition) (ts x rest : Input) → Is k.Not ts x → Reads (r.neg sub nesting) a x rest → Reads (r.neg sub (suc nesting)) (tree.negation a) ts rest
unfolding r.neg r.inner_neg
neg-step sub nesting a ts x rest is h = not-case sub (r.neg_with sub (r.inner_neg sub nesting)) a ts x rest is h

group-step : (sub : Reader Query) (nesting : ℕ) (a : Condition) (ts x y rest : Input) → Is k.LeftParen ts x → Reads (r.cond (r.neg sub nesting)) a x y → Is k.RightParen y rest → Reads (r.neg sub (suc nesting)) a ts rest
unfolding r.neg r.inner_neg
group-step sub nesting a ts x y rest is h close = group-case sub (r.neg_with sub (r.inner_neg sub nesting)) a ts x y rest is h close

predicate-step : (sub : Reader Query) (nesting depth : ℕ) (a : Condition) (ts rest : Input) → IsPredicate depth a ts rest → Reads (r.predicate sub) a ts rest → Reads (r.neg sub nesting) a ts rest
unfolding r.neg
predicate-step sub nesting depth a ts rest d h = let b = predicate-begins depth a ts rest d in predicate-case sub (r.inner_neg sub nesting) a ts rest b.0 b.1 h

subquery-step : (depth : ℕ) (q : Query) (ts x y rest : Input) → Is k.LeftParen ts x → Reads (r.query_to depth) q x y → Is k.RightParen y rest → Reads (r.subquery (r.inner_query (suc depth))) q ts rest
unfolding r.query_to r.inner_query
subquery-step depth q ts x y rest is h close = subquery-case (r.query_with (r.inner_query depth)) q ts x y rest is h close

-- what stands behind the sources
pub filter-first : (depth : ℕ) (f : Filter) (ts rest : Input) → IsFilter depth f ts rest → StopsQuery rest → (sees k.Name ts ≡ false) × (sees k.Comma ts ≡ false) × Stops ts
unfolding same_kind
filter-first depth f ts rest g.no_filter stop = (stop.no_name, stop.no_comma, stop.cond.conj.expr)
filter-first depth f ts rest (g.filter {x = x} is d) stop = (is-other k.Where k.Name ts x is refl, is-other k.Where k.Comma ts x is refl, stops k.Where ts x is refl refl refl)

query-step : (depth : ℕ) (i : Items) (ss : List SourceReference) (f : Filter) (ts x y z w rest : Input) → Is k.Select ts x → IsItems i x y → Is k.From y z → IsSources ss z w → sees k.Name w ≡ false → sees k.Comma w ≡ false
    → Reads (r.filter (r.inner_query depth)) f w rest → Reads (r.query_to depth) (tree.select i ss f) ts rest
unfolding r.query_to
query-step depth = query-case (r.inner_query depth) depth

mutual
  cond-reach : (depth nesting : ℕ) (a : Condition) (ts rest : Input) → IsCond depth nesting a ts rest → StopsConj rest
      → GoesOn r.ors (r.conj (r.neg (r.inner_query depth) nesting)) (r.cond (r.neg (r.inner_query depth) nesting) ts) (length ts) a rest
  cond-reach depth nesting a ts rest (g.conj d) stop = cond-first (r.neg (r.inner_query depth) nesting) a ts rest (conj-end depth nesting a ts rest (conj-reach depth nesting a ts rest d stop.expr) stop.no_and)
  cond-reach depth nesting a ts rest (g.or {a = b} {b = c} {x = x} {y = y} d is f) stop =
      goes_on-token r.ors (r.conj (r.neg (r.inner_query depth) nesting)) _ _ b x y rest k.Or tree.disjunction c refl refl (cond-reach depth nesting b ts x d (or-conj x y is)) is
      (conj-end depth nesting c y rest (conj-reach depth nesting c y rest f stop.expr) stop.no_and)

  conj-reach : (depth nesting : ℕ) (a : Condition) (ts rest : Input) → IsConj depth nesting a ts rest → Stops rest
      → GoesOn r.ands (r.neg (r.inner_query depth) nesting) (r.conj (r.neg (r.inner_query depth) nesting) ts) (length ts) a rest
  conj-reach depth nesting a ts rest (g.neg d) stop = conj-first (r.neg (r.inner_query depth) nesting) a ts rest (neg-reads depth nesting a ts rest d stop)
  conj-reach depth nesting a ts rest (g.and {a = b} {b = c} {x = x} {y = y} d is f) stop =
      goes_on-token r.ands (r.neg (r.inner_query depth) nesting) _ _ b x y rest k.And tree.conjunction c refl refl (conj-reach depth nesting b ts x d (stops k.And x y is refl refl refl)) is
      (neg-reads depth nesting c y rest f stop)

  neg-reads : (depth nesting : ℕ) (a : Condition) (ts rest : Input) → IsNeg depth nesting a ts rest → Stops rest → Reads (r.neg (r.inner_query depth) nesting) a ts rest
  neg-reads depth nesting a ts rest (g.not_neg {nesting = n} {a = b} {x = x} is d) stop = neg-step (r.inner_query depth) n b ts x rest is (neg-reads depth n b x rest d stop)
  neg-reads depth nesting a ts rest (g.group {nesting = n} {x = x} {y = y} is d close) stop =
      let s = paren-stops y rest close in
      group-step (r.inner_query depth) n a ts x y rest is (cond-end depth n a x y (cond-reach depth n a x y d s.cond.conj) s.cond.no_or) close
  neg-reads depth nesting a ts rest (g.predicate d) stop = predicate-step (r.inner_query depth) nesting depth a ts rest d (predicate-reads depth a ts rest d stop)

  predicate-reads : (depth : ℕ) (a : Condition) (ts rest : Input) → IsPredicate depth a ts rest → Stops rest → Reads (r.predicate (r.inner_query depth)) a ts rest
  predicate-reads depth a ts rest (g.comparison {e = e} {op = op} {s = s} {x = x} {y = y} d is h) stop = comparison-case (r.inner_query depth) e op s ts x y rest d is (operand-reads depth s y rest h stop)
  predicate-reads depth a ts rest (g.member {e = e} {negated = n} {q = q} {x = x} {y = y} {z = z} d m is h) stop = member-case (r.inner_query depth) e n q ts x y z rest d m is (subquery-reads depth q z rest h)
  predicate-reads depth a ts rest (g.exists_one {q = q} {x = x} is h) stop = exists-case (r.inner_query depth) q ts x rest is (subquery-reads depth q x rest h)

  pub operand-reads : (depth : ℕ) (s : Operand) (ts rest : Input) → IsOperand depth s ts rest → Stops rest → Reads (r.operand (r.inner_query depth)) s ts rest
  operand-reads depth s ts rest (g.expr_side {e = e} d) stop = expr_side-case (r.inner_query depth) e ts rest d stop
  operand-reads depth s ts rest (g.query_side {q = q} d) stop = query_side-case (r.inner_query depth) depth q ts rest d (subquery-reads depth q ts rest d)

  subquery-reads : (depth : ℕ) (q : Query) (ts rest : Input) → IsSubquery depth q ts rest → Reads (r.subquery (r.inner_query depth)) q ts rest
  subquery-reads depth q ts rest (g.nested {depth = below} {x = x} {y = y} is d close) = subquery-step below q ts x y rest is (query-reads below q x y d (paren-stops y rest close)) close

  pub filter-reads : (depth : ℕ) (f : Filter) (ts rest : Input) → IsFilter depth f ts rest → StopsQuery rest → Reads (r.filter (r.inner_query depth)) f ts rest
  filter-reads depth f ts rest g.no_filter stop = no_filter-case (r.inner_query depth) ts stop.no_where
  filter-reads depth f ts rest (g.filter {a = a} {x = x} is d) stop =
      filter-case (r.inner_query depth) a ts x rest is (cond-end depth max_nesting a x rest (cond-reach depth max_nesting a x rest d stop.cond.conj) stop.cond.no_or)

  pub query-reads : (depth : ℕ) (q : Query) (ts rest : Input) → IsQuery depth q ts rest → StopsQuery rest → Reads (r.query_to depth) q ts rest
  query-reads depth q ts rest (g.selects {i = i} {ss = ss} {f = f} {x = x} {y = y} {z = z} {w = w} a b c d h) stop =
      let n = filter-first depth f w rest h stop in
      query-step depth i ss f ts x y z w rest a b c d n.0 n.1 (filter-reads depth f w rest h stop)
