-- What the grammar has, the reader reads.
use Rattle.std.proofs.Common.{◌∙◌, sym, ◌≡◌, ◌≤◌, ◌^◌, ℕ, Bool, true, false, cond, ◌||◌, List, ◌∷◌, length, Option, Some, None, is_some, ap, refl, arith}
use Rattle.std.proofs.lemmas.Bool.{lt-ltb, le-leb, and_from}
use Rattle.std.proofs.lemmas.List.Sums.{list_all-from_AllPass}
use Rattle.sb_value.specs.Printable.{is_printable}
use Rattle.sb_value.specs.declared.value.Value.{Value}
use Rattle.sb_value.specs.declared.value.Value.TheVariants.{Int}
use Rattle.sb_syntax.specs.declared.kind.TokenKind.{TokenKind}
use Rattle.sb_syntax.specs.declared.kind.TokenKind.TheVariants as k
use Rattle.sb_syntax.specs.declared.tree.Arithmetic.TheVariants.{Add, Subtract, Multiply}
use Rattle.sb_syntax.specs.declared.tree.TableReference.{TableReference}
use Rattle.sb_syntax.specs.declared.tree.TableReference.TheVariants.{Named}
use Rattle.sb_syntax.specs.declared.tree.ColumnReference.{ColumnReference}
use Rattle.sb_syntax.specs.declared.tree.ColumnReference.TheVariants.{Qualified}
use Rattle.sb_syntax.specs.declared.tree.SourceReference.{SourceReference}
use Rattle.sb_syntax.specs.Input.{Input, Is, same_kind}
use Rattle.sb_syntax.specs.Literal.{decimal, negative, unquoted}
use Rattle.sb_syntax.specs.Tree as tree
use Rattle.sb_syntax.specs.Tree.{Name, Expression, Items}
use Rattle.sb_syntax.specs.Grammar as g
use Rattle.sb_syntax.specs.Grammar.{IsName, IsLiteral, IsTransition, IsTable, IsColumn, IsFactor, IsTerm, IsExpr, IsItems, IsAlias, IsSource, IsSources, Separated, max_items}
use Rattle.sb_syntax.specs.Reading as r
use Rattle.sb_syntax.specs.Reading.{Reader, Joins, and_then, kind_at, sees, next, expect, bytes_of, ◌>>=◌, ◌>>◌, pure, pushes}
use Rattle.sb_syntax.specs.Turns.{GoesOn}
use Rattle.sb_syntax.proofs.Turns.{goes_on-end}
use Rattle.sb_syntax.proofs.TokenLaws.{Reads, is-kind, is-sees, is-other, is-next, is-shorter, is-expect, differs}
use Rattle.sb_syntax.proofs.Loops.{chained-start, goes_on-token, separated_to-reads}

given : {A : Type 0} (b : Bool) (x : A) (ts : Input) → b ≡ true → cond {A = Option (A × Input)} b (Some (x, ts)) None ≡ Some (x, ts)
given b x ts e = ap (λ c. cond c (Some (x, ts)) None) e

-- a view of what is read
pub mapped : {A B : Type 0} (f : A → B) (p : Reader A) (x : A) (ts rest : Input) → Reads p x ts rest → Reads (p >>= λ x. pure (f x)) (f x) ts rest
mapped f p x ts rest d = (ap (λ o. and_then o (λ x mid. Some (f x, mid))) d.0, d.1)

pub name-reads : (n : Name) (ts rest : Input) → IsName n ts rest → Reads r.name n ts rest
unfolding r.name r.bytes_of same_kind
name-reads n ts rest (g.name lt le) = (given _ n rest (and_from _ _ (lt-ltb _ _ lt) (le-leb _ _ le)), omega arith)

minus-no_integer : same_kind k.Minus k.Integer ≡ false
unfolding same_kind
minus-no_integer = refl

minus-digits : (digits : List ℕ) (rest : Input) → bytes_of k.Integer (record { kind = k.Integer; text = digits } ∷ rest) ≡ Some (digits, rest)
unfolding r.bytes_of same_kind
minus-digits digits rest = refl

minus-reads : (ts rest : Input) (digits : List ℕ) → Is k.Minus ts (record { kind = k.Integer; text = digits } ∷ rest) → decimal digits ≤ 2 ^ 63 → Reads r.literal_value (Int (negative (decimal digits))) ts rest
unfolding r.literal_value r.minus
minus-reads ts rest digits is le =
    (rw (is-other k.Minus k.Integer ts _ is minus-no_integer, is-sees k.Minus ts _ is, is-expect k.Minus ts _ is, minus-digits digits rest) (given _ _ rest (le-leb _ _ le)), omega (arith, is-shorter k.Minus ts _ is))

pub literal-reads : (v : Value) (ts rest : Input) → IsLiteral v ts rest → Reads r.literal_value v ts rest
unfolding r.literal_value r.integer r.minus r.text r.bytes_of r.sees same_kind
literal-reads v ts rest (g.integer lt) = (given _ _ rest (lt-ltb _ _ lt), omega arith)
literal-reads v ts rest (g.text {quoted = quoted} le all) = (given _ _ rest (and_from _ _ (le-leb _ _ le) (list_all-from_AllPass is_printable (unquoted quoted) all)), omega arith)
literal-reads v ts rest (g.minus {digits = digits} is le) = minus-reads ts rest digits is le

-- ---- tables and columns

pub name-kind : (n : Name) (ts rest : Input) → IsName n ts rest → kind_at ts ≡ Some k.Name
unfolding kind_at
name-kind n ts rest (g.name lt le) = refl

pub name-seen : (n : Name) (ts rest : Input) → IsName n ts rest → sees k.Name ts ≡ true
unfolding r.sees same_kind
name-seen n ts rest (g.name lt le) = refl

transition-kind : (q : TableReference) (ts rest : Input) → IsTransition q ts rest → (r.transition_of (kind_at ts) ≡ Some q) × (next ts ≡ rest) × (length rest ≤ length ts)
transition-kind q ts rest (g.inserted is) = (ap r.transition_of (is-kind k.Inserted ts rest is), is-next k.Inserted ts rest is, omega (arith, is-shorter k.Inserted ts rest is))
transition-kind q ts rest (g.deleted is) = (ap r.transition_of (is-kind k.Deleted ts rest is), is-next k.Deleted ts rest is, omega (arith, is-shorter k.Deleted ts rest is))
transition-kind q ts rest (g.old_updated is) = (ap r.transition_of (is-kind k.OldUpdated ts rest is), is-next k.OldUpdated ts rest is, omega (arith, is-shorter k.OldUpdated ts rest is))
transition-kind q ts rest (g.new_updated is) = (ap r.transition_of (is-kind k.NewUpdated ts rest is), is-next k.NewUpdated ts rest is, omega (arith, is-shorter k.NewUpdated ts rest is))

pub table-reads : (q : TableReference) (ts rest : Input) → IsTable q ts rest → Reads r.table q ts rest
unfolding r.table r.table_by
table-reads q ts rest (g.named {n = n} d) = let m = mapped Named r.name n ts rest (name-reads n ts rest d) in (ap (λ o. r.table_by (r.transition_of o) ts) (name-kind n ts rest d) ∙ m.0, m.1)
table-reads q ts rest (g.transition d) = let t = transition-kind q ts rest d in (ap (λ o. r.table_by o ts) t.0 ∙ ap (λ (x : Input). Some (q, x)) t.1, t.2)

-- a dot goes on with a column
abbrev pub dot : Option TokenKind → Bool
dot (Some k.Dot) = true
dot _ = false

dot_is_no : (a b : Bool) → a ≡ true → b ≡ false → a ≡ b → ⊥
dot_is_no a b p q e = let f : true ≡ false = sym p ∙ e ∙ q in cc

no_dot-seen : (ts : Input) → dot (kind_at ts) ≡ false → sees k.Dot ts ≡ false
no_dot-seen ts e = differs dot k.Dot ts false true e refl (λ f. dot_is_no true false refl refl (sym f))

-- the column of a table
dotted : (q : TableReference) (n : Name) (x y rest : Input) → Is k.Dot x y → IsName n y rest → Reads (r.column_from q) (Qualified q n) x rest
unfolding r.column_from
dotted q n x y rest is d = let m = name-reads n y rest d in (rw (is-expect k.Dot x y is, m.0) refl, omega (arith, is-shorter k.Dot x y is, m.1))

pub column-reads : (c : ColumnReference) (ts rest : Input) → IsColumn c ts rest → dot (kind_at rest) ≡ false → Reads r.column c ts rest
unfolding r.column r.column_by r.column_after
column-reads c ts rest (g.plain {n = n} d) stop =
    let m = name-reads n ts rest d in
    (ap (λ o. r.column_by (r.transition_of o) ts) (name-kind n ts rest d) ∙ rw (m.0, no_dot-seen rest stop) refl, m.1)
column-reads c ts rest (g.qualified {n = n} {x = x} {y = y} (g.named {n = q} d) is h) stop =
    let m = name-reads q ts x d in
    let l = dotted (Named q) n x y rest is h in
    (ap (λ o. r.column_by (r.transition_of o) ts) (name-kind q ts x d) ∙ rw (m.0, is-sees k.Dot x y is, l.0) refl, omega (arith, m.1, l.1))
column-reads c ts rest (g.qualified {table = q} {n = n} {x = x} {y = y} (g.transition d) is h) stop =
    let t = transition-kind q ts x d in
    let l = dotted q n x y rest is h in
    (ap (λ o. r.column_by o ts) t.0 ∙ ap (r.column_from q) t.1 ∙ l.0, omega (arith, t.2, l.1))

-- ---- what an expression begins with

abbrev pub begins : Option TokenKind → Bool
begins (Some k.Name) = true
begins kind = r.is_literal kind || is_some (r.transition_of kind)

literal-kind : (v : Value) (ts rest : Input) → IsLiteral v ts rest → (r.is_literal (kind_at ts) ≡ true) × (begins (kind_at ts) ≡ true)
unfolding kind_at
literal-kind v ts rest (g.integer lt) = (refl, refl)
literal-kind v ts rest (g.text le all) = (refl, refl)
literal-kind v ts rest (g.minus is le) = (ap r.is_literal (is-kind k.Minus ts _ is), ap begins (is-kind k.Minus ts _ is))

table-kind : (q : TableReference) (ts rest : Input) → IsTable q ts rest → (r.is_literal (kind_at ts) ≡ false) × (begins (kind_at ts) ≡ true)
table-kind q ts rest (g.named {n = n} d) = (ap r.is_literal (name-kind n ts rest d), ap begins (name-kind n ts rest d))
table-kind q ts rest (g.transition (g.inserted is)) = (ap r.is_literal (is-kind k.Inserted ts rest is), ap begins (is-kind k.Inserted ts rest is))
table-kind q ts rest (g.transition (g.deleted is)) = (ap r.is_literal (is-kind k.Deleted ts rest is), ap begins (is-kind k.Deleted ts rest is))
table-kind q ts rest (g.transition (g.old_updated is)) = (ap r.is_literal (is-kind k.OldUpdated ts rest is), ap begins (is-kind k.OldUpdated ts rest is))
table-kind q ts rest (g.transition (g.new_updated is)) = (ap r.is_literal (is-kind k.NewUpdated ts rest is), ap begins (is-kind k.NewUpdated ts rest is))

column-kind : (c : ColumnReference) (ts rest : Input) → IsColumn c ts rest → (r.is_literal (kind_at ts) ≡ false) × (begins (kind_at ts) ≡ true)
column-kind c ts rest (g.plain {n = n} d) = (ap r.is_literal (name-kind n ts rest d), ap begins (name-kind n ts rest d))
column-kind c ts rest (g.qualified {table = q} {x = x} d is h) = table-kind q ts x d

-- ---- expressions

factor-reads : (e : Expression) (ts rest : Input) → IsFactor e ts rest → dot (kind_at rest) ≡ false → Reads r.factor e ts rest
unfolding r.factor
factor-reads e ts rest (g.literal_factor {v = v} d) stop = let m = mapped tree.literal r.literal_value v ts rest (literal-reads v ts rest d) in (rw ((literal-kind v ts rest d).0) m.0, m.1)
factor-reads e ts rest (g.column_factor {column = c} d) stop = let m = mapped tree.column r.column c ts rest (column-reads c ts rest d stop) in (rw ((column-kind c ts rest d).0) m.0, m.1)

factor-begins : (e : Expression) (ts rest : Input) → IsFactor e ts rest → begins (kind_at ts) ≡ true
factor-begins e ts rest (g.literal_factor {v = v} d) = (literal-kind v ts rest d).1
factor-begins e ts rest (g.column_factor {column = c} d) = (column-kind c ts rest d).1

term-reach : (e : Expression) (ts rest : Input) → IsTerm e ts rest → dot (kind_at rest) ≡ false → GoesOn r.multiplies r.factor (r.term ts) (length ts) e rest
unfolding r.term
term-reach e ts rest (g.factor d) stop = chained-start r.multiplies r.factor e ts rest (factor-reads e ts rest d stop)
term-reach e ts rest (g.times {a = a} {b = b} {x = x} {y = y} d is f) stop = goes_on-token r.multiplies r.factor _ _ a x y rest k.Star (λ a b. tree.binary a Multiply b) b refl refl (term-reach a ts x d (ap dot (is-kind k.Star x y is))) is (factor-reads b y rest f stop)

-- where a term ends
pub record StopsTerm (ts : Input) : Type 0 where
  pub no_dot : dot (kind_at ts) ≡ false
  pub no_product : r.multiplies (kind_at ts) ≡ None

term-reads : (e : Expression) (ts rest : Input) → IsTerm e ts rest → StopsTerm rest → Reads r.term e ts rest
term-reads e ts rest d stops = goes_on-end r.multiplies r.factor _ _ _ rest _ (term-reach e ts rest d stops.no_dot) refl stops.no_product

term-begins : (e : Expression) (ts rest : Input) → IsTerm e ts rest → begins (kind_at ts) ≡ true
term-begins e ts rest (g.factor d) = factor-begins e ts rest d
term-begins e ts rest (g.times d is f) = term-begins _ ts _ d

-- where an expression ends
pub record Stops (ts : Input) : Type 0 where
  pub term : StopsTerm ts
  pub no_sum : r.adds (kind_at ts) ≡ None

expr-reach : (e : Expression) (ts rest : Input) → IsExpr e ts rest → StopsTerm rest → GoesOn r.adds r.term (r.expr ts) (length ts) e rest
unfolding r.expr
expr-reach e ts rest (g.term d) stops = chained-start r.adds r.term e ts rest (term-reads e ts rest d stops)
expr-reach e ts rest (g.plus {a = a} {b = b} {x = x} {y = y} d is f) stops = goes_on-token r.adds r.term _ _ a x y rest k.Plus (λ a b. tree.binary a Add b) b refl refl (expr-reach a ts x d (record { no_dot = ap dot (is-kind k.Plus x y is); no_product = ap r.multiplies (is-kind k.Plus x y is) })) is (term-reads b y rest f stops)
expr-reach e ts rest (g.less {a = a} {b = b} {x = x} {y = y} d is f) stops = goes_on-token r.adds r.term _ _ a x y rest k.Minus (λ a b. tree.binary a Subtract b) b refl refl (expr-reach a ts x d (record { no_dot = ap dot (is-kind k.Minus x y is); no_product = ap r.multiplies (is-kind k.Minus x y is) })) is (term-reads b y rest f stops)

pub expr-reads : (e : Expression) (ts rest : Input) → IsExpr e ts rest → Stops rest → Reads r.expr e ts rest
expr-reads e ts rest d stops = goes_on-end r.adds r.term _ _ _ rest _ (expr-reach e ts rest d stops.term) refl stops.no_sum

pub expr-begins : (e : Expression) (ts rest : Input) → IsExpr e ts rest → begins (kind_at ts) ≡ true
expr-begins e ts rest (g.term d) = term-begins e ts rest d
expr-begins e ts rest (g.plus d is f) = expr-begins _ ts _ d
expr-begins e ts rest (g.less d is f) = expr-begins _ ts _ d

-- a token of this kind begins no expression
pub begins-no : (kind : TokenKind) (ts : Input) → begins (Some kind) ≡ false → begins (kind_at ts) ≡ true → sees kind ts ≡ false
begins-no kind ts never so = differs begins kind ts true false so never (λ e. dot_is_no true false refl refl e)

-- ---- what a query lists, and from where

begins-items : (kind : Option TokenKind) → begins kind ≡ true → r.items_by kind ≡ (r.expressions >>= λ es. pure (tree.each_of es))
begins-items (Some k.Star) e = absurd (cc)
begins-items (Some k.Count) e = absurd (cc)
begins-items (Some k.Sum) e = absurd (cc)
begins-items _ e = refl

separated-begins : (es : List Expression) (ts rest : Input) → Separated k.Comma IsExpr es ts rest → begins (kind_at ts) ≡ true
separated-begins es ts rest (g.items {x = e} {a = a} d m) = expr-begins e ts a d

comma-stops : (ts rest : Input) → Is k.Comma ts rest → Stops ts
comma-stops ts rest is = record { term = record { no_dot = ap dot (is-kind k.Comma ts rest is); no_product = ap r.multiplies (is-kind k.Comma ts rest is) }; no_sum = ap r.adds (is-kind k.Comma ts rest is) }

expressions-reads : (es : List Expression) (ts rest : Input) → Separated k.Comma IsExpr es ts rest → length es ≤ max_items → Stops rest → pushes {A = Expression} k.Comma (kind_at rest) ≡ None → Reads r.expressions es ts rest
unfolding r.expressions
expressions-reads es ts rest d le stop none = separated_to-reads k.Comma IsExpr r.expr Stops comma-stops expr-reads 15 es ts rest d le stop none

pub items-reads : (i : Items) (ts rest : Input) → IsItems i ts rest → Stops rest → pushes {A = Expression} k.Comma (kind_at rest) ≡ None → Reads r.items i ts rest
unfolding r.items r.all_columns r.count_rows r.sum_rows
items-reads i ts rest (g.all_columns is) stop none = (rw (is-kind k.Star ts rest is, is-expect k.Star ts rest is) refl, omega (arith, is-shorter k.Star ts rest is))
items-reads i ts rest (g.count_rows {x = x} {y = y} {z = z} a b c d) stop none = (
  rw (is-kind k.Count ts x a, is-expect k.Count ts x a, is-expect k.LeftParen x y b, is-expect k.Star y z c, is-expect k.RightParen z rest d) refl,
  omega (arith, is-shorter k.Count ts x a, is-shorter k.LeftParen x y b, is-shorter k.Star y z c, is-shorter k.RightParen z rest d),
)
items-reads i ts rest (g.sum_rows {e = e} {x = x} {y = y} {z = z} a b c d) stop none =
    let m = expr-reads e y z c (record { term = record { no_dot = ap dot (is-kind k.RightParen z rest d); no_product = ap r.multiplies (is-kind k.RightParen z rest d) }; no_sum = ap r.adds (is-kind k.RightParen z rest d) }) in (
      rw (is-kind k.Sum ts x a, is-expect k.Sum ts x a, is-expect k.LeftParen x y b, m.0, is-expect k.RightParen z rest d) refl,
      omega (arith, is-shorter k.Sum ts x a, is-shorter k.LeftParen x y b, m.1, is-shorter k.RightParen z rest d),
    )
items-reads i ts rest (g.expressions {es = es} d le) stop none =
    let m = mapped tree.each_of r.expressions es ts rest (expressions-reads es ts rest d le stop none) in
    (ap (λ p. p ts) (begins-items (kind_at ts) (separated-begins es ts rest d)) ∙ m.0, m.1)

alias-reads : (a : Option Name) (ts rest : Input) → IsAlias a ts rest → sees k.Name rest ≡ false → Reads r.alias a ts rest
unfolding r.alias
alias-reads a ts rest g.no_alias stop = (rw stop refl, omega arith)
alias-reads a ts rest (g.alias {n = n} d) stop = let m = mapped Some r.name n ts rest (name-reads n ts rest d) in (rw (name-seen n ts rest d) m.0, m.1)

source-reads : (s : SourceReference) (ts rest : Input) → IsSource s ts rest → sees k.Name rest ≡ false → Reads r.source s ts rest
unfolding r.source
source-reads s ts rest (g.source {table = q} {alias = a} {x = x} d h) stop =
    let t = table-reads q ts x d in
    let m = alias-reads a x rest h stop in
    (rw (t.0, m.0) refl, omega (arith, t.1, m.1))

pub sources-reads : (ss : List SourceReference) (ts rest : Input) → IsSources ss ts rest → sees k.Name rest ≡ false → sees k.Comma rest ≡ false → Reads r.sources ss ts rest
unfolding r.sources r.sources_after same_kind
sources-reads ss ts rest (g.one_source {s = s} d) no_name no_comma =
    let m = source-reads s ts rest d no_name in
    (rw (m.0, no_comma) refl, m.1)
sources-reads ss ts rest (g.two_sources {s = s} {t = t} {x = x} {y = y} d is h) no_name no_comma =
    let m = source-reads s ts x d (is-other k.Comma k.Name x y is refl) in
    let n = source-reads t y rest h no_name in
    (rw (m.0, is-sees k.Comma x y is, is-expect k.Comma x y is, n.0) refl, omega (arith, m.1, is-shorter k.Comma x y is, n.1))
