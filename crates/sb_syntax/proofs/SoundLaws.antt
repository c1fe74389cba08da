-- What the reader reads, the grammar has.
use Rattle.std.proofs.Common.{◌≡◌, ◌≤◌, ◌<◌, ◌^◌, ◌&&◌, ◌⊎◌, inl, inr, ℕ, pos, cond, List, [], ◌∷◌, length, nat_lt, nat_le, Option, Some, None, sym, refl, subst}
use Rattle.std.specs.List.{list_all, AllPass}
use Rattle.std.proofs.lemmas.Option.{same_Some}
use Rattle.std.proofs.lemmas.Bool.{ltb-true, leb-true, and_parts}
use Rattle.sb_value.specs.Printable.{is_printable}
use Rattle.sb_value.specs.declared.value.Value.{Value}
use Rattle.sb_value.specs.declared.value.Value.TheVariants.{Int, Text}
use Rattle.sb_syntax.specs.declared.kind.TokenKind.{TokenKind}
use Rattle.sb_syntax.specs.declared.kind.TokenKind.TheVariants as k
use Rattle.sb_syntax.specs.declared.tree.Arithmetic.TheVariants.{Add, Subtract, Multiply}
use Rattle.sb_syntax.specs.declared.tree.TableReference.{TableReference}
use Rattle.sb_syntax.specs.declared.tree.TableReference.TheVariants.{Named}
use Rattle.sb_syntax.specs.declared.tree.ColumnReference.{ColumnReference}
use Rattle.sb_syntax.specs.declared.tree.ColumnReference.TheVariants.{Qualified}
use Rattle.sb_syntax.specs.declared.tree.SourceReference.{SourceReference}
use Rattle.sb_syntax.specs.Input.{Input, Is}
use Rattle.sb_syntax.specs.Literal.{decimal, negative, unquoted}
use Rattle.sb_syntax.specs.Tree as tree
use Rattle.sb_syntax.specs.Tree.{Name, Expression, Items}
use Rattle.sb_syntax.specs.Grammar as g
use Rattle.sb_syntax.specs.Grammar.{IsName, IsLiteral, IsTransition, IsTable, IsColumn, IsFactor, IsTerm, IsExpr, IsItems, IsAlias, IsSource, IsSources, Separated, max_items}
use Rattle.sb_syntax.specs.Reading as r
use Rattle.sb_syntax.specs.Reading.{Reader, Joins, and_then, kind_at, sees, next, expect, bytes_of, ◌>>=◌, ◌>>◌, pure}
use Rattle.sb_syntax.proofs.Printable.{printable}
use Rattle.sb_syntax.proofs.TokenLaws.{two_steps, chosen, guarded_pair, kind-is, expect-is, Has, has, bytes_of-has}
use Rattle.sb_syntax.proofs.Loops.{same_read, chained-sound, separated_to-sound}

-- p reads no more than P has
abbrev pub Sound : {A : Type 0} → Reader A → (A → Input → Input → Type 0) → Type 0
Sound {A = A} p P = (x : A) (ts rest : Input) → p ts ≡ Some (x, rest) → P x ts rest

-- a view of what was read
pub mapped-sound : {A B : Type 0} (f : A → B) (p : Reader A) (P : A → Input → Input → Type 0) (Q : B → Input → Input → Type 0) → ((x : A) (ts rest : Input) → P x ts rest → Q (f x) ts rest) → Sound p P → Sound (p >>= λ x. pure (f x)) Q
mapped-sound f p P Q up sound y ts rest e =
    let s = two_steps (p ts) (λ x mid. Some (f x, mid)) (y, rest) e in
    same_read (λ z mid. Q z ts mid) (f s.0) y s.1 rest s.3 (up s.0 ts s.1 (sound s.0 ts s.1 s.2))

name-has : (n : List ℕ) (ts rest : Input) → Has k.Name n ts rest → 0 < length n → length n ≤ 32 → IsName n ts rest
name-has n ts rest has lt le = g.name lt le

pub name-sound : Sound r.name IsName
unfolding r.name
name-sound n ts rest e =
    let s = two_steps (bytes_of k.Name ts) (λ n mid. cond (nat_lt 0 (length n) && nat_le (length n) 32) (Some (n, mid)) None) (n, rest) e in
    let p = guarded_pair _ s.0 n s.1 rest s.3 in
    let q = and_parts _ _ p.0 in
    subst (λ (m : List ℕ). IsName m ts rest) p.1 (name-has s.0 ts rest (subst (λ (x : Input). Has k.Name s.0 ts x) p.2 (bytes_of-has k.Name ts s.1 s.0 s.2)) (ltb-true _ _ q.0) (leb-true _ _ q.1))

integer-has : (digits : List ℕ) (ts rest : Input) → Has k.Integer digits ts rest → decimal digits < 2 ^ 63 → IsLiteral (Int (pos (decimal digits))) ts rest
integer-has digits ts rest has lt = g.integer lt

integer-sound : Sound r.integer IsLiteral
unfolding r.integer
integer-sound v ts rest e =
    let s = two_steps (bytes_of k.Integer ts) (λ digits mid. cond (nat_lt (decimal digits) (2 ^ 63)) (Some (Int (pos (decimal digits)), mid)) None) (v, rest) e in
    let p = guarded_pair _ _ v s.1 rest s.3 in
    subst (λ (w : Value). IsLiteral w ts rest) p.1 (integer-has s.0 ts rest (subst (λ (x : Input). Has k.Integer s.0 ts x) p.2 (bytes_of-has k.Integer ts s.1 s.0 s.2)) (ltb-true _ _ p.0))

minus-has : (digits : List ℕ) (ts mid rest : Input) → Is k.Minus ts mid → Has k.Integer digits mid rest → decimal digits ≤ 2 ^ 63 → IsLiteral (Int (negative (decimal digits))) ts rest
minus-has digits ts mid rest is has le = g.minus is le

minus-sound : Sound r.minus IsLiteral
unfolding r.minus
minus-sound v ts rest e =
    let s = two_steps ((expect k.Minus >> bytes_of k.Integer) ts) (λ digits mid. cond (nat_le (decimal digits) (2 ^ 63)) (Some (Int (negative (decimal digits)), mid)) None) (v, rest) e in
    let m = two_steps (expect k.Minus ts) (λ _. bytes_of k.Integer) (s.0, s.1) s.2 in
    let p = guarded_pair _ _ v s.1 rest s.3 in
    subst (λ (w : Value). IsLiteral w ts rest) p.1 (minus-has s.0 ts m.1 rest (expect-is k.Minus ts m.1 m.0 m.2) (subst (λ (x : Input). Has k.Integer s.0 m.1 x) p.2 (bytes_of-has k.Integer m.1 s.1 s.0 m.3)) (leb-true _ _ p.0))

text-has : (quoted : List ℕ) (ts rest : Input) → Has k.Text quoted ts rest → length (unquoted quoted) ≤ 255 → AllPass is_printable (unquoted quoted) → IsLiteral (Text (unquoted quoted)) ts rest
text-has quoted ts rest has le all = g.text le all

text-sound : Sound r.text IsLiteral
unfolding r.text
text-sound v ts rest e =
    let s = two_steps (bytes_of k.Text ts) (λ quoted mid. cond (nat_le (length (unquoted quoted)) 255 && list_all is_printable (unquoted quoted)) (Some (Text (unquoted quoted), mid)) None) (v, rest) e in
    let p = guarded_pair _ _ v s.1 rest s.3 in
    let q = and_parts _ _ p.0 in
    subst (λ (w : Value). IsLiteral w ts rest) p.1 (text-has s.0 ts rest (subst (λ (x : Input). Has k.Text s.0 ts x) p.2 (bytes_of-has k.Text ts s.1 s.0 s.2)) (leb-true _ _ q.0) (printable _ q.1))

pub literal-sound : Sound r.literal_value IsLiteral
unfolding r.literal_value
literal-sound v ts rest e =
    elim (chosen (sees k.Integer ts) _ _ (v, rest) e) [
      | inl p ↦ integer-sound v ts rest p.1
      | inr p ↦ elim (chosen (sees k.Minus ts) _ _ (v, rest) p.1) [ inl q ↦ minus-sound v ts rest q.1 | inr q ↦ text-sound v ts rest q.1 ]
    ]

transition-is : (q : TableReference) (ts : Input) (kind : Option TokenKind) → kind_at ts ≡ kind → r.transition_of kind ≡ Some q → IsTransition q ts (next ts)
transition-is q ts (Some k.Inserted) is e = subst (λ (o : TableReference). IsTransition o ts (next ts)) (same_Some _ _ e) (g.inserted (kind-is k.Inserted ts is))
transition-is q ts (Some k.Deleted) is e = subst (λ (o : TableReference). IsTransition o ts (next ts)) (same_Some _ _ e) (g.deleted (kind-is k.Deleted ts is))
transition-is q ts (Some k.OldUpdated) is e = subst (λ (o : TableReference). IsTransition o ts (next ts)) (same_Some _ _ e) (g.old_updated (kind-is k.OldUpdated ts is))
transition-is q ts (Some k.NewUpdated) is e = subst (λ (o : TableReference). IsTransition o ts (next ts)) (same_Some _ _ e) (g.new_updated (kind-is k.NewUpdated ts is))
transition-is q ts _ is e = absurd (cc)

table_by-sound : (o : Option TableReference) (ts : Input) → r.transition_of (kind_at ts) ≡ o → (q : TableReference) (rest : Input) → r.table_by o ts ≡ Some (q, rest) → IsTable q ts rest
unfolding r.table_by
table_by-sound (Some t) ts is q rest e = same_read (λ z m. IsTable z ts m) t q (next ts) rest e (g.transition (transition-is t ts (kind_at ts) refl is))
table_by-sound None ts is q rest e = mapped-sound Named r.name IsName IsTable (λ _ _ _ d. g.named d) name-sound q ts rest e

pub table-sound : Sound r.table IsTable
unfolding r.table
table-sound q ts rest e = table_by-sound (r.transition_of (kind_at ts)) ts refl q rest e

column_from-sound : (q : TableReference) (ts mid : Input) → IsTable q ts mid → (c : ColumnReference) (rest : Input) → r.column_from q mid ≡ Some (c, rest) → IsColumn c ts rest
unfolding r.column_from
column_from-sound q ts mid d c rest e =
    let s = two_steps (expect k.Dot mid) (λ _. r.name >>= λ n. pure (Qualified q n)) (c, rest) e in
    let n = two_steps (r.name s.1) (λ n. pure (Qualified q n)) (c, rest) s.3 in
    same_read (λ z m. IsColumn z ts m) _ c n.1 rest n.3 (g.qualified d (expect-is k.Dot mid s.1 s.0 s.2) (name-sound n.0 s.1 n.1 n.2))

column_after-sound : (n : Name) (ts mid : Input) → IsName n ts mid → (c : ColumnReference) (rest : Input) → r.column_after n mid ≡ Some (c, rest) → IsColumn c ts rest
unfolding r.column_after
column_after-sound n ts mid d c rest e = elim (chosen (sees k.Dot mid) _ _ (c, rest) e) [
  | inl p ↦ column_from-sound (Named n) ts mid (g.named d) c rest p.1
  | inr p ↦ same_read (λ z m. IsColumn z ts m) _ c mid rest p.1 (g.plain d)
]

column_by-sound : (o : Option TableReference) (ts : Input) → r.transition_of (kind_at ts) ≡ o → (c : ColumnReference) (rest : Input) → r.column_by o ts ≡ Some (c, rest) → IsColumn c ts rest
unfolding r.column_by
column_by-sound (Some q) ts is c rest e = column_from-sound q ts (next ts) (g.transition (transition-is q ts (kind_at ts) refl is)) c rest e
column_by-sound None ts is c rest e =
    let n = two_steps (r.name ts) r.column_after (c, rest) e in
    column_after-sound n.0 ts n.1 (name-sound n.0 ts n.1 n.2) c rest n.3

column-sound : Sound r.column IsColumn
unfolding r.column
column-sound c ts rest e = column_by-sound (r.transition_of (kind_at ts)) ts refl c rest e

factor-sound : Sound r.factor IsFactor
unfolding r.factor
factor-sound e ts rest read = elim (chosen (r.is_literal (kind_at ts)) _ _ (e, rest) read) [
  | inl p ↦ mapped-sound tree.literal r.literal_value IsLiteral IsFactor (λ _ _ _ d. g.literal_factor d) literal-sound e ts rest p.1
  | inr p ↦ mapped-sound tree.column r.column IsColumn IsFactor (λ _ _ _ d. g.column_factor d) column-sound e ts rest p.1
]

-- the only operators
multiplies-is : (kind : Option TokenKind) (join : Expression → Expression → Expression) → r.multiplies kind ≡ Some join → (kind ≡ Some k.Star) × (join ≡ (λ a b. tree.binary a Multiply b))
multiplies-is (Some k.Star) join e = (refl, sym (same_Some _ _ e))
multiplies-is _ join e = absurd (cc)

term-sound : Sound r.term IsTerm
unfolding r.term
term-sound e ts rest read = chained-sound r.multiplies r.factor (λ a mid. IsTerm a ts mid) ts (λ x mid d. g.factor (factor-sound x ts mid d))
    (λ acc mid after join x d is read.
    let m = multiplies-is (kind_at mid) join is in
    subst (λ (f : Expression → Expression → Expression). IsTerm (f acc x) ts after) (sym m.1) (g.times d (kind-is k.Star mid m.0) (factor-sound x (next mid) after read)))
    e rest read

adds-is : (kind : Option TokenKind) (join : Expression → Expression → Expression) → r.adds kind ≡ Some join → ((kind ≡ Some k.Plus) × (join ≡ (λ a b. tree.binary a Add b))) ⊎ ((kind ≡ Some k.Minus) × (join ≡ (λ a b. tree.binary a Subtract b)))
adds-is (Some k.Plus) join e = inl (refl, sym (same_Some _ _ e))
adds-is (Some k.Minus) join e = inr (refl, sym (same_Some _ _ e))
adds-is _ join e = absurd (cc)

pub expr-sound : Sound r.expr IsExpr
unfolding r.expr
expr-sound e ts rest read = chained-sound r.adds r.term (λ a mid. IsExpr a ts mid) ts (λ x mid d. g.term (term-sound x ts mid d))
    (λ acc mid after join x d is read. elim (adds-is (kind_at mid) join is) [
      | inl m ↦ subst (λ (f : Expression → Expression → Expression). IsExpr (f acc x) ts after) (sym m.1) (g.plus d (kind-is k.Plus mid m.0) (term-sound x (next mid) after read))
      | inr m ↦ subst (λ (f : Expression → Expression → Expression). IsExpr (f acc x) ts after) (sym m.1) (g.less d (kind-is k.Minus mid m.0) (term-sound x (next mid) after read))
    ])
    e rest read

-- ---- what a query lists, and from where

all_columns-sound : Sound r.all_columns IsItems
unfolding r.all_columns
all_columns-sound y ts rest e =
    let s = two_steps (expect k.Star ts) (λ _. pure tree.all) (y, rest) e in
    same_read (λ z m. IsItems z ts m) _ y s.1 rest s.3 (g.all_columns (expect-is k.Star ts s.1 s.0 s.2))

count_rows-sound : Sound r.count_rows IsItems
unfolding r.count_rows
count_rows-sound y ts rest e =
    let s1 = two_steps (expect k.Count ts) _ (y, rest) e in
    let s2 = two_steps (expect k.LeftParen s1.1) _ (y, rest) s1.3 in
    let s3 = two_steps (expect k.Star s2.1) _ (y, rest) s2.3 in
    let s4 = two_steps (expect k.RightParen s3.1) (λ _. pure tree.count) (y, rest) s3.3 in
    same_read (λ z m. IsItems z ts m) _ y s4.1 rest s4.3
    (g.count_rows (expect-is k.Count ts s1.1 s1.0 s1.2) (expect-is k.LeftParen s1.1 s2.1 s2.0 s2.2) (expect-is k.Star s2.1 s3.1 s3.0 s3.2) (expect-is k.RightParen s3.1 s4.1 s4.0 s4.2))

sum_rows-sound : Sound r.sum_rows IsItems
unfolding r.sum_rows
sum_rows-sound y ts rest e =
    let s1 = two_steps (expect k.Sum ts) _ (y, rest) e in
    let s2 = two_steps (expect k.LeftParen s1.1) _ (y, rest) s1.3 in
    let s3 = two_steps (r.expr s2.1) (λ x. expect k.RightParen >> pure (tree.sum_of x)) (y, rest) s2.3 in
    let s4 = two_steps (expect k.RightParen s3.1) (λ _. pure (tree.sum_of s3.0)) (y, rest) s3.3 in
    same_read (λ z m. IsItems z ts m) _ y s4.1 rest s4.3
    (g.sum_rows (expect-is k.Sum ts s1.1 s1.0 s1.2) (expect-is k.LeftParen s1.1 s2.1 s2.0 s2.2) (expr-sound s3.0 s2.1 s3.1 s3.2) (expect-is k.RightParen s3.1 s4.1 s4.0 s4.2))

abbrev IsExpressions : List Expression → Input → Input → Type 0
IsExpressions es ts rest = Separated k.Comma IsExpr es ts rest × (length es ≤ max_items)

expressions-sound : Sound r.expressions IsExpressions
unfolding r.expressions
expressions-sound = separated_to-sound k.Comma IsExpr 15 r.expr expr-sound

items_by-sound : (kind : Option TokenKind) → Sound (r.items_by kind) IsItems
items_by-sound (Some k.Star) = all_columns-sound
items_by-sound (Some k.Count) = count_rows-sound
items_by-sound (Some k.Sum) = sum_rows-sound
items_by-sound _ = mapped-sound tree.each_of r.expressions IsExpressions IsItems (λ _ _ _ d. g.expressions d.0 d.1) expressions-sound

pub items-sound : Sound r.items IsItems
unfolding r.items
items-sound y ts rest e = items_by-sound (kind_at ts) y ts rest e

alias-sound : Sound r.alias IsAlias
unfolding r.alias
alias-sound y ts rest e = elim (chosen (sees k.Name ts) _ _ (y, rest) e) [
  | inl p ↦ mapped-sound Some r.name IsName IsAlias (λ _ _ _ d. g.alias d) name-sound y ts rest p.1
  | inr p ↦ same_read (λ z m. IsAlias z ts m) None y ts rest p.1 g.no_alias
]

source-sound : Sound r.source IsSource
unfolding r.source
source-sound y ts rest e =
    let done = λ (q : TableReference) (a : Option Name). pure {A = SourceReference} (record { table = q; alias = a }) in
    let s = two_steps (r.table ts) (λ q. r.alias >>= λ a. done q a) (y, rest) e in
    let u = two_steps (r.alias s.1) (λ a. done s.0 a) (y, rest) s.3 in
    same_read (λ z m. IsSource z ts m) _ y u.1 rest u.3 (g.source (table-sound s.0 ts s.1 s.2) (alias-sound u.0 s.1 u.1 u.2))

sources_after-sound : (first : SourceReference) (ts mid : Input) → IsSource first ts mid → (ss : List SourceReference) (rest : Input) → r.sources_after first mid ≡ Some (ss, rest) → IsSources ss ts rest
unfolding r.sources_after
sources_after-sound first ts mid d ss rest e = elim (chosen (sees k.Comma mid) _ _ (ss, rest) e) [
  | inl p ↦ (let s = two_steps (expect k.Comma mid) (λ _. r.source >>= λ t. pure (first ∷ t ∷ [])) (ss, rest) p.1 in
      let t = two_steps (r.source s.1) (λ t. pure (first ∷ t ∷ [])) (ss, rest) s.3 in
      same_read (λ z m. IsSources z ts m) _ ss t.1 rest t.3 (g.two_sources d (expect-is k.Comma mid s.1 s.0 s.2) (source-sound t.0 s.1 t.1 t.2)))
  | inr p ↦ same_read (λ z m. IsSources z ts m) _ ss mid rest p.1 (g.one_source d)
]

pub sources-sound : Sound r.sources IsSources
unfolding r.sources
sources-sound ss ts rest e =
    let s = two_steps (r.source ts) r.sources_after (ss, rest) e in
    sources_after-sound s.0 ts s.1 (source-sound s.0 ts s.1 s.2) ss rest s.3
