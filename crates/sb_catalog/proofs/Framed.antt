-- What spells something spells it whatever follows, and has no word behind which a clause begins.
use Rattle.std.proofs.Common.{◌≡◌, ℕ, Bool, true, not, ◌&&◌, List, [], ◌∷◌, ◌++◌, Option, refl, ap, sym, ◌∙◌, subst, append_assoc}
use Rattle.std.proofs.lemmas.Bool.{and_from, and_parts}
use Rattle.sb_value.specs.declared.value.Value.{Value}
use Rattle.sb_syntax.specs.declared.kind.TokenKind.{TokenKind}
use Rattle.sb_syntax.specs.declared.kind.TokenKind.TheVariants as k
use Rattle.sb_syntax.specs.declared.tree.Comparison.{Comparison}
use Rattle.sb_syntax.specs.declared.tree.TableReference.{TableReference}
use Rattle.sb_syntax.specs.declared.tree.ColumnReference.{ColumnReference}
use Rattle.sb_syntax.specs.declared.tree.SourceReference.{SourceReference}
use Rattle.sb_syntax.specs.Input.{Input, Is, token}
use Rattle.sb_syntax.specs.Grammar as g
use Rattle.sb_syntax.specs.Grammar.{More, Separated, IsName, IsLiteral, IsTransition, IsTable, IsColumn, IsFactor, IsTerm, IsExpr, IsItems, IsAlias, IsSource, IsSources, IsComparison, IsNot, IsCond, IsConj, IsNeg, IsPredicate, IsOperand, IsSubquery, IsFilter, IsQuery, IsTuple, IsAssignment, IsChange, IsNames, IsTrigger, IsAction, max_depth}
use Rattle.sb_syntax.specs.Tree.{Name, Expression, Items, Condition, Operand, Filter, Query, Assignment, Statement, Action, Trigger}
use Rattle.sb_catalog.specs.ClauseCuts.{begins_clause}
use Rattle.sb_catalog.specs.ClauseTexts.{Event, IsEvent, IsActions}
use Rattle.sb_catalog.specs.ClauseTexts as c

-- none of the tokens is such a word
abbrev pub is_plain : Input → Bool
is_plain [] = true
is_plain (t ∷ ts) = not (begins_clause t.kind) && is_plain ts

plain-append : (xs ys : Input) → is_plain xs ≡ true → is_plain ys ≡ true → is_plain (xs ++ ys) ≡ true
plain-append [] ys p q = q
plain-append (t ∷ xs) ys p q = let s = and_parts _ _ p in and_from _ _ s.0 (plain-append xs ys s.1 q)

pub record Framed (P : Input → Input → Type 0) (ts rest : Input) : Type 0 where
  pub taken : Input
  pub same : ts ≡ taken ++ rest
  pub plain : is_plain taken ≡ true
  pub anywhere : (r : Input) → P (taken ++ r) r

mapped : {P Q : Input → Input → Type 0} {ts rest : Input} → Framed P ts rest → ((a b : Input) → P a b → Q a b) → Framed Q ts rest
mapped h f = record { taken = h.taken; same = h.same; plain = h.plain; anywhere = λ r. f _ _ (h.anywhere r) }

abbrev Then : (Input → Input → Type 0) → (Input → Input → Type 0) → Input → Input → Type 0
Then P Q a b = (mid : Input) × P a mid × Q mid b

infixr 20 ◌⊳◌
◌⊳◌ : {P Q : Input → Input → Type 0} {a b c : Input} → Framed P a b → Framed Q b c → Framed (Then P Q) a c
◌⊳◌ {P = P} {c = c} p q = record {
  taken = p.taken ++ q.taken;
  same = p.same ∙ ap (λ x. p.taken ++ x) q.same ∙ sym (append_assoc p.taken q.taken c);
  plain = plain-append p.taken q.taken p.plain q.plain;
  anywhere = λ r. (q.taken ++ r, subst (λ (x : Input). P x (q.taken ++ r)) (sym (append_assoc p.taken q.taken r)) (p.anywhere (q.taken ++ r)), q.anywhere r);
}

nothing : {P : Input → Input → Type 0} {ts : Input} → ((r : Input) → P r r) → Framed P ts ts
nothing f = record { taken = []; same = refl; plain = refl; anywhere = f }

one : {kind : TokenKind} {ts rest : Input} → Is kind ts rest → not (begins_clause kind) ≡ true → Framed (Is kind) ts rest
one {kind = kind} (token {text = text}) other = record { taken = record { kind = kind; text = text } ∷ []; same = refl; plain = and_from _ _ other refl; anywhere = λ r. token }

-- ---- lists

Items-framed : {A : Type 0} → (A → Input → Input → Type 0) → Type 0
Items-framed {A = A} Item = (x : A) (a b : Input) → Item x a b → Framed (Item x) a b

more : {A : Type 0} (sep : TokenKind) (Item : A → Input → Input → Type 0) → not (begins_clause sep) ≡ true → ((x : A) (a b : Input) → Item x a b → Framed (Item x) a b)
    → (xs : List A) (ts rest : Input) → More sep Item xs ts rest → Framed (More sep Item xs) ts rest
more sep Item other item xs ts rest g.no_more = nothing (λ r. g.no_more)
more sep Item other item xs ts rest (g.one_more {x = x} {xs = ys} {a = a} {b = b} is d behind) =
    mapped (one is other ⊳ item x a b d ⊳ more sep Item other item ys b rest behind) (λ m n h. g.one_more h.1 h.2.1 h.2.2)

separated : {A : Type 0} (sep : TokenKind) (Item : A → Input → Input → Type 0) → not (begins_clause sep) ≡ true → ((x : A) (a b : Input) → Item x a b → Framed (Item x) a b)
    → (xs : List A) (ts rest : Input) → Separated sep Item xs ts rest → Framed (Separated sep Item xs) ts rest
separated sep Item other item xs ts rest (g.items {x = x} {xs = ys} {a = a} d behind) =
    mapped (item x ts a d ⊳ more sep Item other item ys a rest behind) (λ m n h. g.items h.1 h.2)

-- ---- names, literals, tables, columns

pub name : (n : Name) (ts rest : Input) → IsName n ts rest → Framed (IsName n) ts rest
name n ts rest (g.name lt le) = record { taken = record { kind = k.Name; text = n } ∷ []; same = refl; plain = refl; anywhere = λ r. g.name lt le }

literal : (v : Value) (ts rest : Input) → IsLiteral v ts rest → Framed (IsLiteral v) ts rest
literal v ts rest (g.integer {digits = digits} lt) = record { taken = record { kind = k.Integer; text = digits } ∷ []; same = refl; plain = refl; anywhere = λ r. g.integer lt }
literal v ts rest (g.minus {digits = digits} (token {text = text}) le) =
    record { taken = record { kind = k.Minus; text = text } ∷ record { kind = k.Integer; text = digits } ∷ []; same = refl; plain = refl; anywhere = λ r. g.minus token le }
literal v ts rest (g.text {quoted = quoted} le all) = record { taken = record { kind = k.Text; text = quoted } ∷ []; same = refl; plain = refl; anywhere = λ r. g.text le all }

transition : (t : TableReference) (ts rest : Input) → IsTransition t ts rest → Framed (IsTransition t) ts rest
transition t ts rest (g.inserted is) = mapped (one is refl) (λ m n h. g.inserted h)
transition t ts rest (g.deleted is) = mapped (one is refl) (λ m n h. g.deleted h)
transition t ts rest (g.old_updated is) = mapped (one is refl) (λ m n h. g.old_updated h)
transition t ts rest (g.new_updated is) = mapped (one is refl) (λ m n h. g.new_updated h)

table : (t : TableReference) (ts rest : Input) → IsTable t ts rest → Framed (IsTable t) ts rest
table t ts rest (g.named {n = n} d) = mapped (name n ts rest d) (λ m n h. g.named h)
table t ts rest (g.transition d) = mapped (transition t ts rest d) (λ m n h. g.transition h)

column : (c : ColumnReference) (ts rest : Input) → IsColumn c ts rest → Framed (IsColumn c) ts rest
column c ts rest (g.plain {n = n} d) = mapped (name n ts rest d) (λ m n h. g.plain h)
column c ts rest (g.qualified {table = t} {n = n} {x = x} {y = y} d is e) = mapped (table t ts x d ⊳ one is refl ⊳ name n y rest e) (λ m n h. g.qualified h.1 h.2.1 h.2.2)

-- ---- expressions

factor : (e : Expression) (ts rest : Input) → IsFactor e ts rest → Framed (IsFactor e) ts rest
factor e ts rest (g.literal_factor {v = v} d) = mapped (literal v ts rest d) (λ m n h. g.literal_factor h)
factor e ts rest (g.column_factor {column = c} d) = mapped (column c ts rest d) (λ m n h. g.column_factor h)

term : (e : Expression) (ts rest : Input) → IsTerm e ts rest → Framed (IsTerm e) ts rest
term e ts rest (g.factor d) = mapped (factor e ts rest d) (λ m n h. g.factor h)
term e ts rest (g.times {a = a} {b = b} {x = x} {y = y} d is f) = mapped (term a ts x d ⊳ one is refl ⊳ factor b y rest f) (λ m n h. g.times h.1 h.2.1 h.2.2)

expr : (e : Expression) (ts rest : Input) → IsExpr e ts rest → Framed (IsExpr e) ts rest
expr e ts rest (g.term d) = mapped (term e ts rest d) (λ m n h. g.term h)
expr e ts rest (g.plus {a = a} {b = b} {x = x} {y = y} d is f) = mapped (expr a ts x d ⊳ one is refl ⊳ term b y rest f) (λ m n h. g.plus h.1 h.2.1 h.2.2)
expr e ts rest (g.less {a = a} {b = b} {x = x} {y = y} d is f) = mapped (expr a ts x d ⊳ one is refl ⊳ term b y rest f) (λ m n h. g.less h.1 h.2.1 h.2.2)

-- ---- what a query lists, and from where

listed_items : (i : Items) (ts rest : Input) → IsItems i ts rest → Framed (IsItems i) ts rest
listed_items i ts rest (g.all_columns is) = mapped (one is refl) (λ m n h. g.all_columns h)
listed_items i ts rest (g.count_rows a b c d) = mapped (one a refl ⊳ one b refl ⊳ one c refl ⊳ one d refl) (λ m n h. g.count_rows h.1 h.2.1 h.2.2.1 h.2.2.2)
listed_items i ts rest (g.sum_rows {e = e} {y = y} {z = z} a b d f) = mapped (one a refl ⊳ one b refl ⊳ expr e y z d ⊳ one f refl) (λ m n h. g.sum_rows h.1 h.2.1 h.2.2.1 h.2.2.2)
listed_items i ts rest (g.expressions {es = es} d le) = mapped (separated k.Comma IsExpr refl expr es ts rest d) (λ m n h. g.expressions h le)

alias : (o : Option Name) (ts rest : Input) → IsAlias o ts rest → Framed (IsAlias o) ts rest
alias o ts rest g.no_alias = nothing (λ r. g.no_alias)
alias o ts rest (g.alias {n = n} d) = mapped (name n ts rest d) (λ m n h. g.alias h)

source : (s : SourceReference) (ts rest : Input) → IsSource s ts rest → Framed (IsSource s) ts rest
source s ts rest (g.source {table = t} {alias = o} {x = x} d e) = mapped (table t ts x d ⊳ alias o x rest e) (λ m n h. g.source h.1 h.2)

sources : (ss : List SourceReference) (ts rest : Input) → IsSources ss ts rest → Framed (IsSources ss) ts rest
sources ss ts rest (g.one_source {s = s} d) = mapped (source s ts rest d) (λ m n h. g.one_source h)
sources ss ts rest (g.two_sources {s = s} {t = t} {x = x} {y = y} d is e) = mapped (source s ts x d ⊳ one is refl ⊳ source t y rest e) (λ m n h. g.two_sources h.1 h.2.1 h.2.2)

-- ---- conditions

comparison : (c : Comparison) (ts rest : Input) → IsComparison c ts rest → Framed (IsComparison c) ts rest
comparison c ts rest (g.equal is) = mapped (one is refl) (λ m n h. g.equal h)
comparison c ts rest (g.not_equal is) = mapped (one is refl) (λ m n h. g.not_equal h)
comparison c ts rest (g.less_than is) = mapped (one is refl) (λ m n h. g.less_than h)
comparison c ts rest (g.at_most is) = mapped (one is refl) (λ m n h. g.at_most h)
comparison c ts rest (g.greater_than is) = mapped (one is refl) (λ m n h. g.greater_than h)
comparison c ts rest (g.at_least is) = mapped (one is refl) (λ m n h. g.at_least h)

is_not : (b : Bool) (ts rest : Input) → IsNot b ts rest → Framed (IsNot b) ts rest
is_not b ts rest g.plain = nothing (λ r. g.plain)
is_not b ts rest (g.not is) = mapped (one is refl) (λ m n h. g.not h)

mutual
  cond : (depth nesting : ℕ) (a : Condition) (ts rest : Input) → IsCond depth nesting a ts rest → Framed (IsCond depth nesting a) ts rest
  cond depth nesting a ts rest (g.conj d) = mapped (conj depth nesting a ts rest d) (λ m n h. g.conj h)
  cond depth nesting a ts rest (g.or {a = b} {b = c} {x = x} {y = y} d is f) = mapped (cond depth nesting b ts x d ⊳ one is refl ⊳ conj depth nesting c y rest f) (λ m n h. g.or h.1 h.2.1 h.2.2)

  conj : (depth nesting : ℕ) (a : Condition) (ts rest : Input) → IsConj depth nesting a ts rest → Framed (IsConj depth nesting a) ts rest
  conj depth nesting a ts rest (g.neg d) = mapped (neg depth nesting a ts rest d) (λ m n h. g.neg h)
  conj depth nesting a ts rest (g.and {a = b} {b = c} {x = x} {y = y} d is f) = mapped (conj depth nesting b ts x d ⊳ one is refl ⊳ neg depth nesting c y rest f) (λ m n h. g.and h.1 h.2.1 h.2.2)

  neg : (depth nesting : ℕ) (a : Condition) (ts rest : Input) → IsNeg depth nesting a ts rest → Framed (IsNeg depth nesting a) ts rest
  neg depth nesting a ts rest (g.not_neg {nesting = below} {a = b} {x = x} is d) = mapped (one is refl ⊳ neg depth below b x rest d) (λ m n h. g.not_neg h.1 h.2)
  neg depth nesting a ts rest (g.group {nesting = below} {x = x} {y = y} is d close) = mapped (one is refl ⊳ cond depth below a x y d ⊳ one close refl) (λ m n h. g.group h.1 h.2.1 h.2.2)
  neg depth nesting a ts rest (g.predicate d) = mapped (predicate depth a ts rest d) (λ m n h. g.predicate h)

  predicate : (depth : ℕ) (a : Condition) (ts rest : Input) → IsPredicate depth a ts rest → Framed (IsPredicate depth a) ts rest
  predicate depth a ts rest (g.comparison {e = e} {op = op} {s = s} {x = x} {y = y} d is f) = mapped (expr e ts x d ⊳ comparison op x y is ⊳ operand depth s y rest f) (λ m n h. g.comparison h.1 h.2.1 h.2.2)
  predicate depth a ts rest (g.member {e = e} {negated = b} {q = q} {x = x} {y = y} {z = z} d f is i) =
      mapped (expr e ts x d ⊳ is_not b x y f ⊳ one is refl ⊳ subquery depth q z rest i) (λ m n h. g.member h.1 h.2.1 h.2.2.1 h.2.2.2)
  predicate depth a ts rest (g.exists_one {q = q} {x = x} is d) = mapped (one is refl ⊳ subquery depth q x rest d) (λ m n h. g.exists_one h.1 h.2)

  operand : (depth : ℕ) (s : Operand) (ts rest : Input) → IsOperand depth s ts rest → Framed (IsOperand depth s) ts rest
  operand depth s ts rest (g.expr_side {e = e} d) = mapped (expr e ts rest d) (λ m n h. g.expr_side h)
  operand depth s ts rest (g.query_side {q = q} d) = mapped (subquery depth q ts rest d) (λ m n h. g.query_side h)

  subquery : (depth : ℕ) (q : Query) (ts rest : Input) → IsSubquery depth q ts rest → Framed (IsSubquery depth q) ts rest
  subquery depth q ts rest (g.nested {depth = below} {x = x} {y = y} is d close) = mapped (one is refl ⊳ query below q x y d ⊳ one close refl) (λ m n h. g.nested h.1 h.2.1 h.2.2)

  filter : (depth : ℕ) (f : Filter) (ts rest : Input) → IsFilter depth f ts rest → Framed (IsFilter depth f) ts rest
  filter depth f ts rest g.no_filter = nothing (λ r. g.no_filter)
  filter depth f ts rest (g.filter {a = a} {x = x} is d) = mapped (one is refl ⊳ cond depth 32 a x rest d) (λ m n h. g.filter h.1 h.2)

  pub query : (depth : ℕ) (q : Query) (ts rest : Input) → IsQuery depth q ts rest → Framed (IsQuery depth q) ts rest
  query depth q ts rest (g.selects {i = i} {ss = ss} {f = f} {x = x} {y = y} {z = z} {w = w} a b c d e) =
      mapped (one a refl ⊳ listed_items i x y b ⊳ one c refl ⊳ sources ss z w d ⊳ filter depth f w rest e) (λ m n h. g.selects h.1 h.2.1 h.2.2.1 h.2.2.2.1 h.2.2.2.2)

-- ---- changes

tuple : (vs : List Value) (ts rest : Input) → IsTuple vs ts rest → Framed (IsTuple vs) ts rest
tuple vs ts rest (g.tuple {x = x} {y = y} is d close) = mapped (one is refl ⊳ separated k.Comma IsLiteral refl literal vs x y d ⊳ one close refl) (λ m n h. g.tuple h.1 h.2.1 h.2.2)

assignment : (a : Assignment) (ts rest : Input) → IsAssignment a ts rest → Framed (IsAssignment a) ts rest
assignment a ts rest (g.assigns {n = n} {s = s} {x = x} {y = y} d is f) = mapped (name n ts x d ⊳ one is refl ⊳ operand max_depth s y rest f) (λ m n h. g.assigns h.1 h.2.1 h.2.2)

change : (s : Statement) (ts rest : Input) → IsChange s ts rest → Framed (IsChange s) ts rest
change s ts rest (g.inserts_rows {n = n} {tuples = all} {y = y} {z = z} {u = u} a b c d e) =
    mapped (one a refl ⊳ one b refl ⊳ name n y z c ⊳ one d refl ⊳ separated k.Comma IsTuple refl tuple all u rest e) (λ m n h. g.inserts_rows h.1 h.2.1 h.2.2.1 h.2.2.2.1 h.2.2.2.2)
change s ts rest (g.inserts_query {n = n} {q = q} {y = y} {z = z} a b c d) =
    mapped (one a refl ⊳ one b refl ⊳ name n y z c ⊳ query max_depth q z rest d) (λ m n h. g.inserts_query h.1 h.2.1 h.2.2.1 h.2.2.2)
change s ts rest (g.deletes {n = n} {f = f} {y = y} {z = z} a b c d) =
    mapped (one a refl ⊳ one b refl ⊳ name n y z c ⊳ filter max_depth f z rest d) (λ m n h. g.deletes h.1 h.2.1 h.2.2.1 h.2.2.2)
change s ts rest (g.updates {n = n} {all = all} {f = f} {x = x} {y = y} {z = z} {u = u} a b c d e) =
    mapped (one a refl ⊳ name n x y b ⊳ one c refl ⊳ separated k.Comma IsAssignment refl assignment all z u d ⊳ filter max_depth f u rest e) (λ m n h. g.updates h.1 h.2.1 h.2.2.1 h.2.2.2.1 h.2.2.2.2)

-- ---- rules

pub names : (ns : List Name) (ts rest : Input) → IsNames ns ts rest → Framed (IsNames ns) ts rest
names ns ts rest d = separated k.Comma IsName refl name ns ts rest d

trigger : (t : Trigger) (ts rest : Input) → IsTrigger t ts rest → Framed (IsTrigger t) ts rest
trigger t ts rest (g.at_insert is) = mapped (one is refl) (λ m n h. g.at_insert h)
trigger t ts rest (g.at_delete is) = mapped (one is refl) (λ m n h. g.at_delete h)
trigger t ts rest (g.at_update is) = mapped (one is refl) (λ m n h. g.at_update h)
trigger t ts rest (g.at_update_of {columns = ns} {y = y} {z = z} a b c d) = mapped (one a refl ⊳ one b refl ⊳ names ns y z c ⊳ one d refl) (λ m n h. g.at_update_of h.1 h.2.1 h.2.2.1 h.2.2.2)

action : (a : Action) (ts rest : Input) → IsAction a ts rest → Framed (IsAction a) ts rest
action a ts rest (g.changes {change = s} d) = mapped (change s ts rest d) (λ m n h. g.changes h)
action a ts rest (g.rolls_back is) = mapped (one is refl) (λ m n h. g.rolls_back h)

pub actions : (all : List Action) (ts rest : Input) → IsActions all ts rest → Framed (IsActions all) ts rest
actions all ts rest d = mapped (separated k.Semicolon IsAction refl action all ts rest d.separated) (λ m n h. record { separated = h; few = d.few })

pub event : (e : Event) (ts rest : Input) → IsEvent e ts rest → Framed (IsEvent e) ts rest
event e ts rest (c.event {on = on} {triggers = triggers} {x = x} {y = y} d is f) =
    mapped (name on ts x d ⊳ one is refl ⊳ separated k.Comma IsTrigger refl trigger triggers y rest f) (λ m n h. c.event h.1 h.2.1 h.2.2)
