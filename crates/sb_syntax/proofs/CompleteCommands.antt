-- Completeness of changes, rules and commands.
use Rattle.std.proofs.Common.{◌≡◌, ◌≤◌, ℕ, false, List, [], ◌∷◌, length, Option, Some, None, ap, sym, ◌∙◌, refl, arith}
use Rattle.std.proofs.lemmas.Option.{same_Some}
use Rattle.sb_value.specs.declared.value.Value.{Value}
use Rattle.sb_value.specs.declared.value.ColumnType.{ColumnType}
use Rattle.sb_value.specs.declared.value.ColumnDefinition.{ColumnDefinition}
use Rattle.sb_syntax.specs.declared.kind.TokenKind.{TokenKind}
use Rattle.sb_syntax.specs.declared.kind.TokenKind.TheVariants as k
use Rattle.sb_syntax.specs.Input.{Input, Is, same_kind}
use Rattle.sb_syntax.specs.Tree as tree
use Rattle.sb_syntax.specs.Tree.{Name, Operand, Filter, Query, Assignment, Statement, Action, Trigger, RuleText, AlterationText, Command}
use Rattle.sb_syntax.specs.Grammar as g
use Rattle.sb_syntax.specs.Grammar.{IsName, IsLiteral, IsOperand, IsFilter, IsQuery, IsColumnType, IsDefinition, IsTuple, IsAssignment, IsChange, IsNames, IsTrigger, IsAction, IsIf, IsThen, IsListed, IsPhrase, IsRuleHead, IsRuleBody, IsRule, IsAlteration, IsLeadingCommand, Separated, IsCommand, max_depth, max_columns, max_actions}
use Rattle.sb_syntax.specs.Reading as r
use Rattle.sb_syntax.specs.Reading.{Reader, Joins, and_then, kind_at, sees, next, expect, bytes_of, ◌>>=◌, ◌>>◌, pure, pushes}
use Rattle.sb_syntax.proofs.TokenLaws.{Reads, is-kind, is-sees, is-other, is-shorter, is-expect}
use Rattle.sb_syntax.proofs.Loops.{separated-reads, separated_to-reads}
use Rattle.sb_syntax.proofs.CompleteLaws.{mapped, name-reads, literal-reads, Stops}
use Rattle.sb_syntax.proofs.CompleteQueries.{StopsQuery, stops, stops-query, no_separator, filter-first, operand-reads, filter-reads, query-reads}

-- ---- changes

-- these end wherever they end
ends : Input → Type 0
ends _ = Unit {0}

comma-ends : (ts rest : Input) → Is k.Comma ts rest → ends ts
unfolding ends
comma-ends ts rest is = tt

paren-list : {A : Type 0} (ts rest : Input) → Is k.RightParen ts rest → pushes {A = A} k.Comma (kind_at ts) ≡ None
unfolding same_kind
paren-list {A = A} ts rest is = ap (pushes {A = A} k.Comma) (is-kind k.RightParen ts rest is)

tuple-reads : (vs : List Value) (ts rest : Input) → IsTuple vs ts rest → Reads r.tuple vs ts rest
unfolding r.tuple ends
tuple-reads vs ts rest (g.tuple {x = x} {y = y} is d close) =
    let m = separated-reads k.Comma IsLiteral r.literal_value ends comma-ends (λ v a b d _. literal-reads v a b d) vs x y d tt (paren-list y rest close) in
    (rw (is-expect k.LeftParen ts x is, m.0, is-expect k.RightParen y rest close) refl, omega (arith, is-shorter k.LeftParen ts x is, m.1, is-shorter k.RightParen y rest close))

inserts_rows-reads : (n : Name) (tuples : List (List Value)) (ts x y z u rest : Input) → Is k.Insert ts x → Is k.Into x y → IsName n y z → Is k.Values z u → Separated k.Comma IsTuple tuples u rest → StopsQuery rest → Reads r.inserts (tree.insert_rows n tuples) ts rest
unfolding r.inserts r.inserts_into r.inserts_rows ends
inserts_rows-reads n tuples ts x y z u rest a b c d e stop =
    let l = name-reads n y z c in
    let m = separated-reads k.Comma IsTuple r.tuple ends comma-ends (λ v a b d _. tuple-reads v a b d) tuples u rest e tt (no_separator k.Comma rest stop.no_comma) in
    (rw (is-expect k.Insert ts x a, is-expect k.Into x y b, l.0, is-sees k.Values z u d, is-expect k.Values z u d, m.0) refl, omega (arith, is-shorter k.Insert ts x a, is-shorter k.Into x y b, l.1, is-shorter k.Values z u d, m.1))

query-first : (depth : ℕ) (q : Query) (ts rest : Input) → IsQuery depth q ts rest → (x : Input) × Is k.Select ts x
query-first depth q ts rest (g.selects {x = x} a b c d h) = (x, a)

inserts_query-reads : (n : Name) (q : Query) (ts x y z rest : Input) → Is k.Insert ts x → Is k.Into x y → IsName n y z → IsQuery max_depth q z rest → StopsQuery rest → Reads r.inserts (tree.insert_query n q) ts rest
unfolding r.inserts r.inserts_into same_kind
inserts_query-reads n q ts x y z rest a b c d stop =
    let l = name-reads n y z c in
    let f = query-first max_depth q z rest d in
    let m = query-reads max_depth q z rest d stop in
    (rw (is-expect k.Insert ts x a, is-expect k.Into x y b, l.0, is-other k.Select k.Values z f.0 f.1 refl, m.0) refl, omega (arith, is-shorter k.Insert ts x a, is-shorter k.Into x y b, l.1, m.1))

assignment-reads : (y : Assignment) (ts rest : Input) → IsAssignment y ts rest → Stops rest → Reads r.assignment y ts rest
unfolding r.assignment
assignment-reads w ts rest (g.assigns {n = n} {s = s} {x = x} {y = y} d is h) stop =
    let a = name-reads n ts x d in
    let b = operand-reads max_depth s y rest h stop in
    (rw (a.0, is-expect k.Equal x y is, b.0) refl, omega (arith, a.1, is-shorter k.Equal x y is, b.1))

comma-stops : (ts rest : Input) → Is k.Comma ts rest → Stops ts
comma-stops ts rest is = stops k.Comma ts rest is refl refl refl

updates-reads : (n : Name) (all : List Assignment) (f : Filter) (ts x y z u rest : Input) → Is k.Update ts x → IsName n x y → Is k.Set y z → Separated k.Comma IsAssignment all z u → IsFilter max_depth f u rest → StopsQuery rest → Reads r.updates (tree.update n all f) ts rest
unfolding r.updates
updates-reads n all f ts x y z u rest a b c d e stop =
    let first = filter-first max_depth f u rest e stop in
    let l = name-reads n x y b in
    let m = separated-reads k.Comma IsAssignment r.assignment Stops comma-stops assignment-reads all z u d first.2 (no_separator k.Comma u first.1) in
    let h = filter-reads max_depth f u rest e stop in
    (rw (is-expect k.Update ts x a, l.0, is-expect k.Set y z c, m.0, h.0) refl, omega (arith, is-shorter k.Update ts x a, l.1, is-shorter k.Set y z c, m.1, h.1))

deletes-reads : (n : Name) (f : Filter) (ts x y z rest : Input) → Is k.Delete ts x → Is k.From x y → IsName n y z → IsFilter max_depth f z rest → StopsQuery rest → Reads r.deletes (tree.delete n f) ts rest
unfolding r.deletes
deletes-reads n f ts x y z rest a b c d stop =
    let l = name-reads n y z c in
    let m = filter-reads max_depth f z rest d stop in
    (rw (is-expect k.Delete ts x a, is-expect k.From x y b, l.0, m.0) refl, omega (arith, is-shorter k.Delete ts x a, is-shorter k.From x y b, l.1, m.1))

change-reads : (c : Statement) (ts rest : Input) → IsChange c ts rest → StopsQuery rest → Reads r.change c ts rest
unfolding r.change
change-reads c ts rest (g.inserts_rows {n = n} {tuples = tuples} {x = x} {y = y} {z = z} {u = u} a b d e f) stop =
    let m = inserts_rows-reads n tuples ts x y z u rest a b d e f stop in (rw (is-kind k.Insert ts x a) m.0, m.1)
change-reads c ts rest (g.inserts_query {n = n} {q = q} {x = x} {y = y} {z = z} a b d e) stop =
    let m = inserts_query-reads n q ts x y z rest a b d e stop in (rw (is-kind k.Insert ts x a) m.0, m.1)
change-reads c ts rest (g.updates {n = n} {all = all} {f = f} {x = x} {y = y} {z = z} {u = u} a b d e h) stop =
    let m = updates-reads n all f ts x y z u rest a b d e h stop in (rw (is-kind k.Update ts x a) m.0, m.1)
change-reads c ts rest (g.deletes {n = n} {f = f} {x = x} {y = y} {z = z} a b d e) stop =
    let m = deletes-reads n f ts x y z rest a b d e stop in (rw (is-kind k.Delete ts x a) m.0, m.1)

-- ---- rules

names-reads : (ns : List Name) (ts rest : Input) → IsNames ns ts rest → sees k.Comma rest ≡ false → Reads r.names ns ts rest
unfolding r.names ends
names-reads ns ts rest d none = separated-reads k.Comma IsName r.name ends comma-ends (λ v a b d _. name-reads v a b d) ns ts rest d tt (no_separator k.Comma rest none)

-- no columns stand behind `updated`
no_columns : Input → Type 0
no_columns ts = sees k.LeftParen ts ≡ false

comma-no_columns : (ts rest : Input) → Is k.Comma ts rest → no_columns ts
unfolding no_columns same_kind
comma-no_columns ts rest is = is-other k.Comma k.LeftParen ts rest is refl

trigger-reads : (y : Trigger) (ts rest : Input) → IsTrigger y ts rest → no_columns rest → Reads r.trigger y ts rest
unfolding r.trigger r.updated r.updated_of r.word no_columns same_kind
trigger-reads w ts rest (g.at_insert is) stop = (rw (is-kind k.Inserted ts rest is, is-expect k.Inserted ts rest is) refl, omega (arith, is-shorter k.Inserted ts rest is))
trigger-reads w ts rest (g.at_delete is) stop = (rw (is-kind k.Deleted ts rest is, is-expect k.Deleted ts rest is) refl, omega (arith, is-shorter k.Deleted ts rest is))
trigger-reads w ts rest (g.at_update is) stop = (rw (is-kind k.Updated ts rest is, is-expect k.Updated ts rest is, stop) refl, omega (arith, is-shorter k.Updated ts rest is))
trigger-reads w ts rest (g.at_update_of {columns = ns} {x = x} {y = y} {z = z} a b c d) stop =
    let m = names-reads ns y z c (is-other k.RightParen k.Comma z rest d refl) in (
      rw (is-kind k.Updated ts x a, is-expect k.Updated ts x a, is-sees k.LeftParen x y b, is-expect k.LeftParen x y b, m.0, is-expect k.RightParen z rest d) refl,
      omega (arith, is-shorter k.Updated ts x a, is-shorter k.LeftParen x y b, m.1, is-shorter k.RightParen z rest d),
    )

then-stops : (ts rest : Input) → Is k.Then ts rest → StopsQuery ts
unfolding same_kind
then-stops ts rest is = stops-query k.Then ts rest is refl refl refl refl refl refl refl refl

if-reads : (q : Option Query) (ts rest : Input) → IsIf q ts rest → StopsQuery rest → sees k.If rest ≡ false → Reads r.condition_if q ts rest
unfolding r.condition_if
if-reads w ts rest g.always stop none = (rw none refl, omega arith)
if-reads w ts rest (g.if_query {q = q} {x = x} is d) stop none =
    let m = query-reads max_depth q x rest d stop in
    (rw (is-sees k.If ts x is, is-expect k.If ts x is, m.0) refl, omega (arith, is-shorter k.If ts x is, m.1))

-- the first words of changes
change-kind : (c : Statement) (ts rest : Input) → IsChange c ts rest → (r.leading_command_by (kind_at ts) ≡ (r.change >>= λ c. pure (tree.change c))) × (sees k.Rollback ts ≡ false)
unfolding same_kind
change-kind c ts rest (g.inserts_rows {x = x} a b d e f) = (ap r.leading_command_by (is-kind k.Insert ts x a), is-other k.Insert k.Rollback ts x a refl)
change-kind c ts rest (g.inserts_query {x = x} a b d e) = (ap r.leading_command_by (is-kind k.Insert ts x a), is-other k.Insert k.Rollback ts x a refl)
change-kind c ts rest (g.deletes {x = x} a b d e) = (ap r.leading_command_by (is-kind k.Delete ts x a), is-other k.Delete k.Rollback ts x a refl)
change-kind c ts rest (g.updates {x = x} a b d e f) = (ap r.leading_command_by (is-kind k.Update ts x a), is-other k.Update k.Rollback ts x a refl)

action-reads : (y : Action) (ts rest : Input) → IsAction y ts rest → StopsQuery rest → Reads r.action y ts rest
unfolding r.action r.word
action-reads w ts rest (g.changes {change = c} d) stop =
    let m = mapped tree.changes r.change c ts rest (change-reads c ts rest d stop) in
    (rw ((change-kind c ts rest d).1) m.0, m.1)
action-reads w ts rest (g.rolls_back is) stop = (rw (is-sees k.Rollback ts rest is, is-expect k.Rollback ts rest is) refl, omega (arith, is-shorter k.Rollback ts rest is))

semicolon-stops : (ts rest : Input) → Is k.Semicolon ts rest → StopsQuery ts
unfolding same_kind
semicolon-stops ts rest is = stops-query k.Semicolon ts rest is refl refl refl refl refl refl refl refl

actions-reads : (all : List Action) (ts rest : Input) → Separated k.Semicolon IsAction all ts rest → length all ≤ max_actions → StopsQuery rest → sees k.Semicolon rest ≡ false → Reads r.actions all ts rest
unfolding r.actions
actions-reads all ts rest d le stop none = separated_to-reads k.Semicolon IsAction r.action StopsQuery semicolon-stops action-reads 7 all ts rest d le stop (no_separator k.Semicolon rest none)

listed-reads : (kind : TokenKind) (ns : List Name) (ts rest : Input) → IsListed kind ns ts rest → sees kind rest ≡ false → sees k.Comma rest ≡ false → Reads (r.listed kind) ns ts rest
unfolding r.listed
listed-reads kind w ts rest g.not_listed none stop = (rw none refl, omega arith)
listed-reads kind w ts rest (g.listed {names = ns} {x = x} is d) none stop =
    let m = names-reads ns x rest d stop in
    (rw (is-sees kind ts x is, is-expect kind ts x is, m.0) refl, omega (arith, is-shorter kind ts x is, m.1))

-- where the parts of a rule end
record EndsRule (ts : Input) : Type 0 where
  query : StopsQuery ts
  no_semicolon : sees k.Semicolon ts ≡ false

nothing-follows : (ts : Input) → kind_at ts ≡ None → StopsQuery ts
unfolding r.kind_at r.sees
nothing-follows [] e = record { cond = record { conj = record { expr = record { term = record { no_dot = refl; no_product = refl }; no_sum = refl }; no_and = refl }; no_or = refl }; no_where = refl; no_name = refl; no_comma = refl }
nothing-follows (t ∷ ts) e = cc

nothing-seen : (kind : TokenKind) (ts : Input) → kind_at ts ≡ None → sees kind ts ≡ false
unfolding r.kind_at r.sees
nothing-seen kind [] e = refl
nothing-seen kind (t ∷ ts) e = cc

follows-first : (ns : List Name) (ts rest : Input) → IsListed k.Follows ns ts rest → kind_at rest ≡ None → EndsRule ts × (sees k.Precedes ts ≡ false)
unfolding same_kind
follows-first ns ts rest g.not_listed none = (record { query = nothing-follows ts none; no_semicolon = nothing-seen k.Semicolon ts none }, nothing-seen k.Precedes ts none)
follows-first ns ts rest (g.listed {x = x} is d) none = (record { query = stops-query k.Follows ts x is refl refl refl refl refl refl refl refl; no_semicolon = is-other k.Follows k.Semicolon ts x is refl }, is-other k.Follows k.Precedes ts x is refl)

precedes-first : (ns : List Name) (ts rest : Input) → IsListed k.Precedes ns ts rest → EndsRule rest → EndsRule ts
unfolding same_kind
precedes-first ns ts rest g.not_listed stop = stop
precedes-first ns ts rest (g.listed {x = x} is d) stop = record { query = stops-query k.Precedes ts x is refl refl refl refl refl refl refl refl; no_semicolon = is-other k.Precedes k.Semicolon ts x is refl }

after-reads : (kind : TokenKind) (n : Name) (ts x rest : Input) → Is kind ts x → IsName n x rest → Reads (r.name_after kind) n ts rest
unfolding r.name_after
after-reads kind n ts x rest is d = let m = name-reads n x rest d in (rw (is-expect kind ts x is, m.0) refl, omega (arith, is-shorter kind ts x is, m.1))

-- what stands behind the triggers
if-first : (q : Option Query) (ts mid rest : Input) → IsIf q ts mid → Is k.Then mid rest → no_columns ts × (sees k.Comma ts ≡ false)
unfolding no_columns same_kind
if-first w ts mid rest g.always is = (is-other k.Then k.LeftParen ts rest is refl, is-other k.Then k.Comma ts rest is refl)
if-first w ts mid rest (g.if_query {x = x} first d) is = (is-other k.If k.LeftParen ts x first refl, is-other k.If k.Comma ts x first refl)

rule_head-reads : (n on : Name) (all : List Trigger) (ts rest : Input) → IsRuleHead n on all ts rest → no_columns rest → sees k.Comma rest ≡ false
    → (mid : Input) × Is k.Create ts mid × (r.rule_head mid ≡ Some ((n, on, all), rest)) × (kind_at mid ≡ Some k.Rule)
unfolding r.rule_head
rule_head-reads n on all ts rest (g.rule_head {x = x} {y = y} {z = z} {w = w} (g.phrase {x = u} {y = v} a b c) d e f h) stop none =
    let l = after-reads k.Rule n u v x b c in
    let m = after-reads k.On on x y z d e in
    let t = separated-reads k.Comma IsTrigger r.trigger no_columns comma-no_columns trigger-reads all w rest h stop (no_separator k.Comma rest none) in
    (u, a, rw (l.0, m.0, is-expect k.When z w f, t.0) refl, is-kind k.Rule u v b)

rule_body-reads : (head : r.RuleHead) (query : Option Query) (steps : List Action) (before after : List Name) (ts rest : Input) → IsRuleBody query steps before after ts rest → kind_at rest ≡ None
    → (r.rule_body head ts ≡ Some (r.rule_of head query steps before after, rest)) × no_columns ts × (sees k.Comma ts ≡ false)
unfolding r.rule_body same_kind
rule_body-reads head query steps before after ts rest (g.rule_body {x = x} {y = y} {z = z} {w = w} a b c le d e) none =
    let end = follows-first after w rest e none in
    let mid = precedes-first before z w d end.0 in
    let q = if-reads query ts x a (then-stops x y b) (is-other k.Then k.If x y b refl) in
    let s = actions-reads steps y z c le mid.query mid.no_semicolon in
    let p = listed-reads k.Precedes before z w d end.1 end.0.query.no_comma in
    let f = listed-reads k.Follows after w rest e (nothing-seen k.Follows rest none) (nothing-seen k.Comma rest none) in
    let i = if-first query ts x y a b in
    (rw (q.0, is-expect k.Then x y b, s.0, p.0, f.0) refl, i.0, i.1)

rule-reads : (y : RuleText) (ts rest : Input) → IsRule y ts rest → kind_at rest ≡ None → (mid : Input) × Is k.Create ts mid × (r.rule mid ≡ Some (y, rest)) × (kind_at mid ≡ Some k.Rule)
unfolding r.rule
rule-reads y ts rest (g.rule {n = n} {on = on} {all = all} {query = query} {steps = steps} {before = before} {after = after} {x = x} d h) none =
    let b = rule_body-reads (n, on, all) query steps before after x rest h none in
    let a = rule_head-reads n on all ts x d b.1 b.2 in
    (a.0, a.1, rw (a.2, b.0) refl, a.3)

-- where the actions of an alteration end, and so the list behind them, and so the next one
record EndsActions (ts : Input) : Type 0 where
  rule : EndsRule ts
  no_then : sees k.Then ts ≡ false
  no_if : sees k.If ts ≡ false

record EndsPrecedes (ts : Input) : Type 0 where
  actions : EndsActions ts
  no_precedes : sees k.Precedes ts ≡ false

record EndsFollows (ts : Input) : Type 0 where
  precedes : EndsPrecedes ts
  no_follows : sees k.Follows ts ≡ false

nothing-actions : (ts : Input) → kind_at ts ≡ None → EndsActions ts
nothing-actions ts none = record {
  rule = record { query = nothing-follows ts none; no_semicolon = nothing-seen k.Semicolon ts none };
  no_then = nothing-seen k.Then ts none;
  no_if = nothing-seen k.If ts none;
}

nopriority-part : (ns : List Name) (ts rest : Input) → IsListed k.NoPriority ns ts rest → kind_at rest ≡ None → EndsFollows ts
unfolding same_kind
nopriority-part ns ts rest g.not_listed none = record { precedes = record { actions = nothing-actions ts none; no_precedes = nothing-seen k.Precedes ts none }; no_follows = nothing-seen k.Follows ts none }
nopriority-part ns ts rest (g.listed {x = x} is d) none =
    let rule : EndsRule ts = record { query = stops-query k.NoPriority ts x is refl refl refl refl refl refl refl refl; no_semicolon = is-other k.NoPriority k.Semicolon ts x is refl } in
    let actions : EndsActions ts = record { rule = rule; no_then = is-other k.NoPriority k.Then ts x is refl; no_if = is-other k.NoPriority k.If ts x is refl } in
    record { precedes = record { actions = actions; no_precedes = is-other k.NoPriority k.Precedes ts x is refl }; no_follows = is-other k.NoPriority k.Follows ts x is refl }

follows-part : (ns : List Name) (ts rest : Input) → IsListed k.Follows ns ts rest → EndsFollows rest → EndsPrecedes ts
unfolding same_kind
follows-part ns ts rest g.not_listed end = end.precedes
follows-part ns ts rest (g.listed {x = x} is d) end =
    let rule : EndsRule ts = record { query = stops-query k.Follows ts x is refl refl refl refl refl refl refl refl; no_semicolon = is-other k.Follows k.Semicolon ts x is refl } in
    record { actions = record { rule = rule; no_then = is-other k.Follows k.Then ts x is refl; no_if = is-other k.Follows k.If ts x is refl }; no_precedes = is-other k.Follows k.Precedes ts x is refl }

precedes-part : (ns : List Name) (ts rest : Input) → IsListed k.Precedes ns ts rest → EndsPrecedes rest → EndsActions ts
unfolding same_kind
precedes-part ns ts rest g.not_listed end = end.actions
precedes-part ns ts rest (g.listed is d) end = record { rule = precedes-first ns ts rest (g.listed is d) end.actions.rule; no_then = is-other k.Precedes k.Then ts _ is refl; no_if = is-other k.Precedes k.If ts _ is refl }

then-reads : (all : Option (List Action)) (ts rest : Input) → IsThen all ts rest → EndsActions rest → Reads r.actions_then all ts rest × StopsQuery ts × (sees k.If ts ≡ false)
unfolding r.actions_then same_kind
then-reads w ts rest g.as_before end = ((rw end.no_then refl, omega arith), end.rule.query, end.no_if)
then-reads w ts rest (g.then_actions {actions = all} {x = x} is d le) end =
    let m = actions-reads all x rest d le end.rule.query end.rule.no_semicolon in
    ((rw (is-sees k.Then ts x is, is-expect k.Then ts x is, m.0) refl, omega (arith, is-shorter k.Then ts x is, m.1)), then-stops ts x is, is-other k.Then k.If ts x is refl)

alteration-reads : (y : AlterationText) (ts rest : Input) → IsAlteration y ts rest → kind_at rest ≡ None → (mid : Input) × Is k.Alter ts mid × (r.alteration mid ≡ Some (y, rest)) × (kind_at mid ≡ Some k.Rule)
unfolding r.alteration
alteration-reads w ts rest (g.alteration {n = n} {query = query} {steps = steps} {before = before} {after = after} {apart = apart} {x = x} {y = y} {z = z} {u = u} {v = v} (g.phrase {x = i} {y = j} a b c) d h e f l) none =
    let last = nopriority-part apart v rest l none in
    let lists = follows-part after u v f last in
    let ends = precedes-part before z u e lists in
    let m = after-reads k.Rule n i j x b c in
    let t = then-reads steps y z h ends in
    let q = if-reads query x y d t.1 t.2 in
    let p = listed-reads k.Precedes before z u e lists.no_precedes lists.actions.rule.query.no_comma in
    let o = listed-reads k.Follows after u v f last.no_follows last.precedes.actions.rule.query.no_comma in
    let s = listed-reads k.NoPriority apart v rest l (nothing-seen k.NoPriority rest none) (nothing-seen k.Comma rest none) in
    (i, a, rw (m.0, q.0, t.0.0, p.0, o.0, s.0) refl, is-kind k.Rule i j b)

-- ---- commands

column_type-reads : (u : ColumnType) (ts rest : Input) → IsColumnType u ts rest → Reads r.column_type u ts rest
unfolding r.column_type same_kind
column_type-reads u ts rest (g.int_type is) = (rw (is-sees k.IntType ts rest is, is-expect k.IntType ts rest is) refl, omega (arith, is-shorter k.IntType ts rest is))
column_type-reads u ts rest (g.text_type is) = (rw (is-other k.TextType k.IntType ts rest is refl, is-expect k.TextType ts rest is) refl, omega (arith, is-shorter k.TextType ts rest is))

definition-reads : (y : ColumnDefinition) (ts rest : Input) → IsDefinition y ts rest → Reads r.definition y ts rest
unfolding r.definition
definition-reads y ts rest (g.definition {n = n} {type = u} {x = x} d h) =
    let a = name-reads n ts x d in
    let b = column_type-reads u x rest h in
    (rw (a.0, b.0) refl, omega (arith, a.1, b.1))

columns-reads : (cs : List ColumnDefinition) (ts rest : Input) → Separated k.Comma IsDefinition cs ts rest → length cs ≤ max_columns → pushes {A = ColumnDefinition} k.Comma (kind_at rest) ≡ None → Reads r.columns cs ts rest
unfolding r.columns ends
columns-reads cs ts rest d le none = separated_to-reads k.Comma IsDefinition r.definition ends comma-ends (λ v a b d _. definition-reads v a b d) 7 cs ts rest d le tt none

creates_table-reads : (n : Name) (cs : List ColumnDefinition) (ts x y z rest : Input) → IsPhrase k.Create k.Table n ts x → Is k.LeftParen x y → Separated k.Comma IsDefinition cs y z → length cs ≤ max_columns → Is k.RightParen z rest → r.leading_command ts ≡ Some (tree.create_table n cs, rest)
unfolding r.leading_command r.creates r.creates_table
creates_table-reads n cs ts x y z rest (g.phrase {x = u} {y = v} a b c) d e le close =
    rw (is-kind k.Create ts u a, is-expect k.Create ts u a, is-kind k.Table u v b, is-expect k.Table u v b, (name-reads n v x c).0, is-expect k.LeftParen x y d, (columns-reads cs y z e le (paren-list z rest close)).0, is-expect k.RightParen z rest close) refl

queries-reads : (q : Query) (ts rest : Input) → IsQuery max_depth q ts rest → kind_at rest ≡ None → r.leading_command ts ≡ Some (tree.query q, rest)
unfolding r.leading_command
queries-reads q ts rest d none = rw (is-kind k.Select ts (query-first max_depth q ts rest d).0 (query-first max_depth q ts rest d).1) ((mapped tree.query (r.query_to max_depth) q ts rest (query-reads max_depth q ts rest d (nothing-follows rest none))).0)

changes-reads : (c : Statement) (ts rest : Input) → IsChange c ts rest → kind_at rest ≡ None → r.leading_command ts ≡ Some (tree.change c, rest)
unfolding r.leading_command
changes-reads c ts rest d none = ap (λ p. p ts) (change-kind c ts rest d).0 ∙ (mapped tree.change r.change c ts rest (change-reads c ts rest d (nothing-follows rest none))).0

word-reads : (kind : TokenKind) (command : Command) (ts rest : Input) → Is kind ts rest → r.leading_command_by (Some kind) ≡ r.word kind command → r.leading_command ts ≡ Some (command, rest)
unfolding r.leading_command r.word
word-reads kind command ts rest is by = rw (is-kind kind ts rest is, by, is-expect kind ts rest is) refl

creates_rule-reads : (y : RuleText) (ts rest : Input) → IsRule y ts rest → kind_at rest ≡ None → r.leading_command ts ≡ Some (tree.create_rule y, rest)
unfolding r.leading_command r.creates
creates_rule-reads y ts rest d none =
    let m = rule-reads y ts rest d none in
    rw (is-kind k.Create ts m.0 m.1, is-expect k.Create ts m.0 m.1, m.3, m.2) refl

-- the commands of two words and a name
phrase-reads : (first second : TokenKind) (f : Name → Command) (p : Reader Command) (n : Name) (ts rest : Input) → IsPhrase first second n ts rest → r.leading_command_by (Some first) ≡ p → ((x : Input) → Is first ts x → kind_at x ≡ Some second → p ts ≡ (r.name_after second >>= λ n. pure (f n)) x)
    → r.leading_command ts ≡ Some (f n, rest)
unfolding r.leading_command
phrase-reads first second f p n ts rest (g.phrase {x = x} {y = y} a b c) by step =
    let m = after-reads second n x y rest b c in
    rw (is-kind first ts x a, by) (step x a (is-kind second x y b) ∙ ap (λ o. and_then o (λ n. pure (f n))) m.0)

-- what the second word chooses
chooses : (first : TokenKind) (by : Option TokenKind → Reader Command) (second : TokenKind) (ts x : Input) → Is first ts x → kind_at x ≡ Some second → (expect first >> (λ ts. by (kind_at ts) ts)) ts ≡ by (Some second) x
chooses first by second ts x is kind = ap (λ o. and_then o (λ _ mid. by (kind_at mid) mid)) (is-expect first ts x is) ∙ ap (λ o. by o x) kind

drop-reads : (second : TokenKind) (f : Name → Command) (n : Name) (ts rest : Input) → IsPhrase k.Drop second n ts rest → r.drops_by (Some second) ≡ (r.name_after second >>= λ n. pure (f n)) → r.leading_command ts ≡ Some (f n, rest)
unfolding r.drops
drop-reads second f n ts rest d by = phrase-reads k.Drop second f r.drops n ts rest d refl (λ x a kind. chooses k.Drop r.drops_by second ts x a kind ∙ ap (λ p. p x) by)

process-reads : (second : TokenKind) (f : Name → Command) (n : Name) (ts rest : Input) → IsPhrase k.Process second n ts rest → r.processes_by (Some second) ≡ (r.name_after second >>= λ n. pure (f n)) → r.leading_command ts ≡ Some (f n, rest)
unfolding r.processes
process-reads second f n ts rest d by = phrase-reads k.Process second f r.processes n ts rest d refl (λ x a kind. chooses k.Process r.processes_by second ts x a kind ∙ ap (λ p. p x) by)

creates_ruleset-reads : (n : Name) (ts rest : Input) → IsPhrase k.Create k.Ruleset n ts rest → r.leading_command ts ≡ Some (tree.create_ruleset n, rest)
unfolding r.creates
creates_ruleset-reads n ts rest d = phrase-reads k.Create k.Ruleset tree.create_ruleset r.creates n ts rest d refl (λ x a kind. chooses k.Create r.creates_by k.Ruleset ts x a kind)

activates-reads : (n : Name) (ts rest : Input) → IsPhrase k.Activate k.Rule n ts rest → r.leading_command ts ≡ Some (tree.activate_rule n, rest)
unfolding r.activates
activates-reads n ts rest d = phrase-reads k.Activate k.Rule tree.activate_rule r.activates n ts rest d refl (λ x a kind. ap (λ o. and_then o (λ _. r.name_after k.Rule >>= λ n. pure (tree.activate_rule n))) (is-expect k.Activate ts x a))

deactivates-reads : (n : Name) (ts rest : Input) → IsPhrase k.Deactivate k.Rule n ts rest → r.leading_command ts ≡ Some (tree.deactivate_rule n, rest)
unfolding r.deactivates
deactivates-reads n ts rest d = phrase-reads k.Deactivate k.Rule tree.deactivate_rule r.deactivates n ts rest d refl (λ x a kind. ap (λ o. and_then o (λ _. r.name_after k.Rule >>= λ n. pure (tree.deactivate_rule n))) (is-expect k.Deactivate ts x a))

processes-reads : (ts x rest : Input) → Is k.Process ts x → Is k.Rules x rest → r.leading_command ts ≡ Some (tree.process_rules, rest)
unfolding r.leading_command r.processes r.word
processes-reads ts x rest a b = rw (is-kind k.Process ts x a, is-expect k.Process ts x a, is-kind k.Rules x rest b, is-expect k.Rules x rest b) refl

alters_rule-reads : (y : AlterationText) (ts rest : Input) → IsAlteration y ts rest → kind_at rest ≡ None → r.leading_command ts ≡ Some (tree.alter_rule y, rest)
unfolding r.leading_command r.alters
alters_rule-reads y ts rest d none =
    let m = alteration-reads y ts rest d none in
    rw (is-kind k.Alter ts m.0 m.1, is-expect k.Alter ts m.0 m.1, m.3, m.2) refl

adds_rules-reads : (n : Name) (ns : List Name) (ts x y rest : Input) → IsPhrase k.Alter k.Ruleset n ts x → Is k.AddRules x y → IsNames ns y rest → kind_at rest ≡ None → r.leading_command ts ≡ Some (tree.add_rules n ns, rest)
unfolding r.leading_command r.alters r.alters_ruleset r.alters_from r.adds_rules
adds_rules-reads n ns ts x y rest (g.phrase {x = u} {y = v} a b c) d e none =
    rw (is-kind k.Alter ts u a, is-expect k.Alter ts u a, is-kind k.Ruleset u v b, (after-reads k.Ruleset n u v x b c).0, is-sees k.AddRules x y d, is-expect k.AddRules x y d, (names-reads ns y rest e (nothing-seen k.Comma rest none)).0) refl

removes_rules-reads : (n : Name) (ns : List Name) (ts x y rest : Input) → IsPhrase k.Alter k.Ruleset n ts x → Is k.DelRules x y → IsNames ns y rest → kind_at rest ≡ None → r.leading_command ts ≡ Some (tree.del_rules n ns, rest)
unfolding r.leading_command r.alters r.alters_ruleset r.alters_from r.removes_rules same_kind
removes_rules-reads n ns ts x y rest (g.phrase {x = u} {y = v} a b c) d e none =
    rw (is-kind k.Alter ts u a, is-expect k.Alter ts u a, is-kind k.Ruleset u v b, (after-reads k.Ruleset n u v x b c).0, is-other k.DelRules k.AddRules x y d refl, is-expect k.DelRules x y d, (names-reads ns y rest e (nothing-seen k.Comma rest none)).0) refl

leading_command-reads : (s : Command) (ts rest : Input) → IsLeadingCommand s ts rest → kind_at rest ≡ None → r.leading_command ts ≡ Some (s, rest)
leading_command-reads s ts rest (g.opens is) none = word-reads k.Open tree.open_session ts rest is refl
leading_command-reads s ts rest (g.ends is) none = word-reads k.End tree.end_session ts rest is refl
leading_command-reads s ts rest (g.begins is) none = word-reads k.Begin tree.begin ts rest is refl
leading_command-reads s ts rest (g.commits is) none = word-reads k.Commit tree.commit ts rest is refl
leading_command-reads s ts rest (g.rolls_back is) none = word-reads k.Rollback tree.rollback ts rest is refl
leading_command-reads s ts rest (g.creates_table {n = n} {columns = cs} {x = x} {y = y} {z = z} a d e le close) none = creates_table-reads n cs ts x y z rest a d e le close
leading_command-reads s ts rest (g.drops_table {n = n} d) none = drop-reads k.Table tree.drop_table n ts rest d refl
leading_command-reads s ts rest (g.creates_rule {r = y} d) none = creates_rule-reads y ts rest d none
leading_command-reads s ts rest (g.alters_rule {r = y} d) none = alters_rule-reads y ts rest d none
leading_command-reads s ts rest (g.drops_rule {n = n} d) none = drop-reads k.Rule tree.drop_rule n ts rest d refl
leading_command-reads s ts rest (g.activates {n = n} d) none = activates-reads n ts rest d
leading_command-reads s ts rest (g.deactivates {n = n} d) none = deactivates-reads n ts rest d
leading_command-reads s ts rest (g.creates_ruleset {n = n} d) none = creates_ruleset-reads n ts rest d
leading_command-reads s ts rest (g.drops_ruleset {n = n} d) none = drop-reads k.Ruleset tree.drop_ruleset n ts rest d refl
leading_command-reads s ts rest (g.adds_rules {n = n} {rules = ns} {x = x} {y = y} a b c) none = adds_rules-reads n ns ts x y rest a b c none
leading_command-reads s ts rest (g.removes_rules {n = n} {rules = ns} {x = x} {y = y} a b c) none = removes_rules-reads n ns ts x y rest a b c none
leading_command-reads s ts rest (g.processes {x = x} a b) none = processes-reads ts x rest a b
leading_command-reads s ts rest (g.processes_ruleset {n = n} d) none = process-reads k.Ruleset tree.process_ruleset n ts rest d refl
leading_command-reads s ts rest (g.processes_rule {n = n} d) none = process-reads k.Rule tree.process_rule n ts rest d refl
leading_command-reads s ts rest (g.queries {q = q} d) none = queries-reads q ts rest d none
leading_command-reads s ts rest (g.changes {change = c} d) none = changes-reads c ts rest d none

no_more_kind : kind_at [] ≡ None
unfolding r.kind_at
no_more_kind = refl

pub command-reads : (s : Command) (ts : Input) → IsCommand s ts → r.command ts ≡ Some (s, [])
unfolding r.command
command-reads s ts d = ap (λ o. and_then o r.ended) (leading_command-reads s ts [] d no_more_kind)

-- a text has at most one command
pub one_command : (ts : Input) (s z : Command) → IsCommand s ts → IsCommand z ts → s ≡ z
one_command ts s z d e =
    let same : Some (s, []) ≡ Some (z, []) = sym (command-reads s ts d) ∙ command-reads z ts e in
    ap (λ (p : Command × Input). p.0) (same_Some {A = Command × Input} (s, []) (z, []) same)
