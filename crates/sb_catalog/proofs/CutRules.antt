-- Where the clauses stand among the tokens of a rule.
use Rattle.std.proofs.Common.{◌≡◌, Bool, true, false, cond, not, List, [], ◌∷◌, ◌++◌, Option, None, Some, refl, ap, sym, ◌∙◌, subst, append-nil}
use Rattle.std.proofs.lemmas.Bool.{and_parts}
use Rattle.sb_syntax.specs.declared.kind.TokenKind.{TokenKind}
use Rattle.sb_syntax.specs.declared.kind.TokenKind.TheVariants as k
use Rattle.sb_syntax.specs.Input.{Input, Is, token, same_kind}
use Rattle.sb_syntax.specs.Grammar as g
use Rattle.sb_syntax.specs.Grammar.{IsIf, IsThen, IsListed, IsPhrase, IsRuleHead, IsRuleBody, IsRule, IsAlteration, IsQuery, IsCommand, IsName, max_depth}
use Rattle.sb_syntax.specs.Tree.{Name, Query, Action, RuleText, AlterationText, create_rule, alter_rule}
use Rattle.sb_syntax.proofs.TokenLaws.{same_kind-true}
use Rattle.sb_catalog.specs.ClauseCuts.{begins_clause}
use Rattle.sb_catalog.specs.ClauseTexts.{Event, IsEvent, IsActions}
use Rattle.sb_catalog.specs.ClauseTexts as c
use Rattle.sb_catalog.proofs.Framed.{Framed, is_plain}
use Rattle.sb_catalog.proofs.Framed as f

-- the same of tokens with their bytes
abbrev pub behind : TokenKind → Input → Option Input
behind word [] = None
behind word (t ∷ ts) = cond (same_kind t.kind word) (Some ts) (behind word ts)

abbrev pub inside : Input → Input
inside [] = []
inside (t ∷ ts) = cond (begins_clause t.kind) [] (t ∷ inside ts)

-- nothing follows, or a clause
abbrev ends : Input → Bool
ends [] = true
ends (t ∷ ts) = begins_clause t.kind

not_both : (b : Bool) → not b ≡ true → b ≡ true → ⊥
not_both true p q = let e : false ≡ true = p in cc
not_both false p q = cc

-- plain tokens are passed over
over : (word : TokenKind) (xs rest : Input) → begins_clause word ≡ true → is_plain xs ≡ true → behind word (xs ++ rest) ≡ behind word rest
over word [] rest w p = refl
over word (t ∷ xs) rest w p = let s = and_parts _ _ p in go (same_kind t.kind word) refl s.0 (over word xs rest w s.1)
  where
    go : (b : Bool) → same_kind t.kind word ≡ b → not (begins_clause t.kind) ≡ true → behind word (xs ++ rest) ≡ behind word rest → behind word (t ∷ (xs ++ rest)) ≡ behind word rest
    go true is other rec = absurd (not_both (begins_clause t.kind) other (ap begins_clause (same_kind-true t.kind word is) ∙ w))
    go false is other rec = ap (λ (b : Bool). cond b (Some (xs ++ rest)) (behind word (xs ++ rest))) is ∙ rec

up_to : (xs rest : Input) → is_plain xs ≡ true → ends rest ≡ true → inside (xs ++ rest) ≡ xs
up_to [] [] p e = refl
up_to [] (t ∷ rest) p e = ap (λ (b : Bool). cond b [] (t ∷ inside rest)) e
up_to (t ∷ xs) rest p e = let s = and_parts _ _ p in go (begins_clause t.kind) refl s.0 (up_to xs rest s.1 e)
  where
    go : (b : Bool) → begins_clause t.kind ≡ b → not (begins_clause t.kind) ≡ true → inside (xs ++ rest) ≡ xs → inside (t ∷ (xs ++ rest)) ≡ t ∷ xs
    go true is other rec = absurd (not_both (begins_clause t.kind) other is)
    go false is other rec = ap (λ (b : Bool). cond b [] (t ∷ inside (xs ++ rest))) is ∙ ap (λ x. t ∷ x) rec

-- what spells something up to a clause spells it alone
alone : {P : Input → Input → Type 0} {ts rest : Input} → Framed P ts rest → ends rest ≡ true → P (inside ts) []
alone {P = P} {rest = rest} h e =
    subst (λ (x : Input). P x []) (sym (ap inside h.same ∙ up_to h.taken rest h.plain e)) (subst (λ (x : Input). P x []) (append-nil h.taken) (h.anywhere []))

passed : {P : Input → Input → Type 0} {ts rest : Input} (word : TokenKind) → Framed P ts rest → begins_clause word ≡ true → behind word ts ≡ behind word rest
passed {rest = rest} word h w = ap (behind word) h.same ∙ over word h.taken rest w h.plain

-- ---- what a word is followed by

-- behind the word stands what spells it, up to the next clause
abbrev pub Behind : TokenKind → (Input → Input → Type 0) → Input → Type 0
Behind word P ts = (x : Input) × (behind word ts ≡ Some x) × P (inside x) []

abbrev pub BehindIf : {A : Type 0} → TokenKind → (A → Input → Input → Type 0) → Option A → Input → Type 0
BehindIf word P None ts = behind word ts ≡ None
BehindIf word P (Some x) ts = Behind word (P x) ts

moved : (P : Input → Input → Type 0) (word : TokenKind) (a b : Input) → behind word a ≡ behind word b → Behind word P b → Behind word P a
moved P word a b e h = (h.0, e ∙ h.1, h.2)

moved_if : {A : Type 0} (P : A → Input → Input → Type 0) (word : TokenKind) (o : Option A) (a b : Input) → behind word a ≡ behind word b → BehindIf word P o b → BehindIf word P o a
moved_if P word None a b e h = e ∙ h
moved_if P word (Some x) a b e h = (h.0, e ∙ h.1, h.2)

-- ---- lists of names at the end

-- what passes a word over passes the names behind another one over
skips : (kind word : TokenKind) (ns : List Name) (ts rest : Input) → IsListed kind ns ts rest → same_kind kind word ≡ false → begins_clause word ≡ true → behind word ts ≡ behind word rest
skips kind word ns ts rest g.not_listed other w = refl
skips kind word ns ts rest (g.listed (token {rest = x}) d) other w = ap (λ (b : Bool). cond b (Some x) (behind word x)) other ∙ passed word (f.names ns x rest d) w

listed-ends : (kind : TokenKind) (ns : List Name) (ts rest : Input) → IsListed kind ns ts rest → begins_clause kind ≡ true → ends rest ≡ true → ends ts ≡ true
listed-ends kind ns ts rest g.not_listed w e = e
listed-ends kind ns ts rest (g.listed token d) w e = w

-- two of them, and what may come
record Tail (ts : Input) : Type 0 where
  no_if : behind k.If ts ≡ None
  no_then : behind k.Then ts ≡ None
  ends_there : ends ts ≡ true

tail_end : Tail []
tail_end = record { no_if = refl; no_then = refl; ends_there = refl }

tail_listed : (kind : TokenKind) (ns : List Name) (ts rest : Input) → IsListed kind ns ts rest → same_kind kind k.If ≡ false → same_kind kind k.Then ≡ false → begins_clause kind ≡ true → Tail rest → Tail ts
tail_listed kind ns ts rest d a b w t = record {
  no_if = skips kind k.If ns ts rest d a refl ∙ t.no_if;
  no_then = skips kind k.Then ns ts rest d b refl ∙ t.no_then;
  ends_there = listed-ends kind ns ts rest d w t.ends_there;
}

tail_follows : (ns : List Name) (ts : Input) → IsListed k.Follows ns ts [] → Tail ts
unfolding same_kind
tail_follows ns ts d = tail_listed k.Follows ns ts [] d refl refl refl tail_end

tail_precedes : (ns : List Name) (ts rest : Input) → IsListed k.Precedes ns ts rest → Tail rest → Tail ts
unfolding same_kind
tail_precedes ns ts rest d t = tail_listed k.Precedes ns ts rest d refl refl refl t

tail_follows_on : (ns : List Name) (ts rest : Input) → IsListed k.Follows ns ts rest → Tail rest → Tail ts
unfolding same_kind
tail_follows_on ns ts rest d t = tail_listed k.Follows ns ts rest d refl refl refl t

tail_nopriority : (ns : List Name) (ts : Input) → IsListed k.NoPriority ns ts [] → Tail ts
unfolding same_kind
tail_nopriority ns ts d = tail_listed k.NoPriority ns ts [] d refl refl refl tail_end

-- ---- actions and condition

record Body (condition : Option Query) (actions : Option (List Action)) (ts : Input) : Type 0 where
  pub queried : BehindIf k.If (IsQuery max_depth) condition ts
  pub acting : BehindIf k.Then IsActions actions ts
  pub ends_there : ends ts ≡ true

then_body : (all : List Action) (x z : Input) (ts : Input) → Is k.Then ts x → IsActions all x z → Tail z → Body None (Some all) ts
unfolding same_kind
then_body all x z ts token d t = let h = f.actions all x z d in record {
  queried = passed k.If h refl ∙ t.no_if;
  acting = (x, refl, alone h t.ends_there);
  ends_there = refl;
}

no_body : (ts : Input) → Tail ts → Body None None ts
no_body ts t = record { queried = t.no_if; acting = t.no_then; ends_there = t.ends_there }

if_body : (q : Option Query) (actions : Option (List Action)) (ts x : Input) → IsIf q ts x → Body None actions x → Body q actions ts
unfolding same_kind
if_body q actions ts x g.always b = b
if_body q actions ts x (g.if_query {q = r} {x = y} token d) b = let h = f.query max_depth r y x d in record {
  queried = (y, refl, alone h b.ends_there);
  acting = moved_if IsActions k.Then actions _ x (passed k.Then h refl) b.acting;
  ends_there = refl;
}

then_part : (o : Option (List Action)) (ts z : Input) → IsThen o ts z → Tail z → Body None o ts
then_part o ts z g.as_before t = no_body ts t
then_part o ts z (g.then_actions {actions = all} {x = x} is d le) t = then_body all x z ts is (record { separated = d; few = le }) t

-- ---- a rule, and an altered one

pub record RuleStands (r : RuleText) (ts : Input) : Type 0 where
  pub event : Behind k.On (IsEvent (r.table, r.triggers)) ts
  pub condition : BehindIf k.If (IsQuery max_depth) r.condition ts
  pub actions : Behind k.Then (IsActions r.actions) ts

pub record AlterationStands (r : AlterationText) (ts : Input) : Type 0 where
  pub condition : BehindIf k.If (IsQuery max_depth) r.condition ts
  pub actions : BehindIf k.Then IsActions r.actions ts

-- a phrase in front is passed over
phrase : (first second word : TokenKind) (n : Name) (ts rest : Input) → IsPhrase first second n ts rest → same_kind first word ≡ false → same_kind second word ≡ false → begins_clause word ≡ true → behind word ts ≡ behind word rest
phrase first second word n ts rest (g.phrase {y = y} (token {rest = x}) token d) a b w =
    ap (λ (t : Bool). cond t (Some x) (behind word x)) a ∙ ap (λ (t : Bool). cond t (Some y) (behind word y)) b ∙ passed word (f.name n y rest d) w

head : (r : RuleText) (ts x : Input) → IsRuleHead r.name r.table r.triggers ts x → Body r.condition (Some r.actions) x → RuleStands r ts
unfolding same_kind
head r ts x (g.rule_head {x = a} {z = z} {w = w} p (token {rest = y}) d is triggers) b =
    let h = f.event (r.table, r.triggers) y x (c.event d is triggers) in
    record {
      event = moved (IsEvent (r.table, r.triggers)) k.On ts a (phrase k.Create k.Rule k.On r.name ts a p refl refl refl) (y, refl, alone h b.ends_there);
      condition = moved_if (IsQuery max_depth) k.If r.condition ts x (phrase k.Create k.Rule k.If r.name ts a p refl refl refl ∙ passed k.If h refl) b.queried;
      actions = moved (IsActions r.actions) k.Then ts x (phrase k.Create k.Rule k.Then r.name ts a p refl refl refl ∙ passed k.Then h refl) b.acting;
    }

rule_body : (q : Option Query) (all : List Action) (before after : List Name) (ts : Input) → IsRuleBody q all before after ts [] → Body q (Some all) ts
rule_body q all before after ts (g.rule_body {x = x} {y = y} {z = z} {w = w} a is d le e h) =
    if_body q (Some all) ts x a (then_body all y z x is (record { separated = d; few = le }) (tail_precedes before z w e (tail_follows after w h)))

rule_stands : (r : RuleText) (ts : Input) → IsRule r ts [] → RuleStands r ts
rule_stands r ts (g.rule {n = n} {on = on} {all = triggers} {query = q} {steps = steps} {before = before} {after = after} {x = x} a b) = head r ts x a (rule_body q steps before after x b)

pub created : (r : RuleText) (ts : Input) → IsCommand (create_rule r) ts → RuleStands r ts
created r ts (g.creates_rule d) = rule_stands r ts d

alteration_stands : (r : AlterationText) (ts : Input) → IsAlteration r ts [] → AlterationStands r ts
unfolding same_kind
alteration_stands r ts (g.alteration {n = n} {query = q} {steps = o} {before = before} {after = after} {apart = apart} {x = x} {y = y} {z = z} {u = u} {v = v} p a b d e h) =
    let t = tail_precedes before z u d (tail_follows_on after u v e (tail_nopriority apart v h)) in
    let body = if_body q o x y a (then_part o y z b t) in
    record {
      condition = moved_if (IsQuery max_depth) k.If q ts x (phrase k.Alter k.Rule k.If n ts x p refl refl refl) body.queried;
      actions = moved_if IsActions k.Then o ts x (phrase k.Alter k.Rule k.Then n ts x p refl refl refl) body.acting;
    }

pub altered : (r : AlterationText) (ts : Input) → IsCommand (alter_rule r) ts → AlterationStands r ts
altered r ts (g.alters_rule d) = alteration_stands r ts d
