-- The lines that are made of a rule's clauses.
use Rattle.std.proofs.Common.{◌≡◌, ℕ, List, [], ◌∷◌, ◌++◌, length, take, ◌+◌, ◌-◌, arith, Option, None, Some, Vec, codes, refl, ap, sym, ◌∙◌, subst, append-nil, true}
use Rattle.std.specs.Global.{Global}
use Rattle.std.proofs.lemmas.Bool.{eqb-true}
use lib.Seq.{take-length}
use Rattle.sb_syntax.specs.declared.kind.TokenKind.{TokenKind}
use Rattle.sb_syntax.specs.declared.kind.TokenKind.TheVariants as k
use Rattle.sb_syntax.specs.Cursor.{lexemes}
use Rattle.sb_syntax.specs.Input.{Input, Is, token}
use Rattle.sb_syntax.specs.Grammar as g
use Rattle.sb_syntax.specs.Grammar.{IsCommand, IsIf, IsName, IsPhrase, IsQuery, IsRuleHead, IsThen, max_depth}
use Rattle.sb_syntax.specs.Lex as lex
use Rattle.sb_syntax.specs.Lex.{AreTokens, begins}
use Rattle.sb_syntax.specs.Scan.{scan}
use Rattle.sb_syntax.specs.Text.{command_of}
use Rattle.sb_syntax.specs.Tree.{Action, Command, Query, RuleText, create_rule, alter_rule}
use Rattle.sb_syntax.proofs.TextLaws.{command_of-grammar, scan-sound}
use Rattle.sb_catalog.specs.declared.clauses.RuleClauses.{RuleClauses}
use Rattle.sb_catalog.specs.ClauseTexts.{AreClauses, Event, IsActions, IsActionsText, IsConditionText, IsEvent, IsNameText, IsText, WhereThere, alone, create_line, if_line, if_text, is_space, new_actions, new_condition, then_line}
use Rattle.sb_catalog.specs.ClauseTexts as c
use Rattle.sb_catalog.proofs.Framed.{Framed}
use Rattle.sb_catalog.proofs.Framed as f
use Rattle.sb_catalog.proofs.Cut.{both}
use Rattle.sb_catalog.proofs.Glue.{Lexed, Spaced, glued, of_tokens, nothing, space}

-- ---- words

-- the token of a word
abbrev word : TokenKind → List ℕ → Input → Input
word kind text rest = record { kind = kind; text = text } ∷ rest

create_scan : scan 0 0 (codes "create rule") ≡ Some (record { kind = k.Create; start = 0; end = 6 } ∷ record { kind = k.Rule; start = 7; end = 11 } ∷ [])
unfolding command_of
create_scan = refl

alter_scan : scan 0 0 (codes "alter rule") ≡ Some (record { kind = k.Alter; start = 0; end = 5 } ∷ record { kind = k.Rule; start = 6; end = 10 } ∷ [])
unfolding command_of
alter_scan = refl

on_scan : scan 0 0 (codes " on") ≡ Some (record { kind = k.On; start = 1; end = 3 } ∷ [])
unfolding command_of
on_scan = refl

if_scan : scan 0 0 (codes " if") ≡ Some (record { kind = k.If; start = 1; end = 3 } ∷ [])
unfolding command_of
if_scan = refl

then_scan : scan 0 0 (codes " then") ≡ Some (record { kind = k.Then; start = 1; end = 5 } ∷ [])
unfolding command_of
then_scan = refl

create_words : Lexed (codes "create rule") (word k.Create (codes "create") (word k.Rule (codes "rule") []))
create_words = of_tokens (codes "create rule") _ (scan-sound (codes "create rule") _ create_scan)

alter_words : Lexed (codes "alter rule") (word k.Alter (codes "alter") (word k.Rule (codes "rule") []))
alter_words = of_tokens (codes "alter rule") _ (scan-sound (codes "alter rule") _ alter_scan)

on_word : Lexed (codes " on") (word k.On (codes "on") [])
on_word = of_tokens (codes " on") _ (scan-sound (codes " on") _ on_scan)

if_word : Lexed (codes " if") (word k.If (codes "if") [])
if_word = of_tokens (codes " if") _ (scan-sound (codes " if") _ if_scan)

then_word : Lexed (codes " then") (word k.Then (codes "then") [])
then_word = of_tokens (codes " then") _ (scan-sound (codes " then") _ then_scan)

named_tokens : (name : List ℕ) → IsNameText name → AreTokens 0 (32 ∷ name) (record { kind = k.Name; start = 1; end = 1 + length name } ∷ [])
named_tokens name is = lex.space (lex.token {bytes = name} is.word (sym (append-nil name)) lex.no_tokens)

name_word : (name : List ℕ) → IsNameText name → Lexed (32 ∷ name) (lexemes (32 ∷ name) (record { kind = k.Name; start = 1; end = 1 + length name } ∷ []))
name_word name is = of_tokens (32 ∷ name) _ (named_tokens name is)

-- ---- texts of clauses

spaced : (text : List ℕ) → begins is_space text ≡ true → Spaced text
spaced [] e = absurd (both _ e refl)
spaced (b ∷ text) e = subst (λ (x : ℕ). Spaced (x ∷ text)) (sym (eqb-true b 32 e)) space

spaced-append : (xs ys : List ℕ) → Spaced xs → Spaced ys → Spaced (xs ++ ys)
spaced-append xs ys nothing s = s
spaced-append xs ys space s = space

-- what is read of a text
abbrev read_of : {A : Type 0} (P : A → Input → Input → Type 0) (text : List ℕ) (x : A) → IsText P text x → Input
read_of P text x h = lexemes text h.tokens

lexed : {A : Type 0} (P : A → Input → Input → Type 0) (text : List ℕ) (x : A) (h : IsText P text x) → Lexed text (read_of P text x h)
lexed P text x h = of_tokens text h.tokens h.are

-- what spells something alone spells it in front of anything
before : {P : Input → Input → Type 0} {ts : Input} → Framed P ts [] → (rest : Input) → P (ts ++ rest) rest
before {P = P} h rest = subst (λ (x : Input). P (x ++ rest) rest) (sym (h.same ∙ append-nil h.taken)) (h.anywhere rest)

-- ---- lines

-- a line's tokens, and what they spell
line_is : (line : List ℕ) (read : Input) (s : Command) → Lexed line read → IsCommand s read → command_of line ≡ Some s
line_is line read s l is =
    let h = l 0 in
    (command_of-grammar line s).0 (record { tokens = h.tokens; are = h.are; spell = subst (IsCommand s) (sym (h.same line [] (sym (append-nil line)))) is })

-- the name as the second token
name_text : (name : List ℕ) → take (1 + length name - 1) name ≡ name
name_text name = let n : 1 + length name - 1 ≡ length name = omega arith in ap (λ m. take m name) n ∙ take-length name

is_name : (name : List ℕ) → IsNameText name → (rest : Input) → IsName name (word k.Name name rest) rest
is_name name is rest = g.name is.some is.short

name_read : (name : List ℕ) → IsNameText name → Lexed (32 ∷ name) (word k.Name name [])
name_read name is = subst (λ (x : List ℕ). Lexed (32 ∷ name) (word k.Name x [])) (name_text name) (name_word name is)

-- actions behind `then`
then_part : (text : List ℕ) (actions : List Action) (h : IsActionsText text actions) → Lexed (codes " then" ++ text) (word k.Then (codes "then") (read_of IsActions text actions h))
then_part text actions h = glued (codes " then") text (word k.Then (codes "then") []) (read_of IsActions text actions h) (spaced text h.spaced) then_word (lexed IsActions text actions h)

-- a condition behind `if`
if_part : (text : List ℕ) (q : Query) (h : IsConditionText text q) → Lexed (codes " if" ++ text) (word k.If (codes "if") (read_of (IsQuery max_depth) text q h))
if_part text q h = glued (codes " if") text (word k.If (codes "if") []) (read_of (IsQuery max_depth) text q h) (spaced text h.spaced) if_word (lexed (IsQuery max_depth) text q h)

-- ---- an alteration

altered_front : (name : List ℕ) (rest : List ℕ) (read : Input) → IsNameText name → Spaced rest → Lexed rest read → Lexed (codes "alter rule " ++ (name ++ rest)) (word k.Alter (codes "alter") (word k.Rule (codes "rule") (word k.Name name read)))
altered_front name rest read is s l =
    glued (codes "alter rule") (32 ∷ (name ++ rest)) (word k.Alter (codes "alter") (word k.Rule (codes "rule") [])) (word k.Name name read) space alter_words
    (glued (32 ∷ name) rest (word k.Name name []) read s (name_read name is) l)

altered_phrase : (name : List ℕ) → IsNameText name → (rest : Input) → IsPhrase k.Alter k.Rule name (word k.Alter (codes "alter") (word k.Rule (codes "rule") (word k.Name name rest))) rest
altered_phrase name is rest = g.phrase token token (is_name name is rest)

pub condition_line : (name text : List ℕ) (q : Query) → IsNameText name → IsConditionText text q → command_of (if_line name text) ≡ Some (alter_rule (new_condition name q))
condition_line name text q is h =
    let read = read_of (IsQuery max_depth) text q h in
    line_is (if_line name text) _ (alter_rule (new_condition name q)) (altered_front name (codes " if" ++ text) (word k.If (codes "if") read) is space (if_part text q h))
    (g.alters_rule (g.alteration (altered_phrase name is (word k.If (codes "if") read)) (g.if_query token h.spell) g.as_before g.not_listed g.not_listed g.not_listed))

pub actions_line : (name text : List ℕ) (actions : List Action) → IsNameText name → IsActionsText text actions → command_of (then_line name text) ≡ Some (alter_rule (new_actions name actions))
actions_line name text actions is h =
    let read = read_of IsActions text actions h in
    let d = h.spell in
    line_is (then_line name text) _ (alter_rule (new_actions name actions)) (altered_front name (codes " then" ++ text) (word k.Then (codes "then") read) is space (then_part text actions h))
    (g.alters_rule (g.alteration (altered_phrase name is (word k.Then (codes "then") read)) g.always (g.then_actions token d.separated d.few) g.not_listed g.not_listed g.not_listed))

-- ---- a rule

record Part (text : List ℕ) (spell : Input → Type 0) : Type 0 where
  pub read : Input
  pub lexed : Lexed text read
  pub spaced : Spaced text
  pub spells : spell read

-- what stands behind the event
body : (clauses : RuleClauses) (q : Option Query) (actions : List Action) → WhereThere IsConditionText clauses.condition q → IsActionsText clauses.actions.items actions
    → Part (if_text clauses.condition ++ (codes " then" ++ clauses.actions.items)) (λ read. (mid : Input) × IsIf q read mid × (x : Input) × Is k.Then mid x × IsActions actions x [])
body clauses q actions h a = by clauses.condition q h
  where
    thens : Input
    thens = word k.Then (codes "then") (read_of IsActions clauses.actions.items actions a)

    by : (written : Option (Vec ℕ Global)) (q : Option Query) → WhereThere IsConditionText written q
        → Part (if_text written ++ (codes " then" ++ clauses.actions.items)) (λ read. (mid : Input) × IsIf q read mid × (x : Input) × Is k.Then mid x × IsActions actions x [])
    by None None h = record { read = thens; lexed = then_part clauses.actions.items actions a; spaced = space; spells = (thens, g.always, read_of IsActions clauses.actions.items actions a, token, a.spell) }
    by None (Some q) h = absurd h
    by (Some t) None h = absurd h
    by (Some t) (Some q) h = record {
      read = word k.If (codes "if") (read_of (IsQuery max_depth) t.items q h) ++ thens;
      lexed = glued (codes " if" ++ t.items) (codes " then" ++ clauses.actions.items) (word k.If (codes "if") (read_of (IsQuery max_depth) t.items q h)) thens space (if_part t.items q h) (then_part clauses.actions.items actions a);
      spaced = space;
      spells = (thens, g.if_query token (before (f.query max_depth q _ [] h.spell) thens), read_of IsActions clauses.actions.items actions a, token, a.spell);
    }

head_of : (name : List ℕ) (e : Event) (ts rest : Input) (x : Input) → IsNameText name → IsEvent e x rest → IsRuleHead name e.0 e.1 (word k.Create (codes "create") (word k.Rule (codes "rule") (word k.Name name (word k.On (codes "on") x)))) rest
head_of name e ts rest x is (c.event d when triggers) = g.rule_head (g.phrase token token (is_name name is (word k.On (codes "on") x))) token d when triggers

pub rule_line : (name : List ℕ) (clauses : RuleClauses) (r : RuleText) → IsNameText name → AreClauses clauses r → command_of (create_line name clauses) ≡ Some (create_rule (alone name r))
rule_line name clauses r is h =
    let b = body clauses r.condition r.actions h.condition h.actions in
    let e = h.event in
    let event = read_of IsEvent clauses.event.items (r.table, r.triggers) e in
    let s = b.spells in
    let a = s.4 in
    let behind_on = glued clauses.event.items (if_text clauses.condition ++ (codes " then" ++ clauses.actions.items)) event b.read b.spaced (lexed IsEvent clauses.event.items (r.table, r.triggers) e) b.lexed in
    let with_on = glued (codes " on") (clauses.event.items ++ (if_text clauses.condition ++ (codes " then" ++ clauses.actions.items))) (word k.On (codes "on") []) (event ++ b.read)
    (spaced-append clauses.event.items _ (spaced clauses.event.items e.spaced) b.spaced) on_word behind_on in
    let with_name = glued (32 ∷ name) _ (word k.Name name []) (word k.On (codes "on") (event ++ b.read)) space (name_read name is) with_on in
    let whole = glued (codes "create rule") _ (word k.Create (codes "create") (word k.Rule (codes "rule") [])) (word k.Name name (word k.On (codes "on") (event ++ b.read))) space create_words with_name in
    line_is (create_line name clauses) _ (create_rule (alone name r)) whole
    (g.creates_rule (g.rule (head_of name (r.table, r.triggers) [] b.read (event ++ b.read) is (before (f.event (r.table, r.triggers) event [] e.spell) b.read)) (g.rule_body s.1 s.3 a.separated a.few g.not_listed g.not_listed)))
