-- A clause of a line, as a text that reads by itself.
use Rattle.std.proofs.Common.{◌≡◌, ℕ, Bool, true, false, cond, List, [], ◌∷◌, Option, Some, None, option_map, unwrap_or, Vec, slice_range, refl, ap, sym, ◌∙◌, subst}
use Rattle.std.specs.Global.{Global}
use Rattle.std.proofs.lemmas.Option.{none-some, same_Some}
use Rattle.sb_syntax.specs.declared.cursor.Token.{Token}
use Rattle.sb_syntax.specs.declared.kind.TokenKind.{TokenKind}
use Rattle.sb_syntax.specs.declared.kind.TokenKind.TheVariants as k
use Rattle.sb_syntax.specs.Cursor.{lexemes}
use Rattle.sb_syntax.specs.Grammar as g
use Rattle.sb_syntax.specs.Grammar.{IsAction, IsChange, IsCommand, IsQuery, Separated, max_depth}
use Rattle.sb_syntax.specs.Reading.{kind_at}
use Rattle.sb_syntax.specs.Input.{Input, token, same_kind}
use Rattle.sb_syntax.specs.Lex.{AreTokens}
use Rattle.sb_syntax.specs.Text.{command_of}
use Rattle.sb_syntax.specs.Tree.{Action, AlterationText, Command, RuleText, create_rule, alter_rule}
use Rattle.sb_syntax.proofs.TextLaws.{command_of-grammar, one_cut}
use Rattle.sb_catalog.specs.ClauseTexts.{IsText, IsEvent, IsActions, WhereThere, AreClauses, AreNewClauses}
use Rattle.sb_catalog.specs.ClauseCuts.{begins_clause, clause, end_of}
use Rattle.sb_catalog.specs.ClauseCuts as t
use Rattle.sb_catalog.specs.ClauseTexts as c
use Rattle.sb_catalog.proofs.Cut.{behind_space, cut_out, leads}
use Rattle.sb_catalog.proofs.CutRules.{Behind, BehindIf, RuleStands, AlterationStands, created, altered}
use Rattle.sb_catalog.proofs.CutRules as r

-- ---- tokens, and the same with their bytes

abbrev lexed : List ℕ → Option (ℕ × List Token) → Option Input
lexed line o = option_map (λ p. lexemes line p.1) o

behind_lexed : (line : List ℕ) (word : TokenKind) (ts : List Token) → r.behind word (lexemes line ts) ≡ lexed line (t.behind word ts)
behind_lexed line word [] = refl
behind_lexed line word (u ∷ ts) = by (same_kind u.kind word) (behind_lexed line word ts)
  where
    by : (b : Bool) → r.behind word (lexemes line ts) ≡ lexed line (t.behind word ts) → cond b (Some (lexemes line ts)) (r.behind word (lexemes line ts)) ≡ lexed line (cond b (Some (u.end, ts)) (t.behind word ts))
    by true rec = refl
    by false rec = rec

inside_lexed : (line : List ℕ) (ts : List Token) → r.inside (lexemes line ts) ≡ lexemes line (t.inside ts)
inside_lexed line [] = refl
inside_lexed line (u ∷ ts) = by (begins_clause u.kind) (inside_lexed line ts)
  where
    by : (b : Bool) → r.inside (lexemes line ts) ≡ lexemes line (t.inside ts)
        → cond b [] (record { kind = u.kind; text = slice_range line u.start u.end } ∷ r.inside (lexemes line ts)) ≡ lexemes line (cond b [] (u ∷ t.inside ts))
    by true rec = refl
    by false rec = ap (λ (x : Input). record { kind = u.kind; text = slice_range line u.start u.end } ∷ x) rec

split_lexed : (line : List ℕ) (o : Option (ℕ × List Token)) (x : Input) → lexed line o ≡ Some x → (p : ℕ × List Token) × (o ≡ Some p) × (lexemes line p.1 ≡ x)
split_lexed line None x e = absurd (none-some x e)
split_lexed line (Some p) x e = (p, refl, same_Some _ _ e)

none_lexed : (line : List ℕ) (o : Option (ℕ × List Token)) → lexed line o ≡ None → o ≡ None
none_lexed line None e = refl
none_lexed line (Some p) e = absurd (none-some _ (sym e))

-- ---- a clause

-- the text behind a word reads as what stands there
record TextBehind {A : Type 0} (line : List ℕ) (ts : List Token) (word : TokenKind) (P : A → Input → Input → Type 0) (x : A) : Type 0 where
  pub text : List ℕ
  pub cut : clause line ts word ≡ Some text
  pub reads : IsText P text x

-- what spells something begins with a word that leads
abbrev pub IsLed : {A : Type 0} → (A → Input → Input → Type 0) → Type 0
IsLed {A = A} P = (x : A) (ts rest : Input) → P x ts rest → (kind : TokenKind) × (kind_at ts ≡ Some kind) × (leads kind ≡ true)

pub event_led : IsLed IsEvent
unfolding kind_at
event_led e ts rest (c.event (g.name lt le) is d) = (k.Name, refl, refl)

pub query_led : IsLed (IsQuery max_depth)
unfolding kind_at
query_led q ts rest (g.selects token b d e f) = (k.Select, refl, refl)

change_led : IsLed IsChange
unfolding kind_at
change_led s ts rest (g.inserts_rows token b d e f) = (k.Insert, refl, refl)
change_led s ts rest (g.inserts_query token b d e) = (k.Insert, refl, refl)
change_led s ts rest (g.deletes token b d e) = (k.Delete, refl, refl)
change_led s ts rest (g.updates token b d e f) = (k.Update, refl, refl)

action_led : IsLed IsAction
unfolding kind_at
action_led a ts rest (g.changes {change = s} d) = change_led s ts rest d
action_led a ts rest (g.rolls_back token) = (k.Rollback, refl, refl)

first_led : (all : List Action) (ts rest : Input) → Separated k.Semicolon IsAction all ts rest → (kind : TokenKind) × (kind_at ts ≡ Some kind) × (leads kind ≡ true)
first_led all ts rest (g.items {x = x} {a = a} d more) = action_led x ts a d

pub actions_led : IsLed IsActions
actions_led all ts rest d = first_led all ts rest d.separated

text_behind : {A : Type 0} (P : A → Input → Input → Type 0) → IsLed P → (x : A) (word : TokenKind) → begins_clause word ≡ true → (line : List ℕ) (ts : List Token) → AreTokens 0 line ts → Behind word (P x) (lexemes line ts) → TextBehind line ts word P x
text_behind P led x word w line ts d h =
    let s = split_lexed line (t.behind word ts) h.0 (sym (behind_lexed line word ts) ∙ h.1) in
    let c = cut_out word w line ts d s.0 s.1 in
    let o = c.out in
    let read : r.inside h.0 ≡ lexemes line (t.inside s.0.1) = ap r.inside (sym s.2) ∙ inside_lexed line s.0.1 in
    let spells : P x (lexemes (slice_range line s.0.0 (end_of s.0.0 (t.inside s.0.1))) o.tokens) [] = subst (λ (i : Input). P x i []) (read ∙ sym o.same) h.2 in
    let first = led x _ _ spells in
    record {
      text = slice_range line s.0.0 (end_of s.0.0 (t.inside s.0.1));
      cut = ap (option_map (λ b. slice_range line b.0 (end_of b.0 (t.inside b.1)))) s.1;
      reads = record { spaced = behind_space 0 _ _ o.tokens first.0 o.are first.1 first.2 o.apart; tokens = o.tokens; are = o.are; spell = spells };
    }

-- where a copy of it is kept
kept : {A : Type 0} (P : A → Input → Input → Type 0) (x : A) (line : List ℕ) (ts : List Token) (word : TokenKind) (copy : Vec ℕ Global) → TextBehind line ts word P x → Some copy.items ≡ clause line ts word → IsText P copy.items x
kept P x line ts word copy h e = subst (λ (text : List ℕ). IsText P text x) (sym (same_Some _ _ (e ∙ h.cut))) h.reads

pub written : {A : Type 0} (P : A → Input → Input → Type 0) → IsLed P → (x : A) (word : TokenKind) → begins_clause word ≡ true → (line : List ℕ) (ts : List Token) (copy : Option (Vec ℕ Global)) (none : Vec ℕ Global) → AreTokens 0 line ts
    → option_map (λ v. v.items) copy ≡ clause line ts word → Behind word (P x) (lexemes line ts) → IsText P (unwrap_or copy none).items x
written P led x word w line ts (Some copy) none d e h = kept P x line ts word copy (text_behind P led x word w line ts d h) e
written P led x word w line ts None none d e h = let b = text_behind P led x word w line ts d h in absurd (none-some b.text (e ∙ b.cut))

pub where_there : {A : Type 0} (P : A → Input → Input → Type 0) → IsLed P → (o : Option A) (word : TokenKind) → begins_clause word ≡ true → (line : List ℕ) (ts : List Token) (copy : Option (Vec ℕ Global)) → AreTokens 0 line ts
    → option_map (λ v. v.items) copy ≡ clause line ts word → BehindIf word P o (lexemes line ts) → WhereThere (IsText P) copy o
where_there P led None word w line ts None d e h = tt
where_there P led None word w line ts (Some copy) d e h = none-some copy.items (sym (e ∙ ap (option_map (λ b. slice_range line b.0 (end_of b.0 (t.inside b.1)))) (none_lexed line (t.behind word ts) (sym (behind_lexed line word ts) ∙ h))))
where_there P led (Some x) word w line ts None d e h = let b = text_behind P led x word w line ts d h in none-some b.text (e ∙ b.cut)
where_there P led (Some x) word w line ts (Some copy) d e h = kept P x line ts word copy (text_behind P led x word w line ts d h) e

-- ---- of the line's command

its_tokens : (line : List ℕ) (ts : List Token) (c : Command) → AreTokens 0 line ts → command_of line ≡ Some c → IsCommand c (lexemes line ts)
its_tokens line ts c d e =
    let s = (command_of-grammar line c).1 e in
    subst (λ (us : List Token). IsCommand c (lexemes line us)) (one_cut line s.tokens ts s.are d) s.spell

-- a line that isn't made of tokens has no command
pub no_tokens : (line : List ℕ) (c : Command) → ((ts : List Token) → AreTokens 0 line ts → ⊥) → command_of line ≡ Some c → ⊥
no_tokens line c none e = let s = (command_of-grammar line c).1 e in none s.tokens s.are

pub rule_of : (line : List ℕ) (ts : List Token) (r : RuleText) → AreTokens 0 line ts → command_of line ≡ Some (create_rule r) → RuleStands r (lexemes line ts)
rule_of line ts r d e = created r (lexemes line ts) (its_tokens line ts (create_rule r) d e)

pub alteration_of : (line : List ℕ) (ts : List Token) (r : AlterationText) → AreTokens 0 line ts → command_of line ≡ Some (alter_rule r) → AlterationStands r (lexemes line ts)
alteration_of line ts r d e = altered r (lexemes line ts) (its_tokens line ts (alter_rule r) d e)
