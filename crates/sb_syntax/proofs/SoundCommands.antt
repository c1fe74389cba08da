-- Soundness of changes, rules and commands.
use Rattle.std.proofs.Common.{◌≡◌, ◌≤◌, inl, inr, List, [], ◌∷◌, length, Option, Some, None, ap, subst}
use Rattle.std.proofs.lemmas.Option.{same_Some}
use Rattle.sb_value.specs.declared.value.ColumnType.{ColumnType}
use Rattle.sb_value.specs.declared.value.ColumnType.TheVariants as t
use Rattle.sb_value.specs.declared.value.ColumnDefinition.{ColumnDefinition}
use Rattle.sb_syntax.specs.declared.kind.TokenKind.{TokenKind}
use Rattle.sb_syntax.specs.declared.kind.TokenKind.TheVariants as k
use Rattle.sb_syntax.specs.Input.{Input, Is}
use Rattle.sb_syntax.specs.Tree as tree
use Rattle.sb_syntax.specs.Tree.{Name, Operand, Filter, Query, Assignment, Statement, Action, Trigger, RuleText, AlterationText, Command}
use Rattle.sb_syntax.specs.Grammar as g
use Rattle.sb_syntax.specs.Grammar.{IsName, IsLiteral, IsOperand, IsFilter, IsQuery, IsColumnType, IsDefinition, IsTuple, IsAssignment, IsChange, IsNames, IsTrigger, IsAction, IsIf, IsThen, IsListed, IsPhrase, IsRuleHead, IsRuleBody, IsRule, IsAlteration, IsLeadingCommand, Separated, IsCommand, max_depth, max_columns, max_actions}
use Rattle.sb_syntax.specs.Reading as r
use Rattle.sb_syntax.specs.Reading.{Reader, Joins, and_then, kind_at, sees, next, expect, bytes_of, ◌>>=◌, ◌>>◌, pure}
use Rattle.sb_syntax.proofs.TokenLaws.{two_steps, chosen, expect-is}
use Rattle.sb_syntax.proofs.Loops.{same_read, separated-sound, separated_to-sound}
use Rattle.sb_syntax.proofs.SoundLaws.{Sound, mapped-sound, name-sound, literal-sound}
use Rattle.sb_syntax.proofs.SoundQueries.{operand-sound, filter-sound, query-sound, inner-sound}

-- ---- changes

tuple-sound : Sound r.tuple IsTuple
unfolding r.tuple
tuple-sound y ts rest e =
    let values = r.separated k.Comma r.literal_value in
    let f = two_steps (expect k.LeftParen ts) (λ _. values >>= λ vs. expect k.RightParen >> pure vs) (y, rest) e in
    let s = two_steps (values f.1) (λ vs. expect k.RightParen >> pure vs) (y, rest) f.3 in
    let l = two_steps (expect k.RightParen s.1) (λ _. pure s.0) (y, rest) s.3 in
    same_read (λ z m. IsTuple z ts m) s.0 y l.1 rest l.3
    (g.tuple (expect-is k.LeftParen ts f.1 f.0 f.2) (separated-sound k.Comma IsLiteral r.literal_value literal-sound s.0 f.1 s.1 s.2) (expect-is k.RightParen s.1 l.1 l.0 l.2))

inserts_rows-sound : (n : Name) (ts x y z : Input) → Is k.Insert ts x → Is k.Into x y → IsName n y z → (c : Statement) (rest : Input) → r.inserts_rows n z ≡ Some (c, rest) → IsChange c ts rest
unfolding r.inserts_rows
inserts_rows-sound n ts x y z a b d c rest e =
    let tuples = r.separated k.Comma r.tuple in
    let s1 = two_steps (expect k.Values z) (λ _. tuples >>= λ vs. pure (tree.insert_rows n vs)) (c, rest) e in
    let s2 = two_steps (tuples s1.1) (λ vs. pure (tree.insert_rows n vs)) (c, rest) s1.3 in
    same_read (λ q m. IsChange q ts m) _ c s2.1 rest s2.3 (g.inserts_rows a b d (expect-is k.Values z s1.1 s1.0 s1.2) (separated-sound k.Comma IsTuple r.tuple tuple-sound s2.0 s1.1 s2.1 s2.2))

inserts_into-sound : (n : Name) (ts x y z : Input) → Is k.Insert ts x → Is k.Into x y → IsName n y z → (c : Statement) (rest : Input) → r.inserts_into n z ≡ Some (c, rest) → IsChange c ts rest
unfolding r.inserts_into
inserts_into-sound n ts x y z a b d c rest e = elim (chosen (sees k.Values z) _ _ (c, rest) e) [
  | inl p ↦ inserts_rows-sound n ts x y z a b d c rest p.1
  | inr p ↦ (let s = two_steps (r.query_to max_depth z) (λ q. pure (tree.insert_query n q)) (c, rest) p.1 in
      same_read (λ q m. IsChange q ts m) _ c s.1 rest s.3 (g.inserts_query a b d (query-sound max_depth s.0 z s.1 s.2)))
]

inserts-sound : Sound r.inserts IsChange
unfolding r.inserts
inserts-sound y ts rest e =
    let s1 = two_steps (expect k.Insert ts) (λ _. expect k.Into >> (r.name >>= r.inserts_into)) (y, rest) e in
    let s2 = two_steps (expect k.Into s1.1) (λ _. r.name >>= r.inserts_into) (y, rest) s1.3 in
    let s3 = two_steps (r.name s2.1) r.inserts_into (y, rest) s2.3 in
    inserts_into-sound s3.0 ts s1.1 s2.1 s3.1 (expect-is k.Insert ts s1.1 s1.0 s1.2) (expect-is k.Into s1.1 s2.1 s2.0 s2.2) (name-sound s3.0 s2.1 s3.1 s3.2) y rest s3.3

assignment-sound : Sound r.assignment IsAssignment
unfolding r.assignment
assignment-sound y ts rest e =
    let done = λ (n : Name) (s : Operand). pure {A = Assignment} (record { column = n; operand = s }) in
    let s1 = two_steps (r.name ts) (λ n. expect k.Equal >> (r.operand (r.inner_query max_depth) >>= λ s. done n s)) (y, rest) e in
    let s2 = two_steps (expect k.Equal s1.1) (λ _. r.operand (r.inner_query max_depth) >>= λ s. done s1.0 s) (y, rest) s1.3 in
    let s3 = two_steps (r.operand (r.inner_query max_depth) s2.1) (λ s. done s1.0 s) (y, rest) s2.3 in
    same_read (λ z m. IsAssignment z ts m) _ y s3.1 rest s3.3
    (g.assigns (name-sound s1.0 ts s1.1 s1.2) (expect-is k.Equal s1.1 s2.1 s2.0 s2.2) (operand-sound max_depth (r.inner_query max_depth) (inner-sound max_depth) s3.0 s2.1 s3.1 s3.2))

updates-sound : Sound r.updates IsChange
unfolding r.updates
updates-sound y ts rest e =
    let all = r.separated k.Comma r.assignment in
    let last = λ (n : Name) (xs : List Assignment). r.filter (r.inner_query max_depth) >>= λ f. pure (tree.update n xs f) in
    let s1 = two_steps (expect k.Update ts) (λ _. r.name >>= λ n. expect k.Set >> (all >>= λ xs. last n xs)) (y, rest) e in
    let s2 = two_steps (r.name s1.1) (λ n. expect k.Set >> (all >>= λ xs. last n xs)) (y, rest) s1.3 in
    let s3 = two_steps (expect k.Set s2.1) (λ _. all >>= λ xs. last s2.0 xs) (y, rest) s2.3 in
    let s4 = two_steps (all s3.1) (λ xs. last s2.0 xs) (y, rest) s3.3 in
    let s5 = two_steps (r.filter (r.inner_query max_depth) s4.1) (λ f. pure (tree.update s2.0 s4.0 f)) (y, rest) s4.3 in
    same_read (λ z m. IsChange z ts m) _ y s5.1 rest s5.3
    (g.updates (expect-is k.Update ts s1.1 s1.0 s1.2) (name-sound s2.0 s1.1 s2.1 s2.2) (expect-is k.Set s2.1 s3.1 s3.0 s3.2) (separated-sound k.Comma IsAssignment r.assignment assignment-sound s4.0 s3.1 s4.1 s4.2)
    (filter-sound max_depth (r.inner_query max_depth) (inner-sound max_depth) s5.0 s4.1 s5.1 s5.2))

deletes-sound : Sound r.deletes IsChange
unfolding r.deletes
deletes-sound y ts rest e =
    let s1 = two_steps (expect k.Delete ts) _ (y, rest) e in
    let s2 = two_steps (expect k.From s1.1) _ (y, rest) s1.3 in
    let s3 = two_steps (r.name s2.1) (λ n. r.filter (r.inner_query max_depth) >>= λ f. pure (tree.delete n f)) (y, rest) s2.3 in
    let s4 = two_steps (r.filter (r.inner_query max_depth) s3.1) (λ f. pure (tree.delete s3.0 f)) (y, rest) s3.3 in
    same_read (λ z m. IsChange z ts m) _ y s4.1 rest s4.3
    (g.deletes (expect-is k.Delete ts s1.1 s1.0 s1.2) (expect-is k.From s1.1 s2.1 s2.0 s2.2) (name-sound s3.0 s2.1 s3.1 s3.2) (filter-sound max_depth (r.inner_query max_depth) (inner-sound max_depth) s4.0 s3.1 s4.1 s4.2))

change_by-sound : (kind : Option TokenKind) → Sound (r.change_by kind) IsChange
change_by-sound (Some k.Insert) = inserts-sound
change_by-sound (Some k.Delete) = deletes-sound
change_by-sound (Some k.Update) = updates-sound
change_by-sound _ = λ y ts rest e. absurd (cc)

change-sound : Sound r.change IsChange
unfolding r.change
change-sound y ts rest e = change_by-sound (kind_at ts) y ts rest e

-- ---- rules

names-sound : Sound r.names IsNames
unfolding r.names
names-sound = separated-sound k.Comma IsName r.name name-sound

updated_of-sound : (ts mid : Input) → Is k.Updated ts mid → (y : Trigger) (rest : Input) → r.updated_of mid ≡ Some (y, rest) → IsTrigger y ts rest
unfolding r.updated_of
updated_of-sound ts mid is y rest e = elim (chosen (sees k.LeftParen mid) _ _ (y, rest) e) [
  | inl p ↦ (let s1 = two_steps (expect k.LeftParen mid) (λ _. r.names >>= λ ns. expect k.RightParen >> pure (tree.on_update_of ns)) (y, rest) p.1 in
      let s2 = two_steps (r.names s1.1) (λ ns. expect k.RightParen >> pure (tree.on_update_of ns)) (y, rest) s1.3 in
      let s3 = two_steps (expect k.RightParen s2.1) (λ _. pure (tree.on_update_of s2.0)) (y, rest) s2.3 in
      same_read (λ z m. IsTrigger z ts m) _ y s3.1 rest s3.3 (g.at_update_of is (expect-is k.LeftParen mid s1.1 s1.0 s1.2) (names-sound s2.0 s1.1 s2.1 s2.2) (expect-is k.RightParen s2.1 s3.1 s3.0 s3.2)))
  | inr p ↦ same_read (λ z m. IsTrigger z ts m) tree.on_update y mid rest p.1 (g.at_update is)
]

updated-sound : Sound r.updated IsTrigger
unfolding r.updated
updated-sound y ts rest e =
    let s = two_steps (expect k.Updated ts) (λ _. r.updated_of) (y, rest) e in
    updated_of-sound ts s.1 (expect-is k.Updated ts s.1 s.0 s.2) y rest s.3

word-sound : {A : Type 0} (P : A → Input → Input → Type 0) (kind : TokenKind) (x : A) → ((ts rest : Input) → Is kind ts rest → P x ts rest) → Sound (r.word kind x) P
unfolding r.word
word-sound P kind x is y ts rest e =
    let s = two_steps (expect kind ts) (λ _. pure x) (y, rest) e in
    same_read (λ z m. P z ts m) _ y s.1 rest s.3 (is ts s.1 (expect-is kind ts s.1 s.0 s.2))

trigger_by-sound : (kind : Option TokenKind) → Sound (r.trigger_by kind) IsTrigger
trigger_by-sound (Some k.Inserted) = word-sound IsTrigger k.Inserted tree.on_insert (λ _ _ d. g.at_insert d)
trigger_by-sound (Some k.Deleted) = word-sound IsTrigger k.Deleted tree.on_delete (λ _ _ d. g.at_delete d)
trigger_by-sound _ = updated-sound

trigger-sound : Sound r.trigger IsTrigger
unfolding r.trigger
trigger-sound y ts rest e = trigger_by-sound (kind_at ts) y ts rest e

if-sound : Sound r.condition_if IsIf
unfolding r.condition_if
if-sound y ts rest e = elim (chosen (sees k.If ts) _ _ (y, rest) e) [
  | inl p ↦ (let s = two_steps (expect k.If ts) (λ _. r.query_to max_depth >>= λ q. pure (Some q)) (y, rest) p.1 in
      let q = two_steps (r.query_to max_depth s.1) (λ q. pure (Some q)) (y, rest) s.3 in
      same_read (λ z m. IsIf z ts m) _ y q.1 rest q.3 (g.if_query (expect-is k.If ts s.1 s.0 s.2) (query-sound max_depth q.0 s.1 q.1 q.2)))
  | inr p ↦ same_read (λ z m. IsIf z ts m) None y ts rest p.1 g.always
]

action-sound : Sound r.action IsAction
unfolding r.action
action-sound y ts rest e = elim (chosen (sees k.Rollback ts) _ _ (y, rest) e) [
  | inl p ↦ word-sound IsAction k.Rollback tree.rolls_back (λ _ _ d. g.rolls_back d) y ts rest p.1
  | inr p ↦ mapped-sound tree.changes r.change IsChange IsAction (λ _ _ _ d. g.changes d) change-sound y ts rest p.1
]

abbrev IsActions : List Action → Input → Input → Type 0
IsActions all ts rest = Separated k.Semicolon IsAction all ts rest × (length all ≤ max_actions)

actions-sound : Sound r.actions IsActions
unfolding r.actions
actions-sound = separated_to-sound k.Semicolon IsAction 7 r.action action-sound

listed-sound : (kind : TokenKind) → Sound (r.listed kind) (IsListed kind)
unfolding r.listed
listed-sound kind y ts rest e = elim (chosen (sees kind ts) _ _ (y, rest) e) [
  | inl p ↦ (let s = two_steps (expect kind ts) (λ _. r.names) (y, rest) p.1 in g.listed (expect-is kind ts s.1 s.0 s.2) (names-sound y s.1 rest s.3))
  | inr p ↦ same_read (λ z m. IsListed kind z ts m) [] y ts rest p.1 g.not_listed
]

-- the word and the name that were read
after-sound : (kind : TokenKind) (n : Name) (ts rest : Input) → r.name_after kind ts ≡ Some (n, rest) → (x : Input) × Is kind ts x × IsName n x rest
unfolding r.name_after
after-sound kind n ts rest e =
    let s = two_steps (expect kind ts) (λ _. r.name) (n, rest) e in
    (s.1, expect-is kind ts s.1 s.0 s.2, name-sound n s.1 rest s.3)

abbrev HeadOf : r.RuleHead → Input → Input → Type 0
HeadOf h ts rest = IsRuleHead h.0 h.1 h.2 ts rest

rule_head-sound : (h : r.RuleHead) (ts mid rest : Input) → Is k.Create ts mid → r.rule_head mid ≡ Some (h, rest) → HeadOf h ts rest
unfolding r.rule_head
rule_head-sound h ts mid rest is e =
    let all = r.separated k.Comma r.trigger in
    let done = λ (n on : Name) (ts : List Trigger). pure {A = r.RuleHead} (n, on, ts) in
    let s1 = two_steps (r.name_after k.Rule mid) (λ n. r.name_after k.On >>= λ on. expect k.When >> (all >>= λ us. done n on us)) (h, rest) e in
    let s2 = two_steps (r.name_after k.On s1.1) (λ on. expect k.When >> (all >>= λ us. done s1.0 on us)) (h, rest) s1.3 in
    let s3 = two_steps (expect k.When s2.1) (λ _. all >>= λ us. done s1.0 s2.0 us) (h, rest) s2.3 in
    let s4 = two_steps (all s3.1) (λ us. done s1.0 s2.0 us) (h, rest) s3.3 in
    let n = after-sound k.Rule s1.0 mid s1.1 s1.2 in
    let on = after-sound k.On s2.0 s1.1 s2.1 s2.2 in
    same_read (λ z m. HeadOf z ts m) (s1.0, s2.0, s4.0) h s4.1 rest s4.3
    (g.rule_head (g.phrase is n.1 n.2) on.1 on.2 (expect-is k.When s2.1 s3.1 s3.0 s3.2) (separated-sound k.Comma IsTrigger r.trigger trigger-sound s4.0 s3.1 s4.1 s4.2))

rule_body-sound : (h : r.RuleHead) (ts mid : Input) → HeadOf h ts mid → (y : RuleText) (rest : Input) → r.rule_body h mid ≡ Some (y, rest) → IsRule y ts rest
unfolding r.rule_body
rule_body-sound h ts mid d y rest e =
    let tail = λ (q : Option Query) (steps : List Action). r.listed k.Precedes >>= λ before. r.listed k.Follows >>= λ after. pure (r.rule_of h q steps before after) in
    let s1 = two_steps (r.condition_if mid) (λ q. expect k.Then >> (r.actions >>= λ steps. tail q steps)) (y, rest) e in
    let s2 = two_steps (expect k.Then s1.1) (λ _. r.actions >>= λ steps. tail s1.0 steps) (y, rest) s1.3 in
    let s3 = two_steps (r.actions s2.1) (λ steps. tail s1.0 steps) (y, rest) s2.3 in
    let s4 = two_steps (r.listed k.Precedes s3.1) (λ before. r.listed k.Follows >>= λ after. pure (r.rule_of h s1.0 s3.0 before after)) (y, rest) s3.3 in
    let s5 = two_steps (r.listed k.Follows s4.1) (λ after. pure (r.rule_of h s1.0 s3.0 s4.0 after)) (y, rest) s4.3 in
    let steps = actions-sound s3.0 s2.1 s3.1 s3.2 in
    same_read (λ z m. IsRule z ts m) (r.rule_of h s1.0 s3.0 s4.0 s5.0) y s5.1 rest s5.3
    (g.rule d (g.rule_body (if-sound s1.0 mid s1.1 s1.2) (expect-is k.Then s1.1 s2.1 s2.0 s2.2) steps.0 steps.1 (listed-sound k.Precedes s4.0 s3.1 s4.1 s4.2) (listed-sound k.Follows s5.0 s4.1 s5.1 s5.2)))

rule-sound : (y : RuleText) (ts mid rest : Input) → Is k.Create ts mid → r.rule mid ≡ Some (y, rest) → IsRule y ts rest
unfolding r.rule
rule-sound y ts mid rest is e =
    let s = two_steps (r.rule_head mid) r.rule_body (y, rest) e in
    rule_body-sound s.0 ts s.1 (rule_head-sound s.0 ts mid s.1 is s.2) y rest s.3

then-sound : Sound r.actions_then IsThen
unfolding r.actions_then
then-sound y ts rest e = elim (chosen (sees k.Then ts) _ _ (y, rest) e) [
  | inl p ↦ (let s = two_steps (expect k.Then ts) (λ _. r.actions >>= λ all. pure (Some all)) (y, rest) p.1 in
      let all = two_steps (r.actions s.1) (λ all. pure (Some all)) (y, rest) s.3 in
      let d = actions-sound all.0 s.1 all.1 all.2 in
      same_read (λ z m. IsThen z ts m) _ y all.1 rest all.3 (g.then_actions (expect-is k.Then ts s.1 s.0 s.2) d.0 d.1))
  | inr p ↦ same_read (λ z m. IsThen z ts m) None y ts rest p.1 g.as_before
]

alteration-sound : (y : AlterationText) (ts mid rest : Input) → Is k.Alter ts mid → r.alteration mid ≡ Some (y, rest) → IsAlteration y ts rest
unfolding r.alteration
alteration-sound y ts mid rest is e =
    let last = λ (n : Name) (q : Option Query) (steps : Option (List Action)) (before after : List Name). r.listed k.NoPriority >>= λ apart. pure (r.alteration_of n q steps before after apart) in
    let lists = λ (n : Name) (q : Option Query) (steps : Option (List Action)). r.listed k.Precedes >>= λ before. r.listed k.Follows >>= λ after. last n q steps before after in
    let s1 = two_steps (r.name_after k.Rule mid) (λ n. r.condition_if >>= λ q. r.actions_then >>= λ steps. lists n q steps) (y, rest) e in
    let s2 = two_steps (r.condition_if s1.1) (λ q. r.actions_then >>= λ steps. lists s1.0 q steps) (y, rest) s1.3 in
    let s3 = two_steps (r.actions_then s2.1) (λ steps. lists s1.0 s2.0 steps) (y, rest) s2.3 in
    let s4 = two_steps (r.listed k.Precedes s3.1) (λ before. r.listed k.Follows >>= λ after. last s1.0 s2.0 s3.0 before after) (y, rest) s3.3 in
    let s5 = two_steps (r.listed k.Follows s4.1) (λ after. last s1.0 s2.0 s3.0 s4.0 after) (y, rest) s4.3 in
    let s6 = two_steps (r.listed k.NoPriority s5.1) (λ apart. pure (r.alteration_of s1.0 s2.0 s3.0 s4.0 s5.0 apart)) (y, rest) s5.3 in
    let n = after-sound k.Rule s1.0 mid s1.1 s1.2 in
    same_read (λ z m. IsAlteration z ts m) (r.alteration_of s1.0 s2.0 s3.0 s4.0 s5.0 s6.0) y s6.1 rest s6.3
    (g.alteration (g.phrase is n.1 n.2) (if-sound s2.0 s1.1 s2.1 s2.2) (then-sound s3.0 s2.1 s3.1 s3.2) (listed-sound k.Precedes s4.0 s3.1 s4.1 s4.2) (listed-sound k.Follows s5.0 s4.1 s5.1 s5.2) (listed-sound k.NoPriority s6.0 s5.1 s6.1 s6.2))

-- ---- commands

column_type-sound : Sound r.column_type IsColumnType
unfolding r.column_type
column_type-sound y ts rest e = elim (chosen (sees k.IntType ts) _ _ (y, rest) e) [
  | inl p ↦ (let s = two_steps (expect k.IntType ts) (λ _. pure t.Int) (y, rest) p.1 in
      same_read (λ z m. IsColumnType z ts m) _ y s.1 rest s.3 (g.int_type (expect-is k.IntType ts s.1 s.0 s.2)))
  | inr p ↦ (let s = two_steps (expect k.TextType ts) (λ _. pure t.Text) (y, rest) p.1 in
      same_read (λ z m. IsColumnType z ts m) _ y s.1 rest s.3 (g.text_type (expect-is k.TextType ts s.1 s.0 s.2)))
]

definition-sound : Sound r.definition IsDefinition
unfolding r.definition
definition-sound y ts rest e =
    let done = λ (n : Name) (u : ColumnType). pure {A = ColumnDefinition} (record { name = n; of = u }) in
    let s = two_steps (r.name ts) (λ n. r.column_type >>= λ u. done n u) (y, rest) e in
    let u = two_steps (r.column_type s.1) (λ u. done s.0 u) (y, rest) s.3 in
    same_read (λ z m. IsDefinition z ts m) _ y u.1 rest u.3 (g.definition (name-sound s.0 ts s.1 s.2) (column_type-sound u.0 s.1 u.1 u.2))

abbrev IsColumns : List ColumnDefinition → Input → Input → Type 0
IsColumns cs ts rest = Separated k.Comma IsDefinition cs ts rest × (length cs ≤ max_columns)

columns-sound : Sound r.columns IsColumns
unfolding r.columns
columns-sound = separated_to-sound k.Comma IsDefinition 7 r.definition definition-sound

-- behind `create`
creates_table-sound : (y : Command) (ts mid rest : Input) → Is k.Create ts mid → r.creates_table mid ≡ Some (y, rest) → IsLeadingCommand y ts rest
unfolding r.creates_table
creates_table-sound y ts mid rest is e =
    let last = λ (n : Name) (cs : List ColumnDefinition). expect k.RightParen >> pure (tree.create_table n cs) in
    let s1 = two_steps (expect k.Table mid) _ (y, rest) e in
    let s2 = two_steps (r.name s1.1) (λ n. expect k.LeftParen >> (r.columns >>= λ cs. last n cs)) (y, rest) s1.3 in
    let s3 = two_steps (expect k.LeftParen s2.1) (λ _. r.columns >>= λ cs. last s2.0 cs) (y, rest) s2.3 in
    let s4 = two_steps (r.columns s3.1) (λ cs. last s2.0 cs) (y, rest) s3.3 in
    let s5 = two_steps (expect k.RightParen s4.1) (λ _. pure (tree.create_table s2.0 s4.0)) (y, rest) s4.3 in
    let cs = columns-sound s4.0 s3.1 s4.1 s4.2 in
    same_read (λ z m. IsLeadingCommand z ts m) _ y s5.1 rest s5.3
    (g.creates_table (g.phrase is (expect-is k.Table mid s1.1 s1.0 s1.2) (name-sound s2.0 s1.1 s2.1 s2.2)) (expect-is k.LeftParen s2.1 s3.1 s3.0 s3.2) cs.0 cs.1 (expect-is k.RightParen s4.1 s5.1 s5.0 s5.2))

-- two words and a name, of which the first was read
phrase-sound : (first second : TokenKind) (f : Name → Command) → ((n : Name) (ts rest : Input) → IsPhrase first second n ts rest → IsLeadingCommand (f n) ts rest)
    → (y : Command) (ts mid rest : Input) → Is first ts mid → (r.name_after second >>= λ n. pure (f n)) mid ≡ Some (y, rest) → IsLeadingCommand y ts rest
phrase-sound first second f made y ts mid rest is e =
    let s = two_steps (r.name_after second mid) (λ n. pure (f n)) (y, rest) e in
    let d = after-sound second s.0 mid s.1 s.2 in
    same_read (λ z m. IsLeadingCommand z ts m) _ y s.1 rest s.3 (made s.0 ts s.1 (g.phrase is d.1 d.2))

-- what is read behind this first word
abbrev Behind : TokenKind → Reader Command → Type 0
Behind first p = (y : Command) (ts mid rest : Input) → Is first ts mid → p mid ≡ Some (y, rest) → IsLeadingCommand y ts rest

creates_rule-sound : Behind k.Create (r.rule >>= λ r. pure (tree.create_rule r))
creates_rule-sound y ts mid rest is e =
    let s = two_steps (r.rule mid) (λ r. pure (tree.create_rule r)) (y, rest) e in
    same_read (λ z m. IsLeadingCommand z ts m) _ y s.1 rest s.3 (g.creates_rule (rule-sound s.0 ts mid s.1 is s.2))

creates_by-sound : (kind : Option TokenKind) → Behind k.Create (r.creates_by kind)
creates_by-sound (Some k.Table) = creates_table-sound
creates_by-sound (Some k.Ruleset) = phrase-sound k.Create k.Ruleset tree.create_ruleset (λ _ _ _ d. g.creates_ruleset d)
creates_by-sound _ = creates_rule-sound

drops_by-sound : (kind : Option TokenKind) → Behind k.Drop (r.drops_by kind)
drops_by-sound (Some k.Table) = phrase-sound k.Drop k.Table tree.drop_table (λ _ _ _ d. g.drops_table d)
drops_by-sound (Some k.Rule) = phrase-sound k.Drop k.Rule tree.drop_rule (λ _ _ _ d. g.drops_rule d)
drops_by-sound _ = phrase-sound k.Drop k.Ruleset tree.drop_ruleset (λ _ _ _ d. g.drops_ruleset d)

process_rules-sound : Behind k.Process (r.word k.Rules tree.process_rules)
unfolding r.word
process_rules-sound y ts mid rest is e =
    let s = two_steps (expect k.Rules mid) (λ _. pure tree.process_rules) (y, rest) e in
    same_read (λ z m. IsLeadingCommand z ts m) _ y s.1 rest s.3 (g.processes is (expect-is k.Rules mid s.1 s.0 s.2))

processes_by-sound : (kind : Option TokenKind) → Behind k.Process (r.processes_by kind)
processes_by-sound (Some k.Rules) = process_rules-sound
processes_by-sound (Some k.Rule) = phrase-sound k.Process k.Rule tree.process_rule (λ _ _ _ d. g.processes_rule d)
processes_by-sound _ = phrase-sound k.Process k.Ruleset tree.process_ruleset (λ _ _ _ d. g.processes_ruleset d)

-- a first word, and what the next one chooses
behind-sound : (first : TokenKind) (by : Option TokenKind → Reader Command) → ((kind : Option TokenKind) → Behind first (by kind)) → Sound (expect first >> (λ ts. by (kind_at ts) ts)) IsLeadingCommand
behind-sound first by made y ts rest e =
    let s = two_steps (expect first ts) (λ _ mid. by (kind_at mid) mid) (y, rest) e in
    made (kind_at s.1) y ts s.1 rest (expect-is first ts s.1 s.0 s.2) s.3

-- a word, and a name behind another one
named-sound : (first second : TokenKind) (f : Name → Command) → ((n : Name) (ts rest : Input) → IsPhrase first second n ts rest → IsLeadingCommand (f n) ts rest) → Sound (expect first >> (r.name_after second >>= λ n. pure (f n))) IsLeadingCommand
named-sound first second f made = behind-sound first (λ _. r.name_after second >>= λ n. pure (f n)) (λ _. phrase-sound first second f made)

-- a word, and names behind it
names_behind-sound : (word : TokenKind) (f : List Name → Command) (ts mid : Input) → ((ns : List Name) (x rest : Input) → Is word mid x → IsNames ns x rest → IsLeadingCommand (f ns) ts rest)
    → (y : Command) (rest : Input) → (expect word >> (r.names >>= λ ns. pure (f ns))) mid ≡ Some (y, rest) → IsLeadingCommand y ts rest
names_behind-sound word f ts mid made y rest e =
    let s = two_steps (expect word mid) (λ _. r.names >>= λ ns. pure (f ns)) (y, rest) e in
    let ns = two_steps (r.names s.1) (λ ns. pure (f ns)) (y, rest) s.3 in
    same_read (λ z m. IsLeadingCommand z ts m) _ y ns.1 rest ns.3 (made ns.0 s.1 ns.1 (expect-is word mid s.1 s.0 s.2) (names-sound ns.0 s.1 ns.1 ns.2))

alters_rule-sound : Behind k.Alter (r.alteration >>= λ r. pure (tree.alter_rule r))
alters_rule-sound y ts mid rest is e =
    let s = two_steps (r.alteration mid) (λ r. pure (tree.alter_rule r)) (y, rest) e in
    same_read (λ z m. IsLeadingCommand z ts m) _ y s.1 rest s.3 (g.alters_rule (alteration-sound s.0 ts mid s.1 is s.2))

alters_ruleset-sound : Behind k.Alter r.alters_ruleset
unfolding r.alters_ruleset r.alters_from r.adds_rules r.removes_rules
alters_ruleset-sound y ts mid rest is e =
    let n = two_steps (r.name_after k.Ruleset mid) r.alters_from (y, rest) e in
    let d = after-sound k.Ruleset n.0 mid n.1 n.2 in
    let whole : IsPhrase k.Alter k.Ruleset n.0 ts n.1 = g.phrase is d.1 d.2 in
    elim (chosen (sees k.AddRules n.1) (r.adds_rules n.0 n.1) (r.removes_rules n.0 n.1) (y, rest) n.3) [
      | inl p ↦ names_behind-sound k.AddRules (tree.add_rules n.0) ts n.1 (λ _ _ _ is d. g.adds_rules whole is d) y rest p.1
      | inr p ↦ names_behind-sound k.DelRules (tree.del_rules n.0) ts n.1 (λ _ _ _ is d. g.removes_rules whole is d) y rest p.1
    ]

alters_by-sound : (kind : Option TokenKind) → Behind k.Alter (r.alters_by kind)
alters_by-sound (Some k.Rule) = alters_rule-sound
alters_by-sound _ = alters_ruleset-sound

-- by the first token
leading_command_by-sound : (kind : Option TokenKind) → Sound (r.leading_command_by kind) IsLeadingCommand
unfolding r.creates r.drops r.alters r.activates r.deactivates r.processes
leading_command_by-sound (Some k.Open) = word-sound IsLeadingCommand k.Open tree.open_session (λ _ _ d. g.opens d)
leading_command_by-sound (Some k.End) = word-sound IsLeadingCommand k.End tree.end_session (λ _ _ d. g.ends d)
leading_command_by-sound (Some k.Begin) = word-sound IsLeadingCommand k.Begin tree.begin (λ _ _ d. g.begins d)
leading_command_by-sound (Some k.Commit) = word-sound IsLeadingCommand k.Commit tree.commit (λ _ _ d. g.commits d)
leading_command_by-sound (Some k.Rollback) = word-sound IsLeadingCommand k.Rollback tree.rollback (λ _ _ d. g.rolls_back d)
leading_command_by-sound (Some k.Create) = behind-sound k.Create r.creates_by creates_by-sound
leading_command_by-sound (Some k.Drop) = behind-sound k.Drop r.drops_by drops_by-sound
leading_command_by-sound (Some k.Alter) = behind-sound k.Alter r.alters_by alters_by-sound
leading_command_by-sound (Some k.Activate) = named-sound k.Activate k.Rule tree.activate_rule (λ _ _ _ d. g.activates d)
leading_command_by-sound (Some k.Deactivate) = named-sound k.Deactivate k.Rule tree.deactivate_rule (λ _ _ _ d. g.deactivates d)
leading_command_by-sound (Some k.Process) = behind-sound k.Process r.processes_by processes_by-sound
leading_command_by-sound (Some k.Select) = mapped-sound tree.query (r.query_to max_depth) (IsQuery max_depth) IsLeadingCommand (λ _ _ _ d. g.queries d) (query-sound max_depth)
leading_command_by-sound _ = mapped-sound tree.change r.change IsChange IsLeadingCommand (λ _ _ _ d. g.changes d) change-sound

ended-sound : (s z : Command) (ts rest mid : Input) → IsLeadingCommand s ts mid → r.ended s mid ≡ Some (z, rest) → IsCommand z ts
ended-sound s z ts rest [] d e = let q = same_Some {A = Command × Input} _ _ e in subst (λ (x : Command). IsCommand x ts) (ap (λ (p : Command × Input). p.0) q) d
ended-sound s z ts rest (t ∷ more) d e = absurd (cc)

pub command-sound : (ts rest : Input) (s : Command) → r.command ts ≡ Some (s, rest) → IsCommand s ts
unfolding r.command r.leading_command
command-sound ts rest s e =
    let p = two_steps (r.leading_command_by (kind_at ts) ts) r.ended (s, rest) e in
    ended-sound p.0 s ts rest p.1 (leading_command_by-sound (kind_at ts) p.0 ts p.1 p.2) p.3
