-- Promise: the clauses of a rule as texts, and the trees that they read as.
use Rattle.std.specs.Prelude.{◌≡◌, ◌≤◌, ◌<◌, ℕ, Bool, true, ◌==◌, List, [], ◌++◌, codes, length, Option, Some, None, Vec, unwrap_or}
use Rattle.std.specs.Global.{Global}
use Rattle.sb_syntax.specs.declared.cursor.Token.{Token}
use Rattle.sb_syntax.specs.declared.kind.TokenKind.TheVariants as k
use Rattle.sb_syntax.specs.Cursor.{lexemes}
use Rattle.sb_syntax.specs.Grammar.{IsAction, IsName, IsQuery, IsTrigger, Separated, max_actions, max_depth}
use Rattle.sb_syntax.specs.Input.{Input, Is}
use Rattle.sb_syntax.specs.Lex.{AreTokens, IsToken, begins}
use Rattle.sb_syntax.specs.Tree.{Action, AlterationText, Name, Query, RuleText, Trigger}
use Rattle.sb_catalog.specs.declared.clauses.NewClauses.{NewClauses}
use Rattle.sb_catalog.specs.declared.clauses.RuleClauses.{RuleClauses}

abbrev pub is_space : ℕ → Bool
is_space b = b == 32

-- The text begins with a space. It is made of tokens and spaces, and all of its tokens spell x.
pub record IsText {A : Type 0} (Spells : A → Input → Input → Type 0) (text : List ℕ) (x : A) : Type 0 where
  pub spaced : begins is_space text ≡ true
  pub tokens : List Token
  pub are : AreTokens 0 text tokens
  pub spell : Spells x (lexemes text tokens) []

-- a rule's table and its triggers, as they stand behind `on`
abbrev pub Event : Type 0
Event = Name × List Trigger

pub data IsEvent : Event → Input → Input → Type 0 where
  event : {on : Name} {triggers : List Trigger} {ts x y rest : Input} → IsName on ts x → Is k.When x y → Separated k.Comma IsTrigger triggers y rest → IsEvent (on, triggers) ts rest

-- its actions, as they stand behind `then`
pub record IsActions (actions : List Action) (ts rest : Input) : Type 0 where
  pub separated : Separated k.Semicolon IsAction actions ts rest
  pub few : length actions ≤ max_actions

abbrev pub IsEventText : List ℕ → Event → Type 0
IsEventText = IsText IsEvent

abbrev pub IsConditionText : List ℕ → Query → Type 0
IsConditionText = IsText (IsQuery max_depth)

abbrev pub IsActionsText : List ℕ → List Action → Type 0
IsActionsText = IsText IsActions

-- there is a text exactly where there is such a part
abbrev pub WhereThere : {A : Type 0} → (List ℕ → A → Type 0) → Option (Vec ℕ Global) → Option A → Type 0
WhereThere Reads None None = Unit {0}
WhereThere Reads (Some text) (Some x) = Reads text.items x
WhereThere Reads text x = ⊥

-- the clauses read as the parts of a rule
pub record AreClauses (clauses : RuleClauses) (r : RuleText) : Type 0 where
  pub event : IsEventText clauses.event.items (r.table, r.triggers)
  pub condition : WhereThere IsConditionText clauses.condition r.condition
  pub actions : IsActionsText clauses.actions.items r.actions

-- the same of the parts that are written anew
pub record AreNewClauses (clauses : NewClauses) (r : AlterationText) : Type 0 where
  pub condition : WhereThere IsConditionText clauses.condition r.condition
  pub actions : WhereThere IsActionsText clauses.actions r.actions

-- what is written, or else what was before
abbrev pub written_or : {A : Type 0} → Option A → Option A → Option A
written_or None before = before
written_or (Some new) before = Some new

-- the clauses with what is written anew
abbrev pub altered : NewClauses → RuleClauses → RuleClauses
altered new old = record old { condition = written_or new.condition old.condition; actions = unwrap_or new.actions old.actions }

-- ---- lines that are made of them

-- a text is a rule's name
pub record IsNameText (name : List ℕ) : Type 0 where
  pub word : IsToken k.Name name []
  pub some : 0 < length name
  pub short : length name ≤ 32

-- a condition behind `if`, if there is one
abbrev pub if_text : Option (Vec ℕ Global) → List ℕ
if_text None = []
if_text (Some text) = codes " if" ++ text.items

-- the line that creates a rule of these clauses
abbrev pub create_line : List ℕ → RuleClauses → List ℕ
create_line name clauses = codes "create rule " ++ (name ++ (codes " on" ++ (clauses.event.items ++ (if_text clauses.condition ++ (codes " then" ++ clauses.actions.items)))))

-- the lines that give it another condition or other actions
abbrev pub if_line : List ℕ → List ℕ → List ℕ
if_line name text = codes "alter rule " ++ (name ++ (codes " if" ++ text))

abbrev pub then_line : List ℕ → List ℕ → List ℕ
then_line name text = codes "alter rule " ++ (name ++ (codes " then" ++ text))

-- the rule of that name, without others that it precedes or follows
abbrev pub alone : List ℕ → RuleText → RuleText
alone name r = record { name = name; table = r.table; triggers = r.triggers; condition = r.condition; actions = r.actions; precedes = []; follows = [] }

-- a new condition or new actions of it
abbrev pub new_condition : List ℕ → Query → AlterationText
new_condition name q = record { name = name; condition = Some q; actions = None; precedes = []; follows = []; nopriority = [] }

abbrev pub new_actions : List ℕ → List Action → AlterationText
new_actions name actions = record { name = name; condition = None; actions = Some actions; precedes = []; follows = []; nopriority = [] }
