-- Machine: what processing works on, and what it leaves.
use Rattle.std.specs.Prelude.{◌≡◌, ◌≤◌, ℕ, Bool, IsTrue, List, [], ◌∷◌, length, Option, Some, None}
use Rattle.sb_value.specs.declared.refusal.Verdict.{Verdict}
use Rattle.sb_check.specs.Condition.{Query}
use Rattle.sb_check.specs.declared.tree.Action.{Action}
use Rattle.sb_check.specs.declared.tree.Action.TheVariants as action
use Rattle.sb_tables.specs.Held.{Held}
use Rattle.sb_eval.specs.Statement.{query_locks, statement_locks}
use Rattle.sb_index.specs.TableSets.{TableSets}
use Rattle.sb_priority.specs.Ranks.{Ranks}
use Rattle.sb_rawlog.specs.Records.{Record}
use Rattle.sb_catalog.specs.declared.rule.Rule.{Rule}
use Rattle.sb_process.specs.declared.database.Database.{Database}
use Rattle.sb_process.specs.declared.Outcome.{Outcome}
use Rattle.sb_process.specs.declared.process.Rules.{Rules}
use Rattle.sb_catalog.specs.Definitions.{AreIndexed, AreOrdered}
use Rattle.sb_process.specs.Represents.{Represents, IsTakenBack}
use Rattle.sb_process.specs.Request.{AreThere}
use Rattle.sb_process.specs.Running.{ComesTo}
use Rattle.sb_process.specs.Setting.{Setting, Progress}
use Rattle.sb_process.specs.Process.{Processing, Standing, goes_on, taken_back, standing}

-- ---- rules that can run: the tables that they name are there, and they have 8 actions at most

abbrev pub IsConditionThere : List Held → Option Query → Type 0
IsConditionThere tables None = Unit {0}
IsConditionThere tables (Some q) = AreThere tables (query_locks q)

abbrev pub AreActionsThere : List Held → List Action → Type 0
AreActionsThere tables [] = Unit {0}
AreActionsThere tables (action.Rollback ∷ actions) = AreActionsThere tables actions
AreActionsThere tables (action.Change statement ∷ actions) = AreThere tables (statement_locks statement) × AreActionsThere tables actions

abbrev pub CanRunRule : List Held → Rule → Type 0
CanRunRule tables rule = IsConditionThere tables rule.condition × AreActionsThere tables rule.actions × (length rule.actions ≤ 8)

abbrev pub CanRun : List Held → List Rule → Type 0
CanRun tables [] = Unit {0}
CanRun tables (rule ∷ rules) = CanRunRule tables rule × CanRun tables rules

-- the eligible rules are active
abbrev pub AreActive : (ℕ → Bool) → List Rule → Type 0
AreActive eligible [] = Unit {0}
AreActive eligible (rule ∷ rules) = (IsTrue (eligible rule.id) → IsTrue rule.active) × AreActive eligible rules

-- ---- the work

-- a transaction, the rules, the index of the operations that trigger them, and their order
pub record IsWork (origin : List Held) (database : Database) (session : ℕ) (records : List Record) (clock : ℕ) (index : List (List TableSets)) (catalog : List Rule) (order : Ranks) (setting : Setting) (progress : Progress) : Type 0 where
  pub transaction : Represents origin database session records clock setting progress
  pub rules : setting.rules ≡ catalog
  pub indexed : AreIndexed index database.id catalog
  pub ordered : AreOrdered order catalog setting.pairs

-- there is some, with these rules
abbrev pub IsAtWork : Database → ℕ → List Record → ℕ → Rules → Type 0
IsAtWork database session records clock rules =
    (origin : List Held) × (setting : Setting) × (progress : Progress)
    × IsWork origin database session records clock rules.index.now rules.catalog.now rules.order.now setting progress

-- so much is said of each
abbrev pub EachWork : Database → ℕ → List Record → ℕ → Rules → (List Held → Setting → Progress → Type 0) → Type 0
EachWork database session records clock rules Says =
    (origin : List Held) (setting : Setting) (progress : Progress)
    → IsWork origin database session records clock rules.index.now rules.catalog.now rules.order.now setting progress
    → Says origin setting progress

-- each transaction goes on
abbrev pub GoesOn : Database → Database → ℕ → Rules → List Record → List Record → ℕ → ℕ → Type 0
GoesOn old new session rules before later clock time =
    EachWork old session before clock rules (λ origin setting progress. (after : Progress) × ComesTo origin new session later time setting progress after)

-- ---- what it leaves

-- the transaction goes on, or all of it is taken back
abbrev pub Stands : List Held → Database → Database → ℕ → List Record → ℕ → Setting → Progress → Standing → Type 0
Stands origin old new session records clock setting progress (goes_on after) = Represents origin new session records clock setting after
Stands origin old new session records clock setting progress taken_back = IsTakenBack origin old new session records setting progress

-- the outcome, the verdicts in order, and what stands, as they are meant
pub record Processes (origin : List Held) (old new : Database) (session : ℕ) (how : Outcome) (verdicts : List (ℕ × Verdict)) (records : List Record) (clock : ℕ) (setting : Setting) (progress : Progress) (meant : Processing) : Type 0 where
  pub outcome : how ≡ meant.outcome
  pub trace : verdicts ≡ meant.trace
  pub stands : Stands origin old new session records clock setting progress (standing meant)
