-- A state in which no session has a transaction, with another catalog.
use Rattle.std.proofs.Common.{None, ◌≡◌, ◌∙◌, ℕ, false, List, [], ◌∷◌, ◌++◌, map, drop, refl, sym, ap, subst}
use Rattle.std.specs.Prelude.{IsTrue}
use Rattle.std.proofs.Math.Seq.{drop-nil}
use Rattle.sb_value.specs.declared.change.Change.{Change}
use Rattle.sb_value.specs.NetEffect.{is_triggered}
use Rattle.sb_rawlog.specs.Records.{Record}
use Rattle.sb_tables.specs.Held.{Held, entries, entry_of}
use Rattle.sb_index.specs.TableSets.{TableSets}
use Rattle.sb_catalog.specs.Definitions.{AreIndexed, AreOrdered}
use Rattle.sb_catalog.specs.declared.definitions.Definitions.{Definitions}
use Rattle.sb_catalog.specs.declared.rule.Rule.{Rule}
use Rattle.sb_process.specs.Made.{AreMade, without_room}
use Rattle.sb_process.specs.Represents.{AreCandidates}
use Rattle.sb_process.specs.Setting.{Progress, rule_is_triggered}
use Rattle.sb_process.specs.Transactions.{Kept}
use Rattle.sb_process.specs.Work.{CanRun}
use Rattle.sb_tenant.specs.declared.store.Store.{Store}
use Rattle.sb_tenant.specs.Defining.{IsAtRest, is_under_way}
use Rattle.sb_tenant.specs.Limits.{is_session}
use Rattle.sb_tenant.specs.Represents.{Holds, StandFor, phase_of, all_changes}
use Rattle.sb_tenant.specs.Logged.{who_of}
use Rattle.sb_tenant.proofs.Moves.{none-untriggered}
use Rattle.sb_tenant.specs.State.{State, Catalog, Session, closed, idle, active, session_at, changes_of, progress_of}

-- ---- no changes

quiet : (x : Session) → is_under_way (phase_of x) ≡ false → changes_of x ≡ []
quiet closed h = refl
quiet idle h = refl
quiet (active changes marks) h = absurd (cc h)

untriggered : (progress : Progress) (rule : Rule) → progress.changes ≡ [] → rule_is_triggered progress rule ≡ false
untriggered progress rule e =
    ap (λ (cs : List Change). is_triggered rule.triggers rule.table (drop (progress.marks rule.id) cs)) e
    ∙ ap (λ (cs : List Change). is_triggered rule.triggers rule.table cs) (drop-nil (progress.marks rule.id))

-- where there are no changes, no rule has to be a candidate
no_candidates : (kept : Kept) (s : ℕ) (progress : Progress) (rules : List Rule) → progress.changes ≡ [] → AreCandidates kept s progress rules
no_candidates kept s progress [] e = tt
no_candidates kept s progress (rule ∷ rules) e = ((λ a t. absurd (cc (sym (untriggered progress rule e) ∙ t))), no_candidates kept s progress rules e)

pub unroomed : (tables : List Held) → entries (map without_room tables) ≡ entries tables
unroomed [] = refl
unroomed (h ∷ tables) = λ i. entry_of h ∷ unroomed tables i

module _ (store : Store) (origin : List Held) (state : State) (rest : IsAtRest store.phases) (holds : Holds origin store state) where
  pub none : (s : ℕ) → IsTrue (is_session s) → changes_of (session_at state s) ≡ []
  none s i = quiet (session_at state s) (ap is_under_way (sym (holds.phases s i)) ∙ rest s i)

  pub no_changes : all_changes state ≡ []
  no_changes = λ i. none 0 refl i ++ (none 1 refl i ++ (none 2 refl i ++ (none 3 refl i ++ (none 4 refl i ++ (none 5 refl i ++ (none 6 refl i ++ (none 7 refl i ++ [])))))))

  pub made_at_rest : AreMade origin [] store.database.tables
  made_at_rest = subst (λ (cs : List Change). AreMade origin cs store.database.tables) no_changes holds.made

  -- the tables in memory are the committed ones
  pub entries_at_rest : entries store.database.tables ≡ state.catalog.tables
  entries_at_rest = sym (unroomed store.database.tables) ∙ ap entries made_at_rest.made ∙ unroomed origin ∙ holds.committed

-- ---- another catalog

-- the store with other tables and other definitions
abbrev pub with_parts : Store → List Held → Definitions → Store
with_parts store tables definitions = record store { database = record store.database { tables = tables }; definitions = definitions }

-- what a new catalog asks of tables, definitions and the index
pub record IsKept (origin tables : List Held) (definitions : Definitions) (tenant : ℕ) (index : List (List TableSets)) (catalog : Catalog) : Type 0 where
  pub committed : entries origin ≡ catalog.tables
  pub made : AreMade origin [] tables
  pub rules : definitions.rules ≡ catalog.rules
  pub ordered : AreOrdered definitions.order catalog.rules catalog.pairs
  pub rulesets : definitions.rulesets ≡ catalog.rulesets
  pub runnable : CanRun tables catalog.rules
  pub indexed : AreIndexed index tenant catalog.rules

pub stands_anew : (old : Store) (records : List Record) (clock : ℕ) (before after : List (List TableSets)) (state : State) (origin tables : List Held) (definitions : Definitions) (catalog : Catalog)
    → IsAtRest old.phases → StandFor old records clock before state → IsKept origin tables definitions old.database.id after catalog
    → StandFor (with_parts old tables definitions) records clock after (record state { catalog = catalog })
stands_anew old records clock before after state origin tables definitions catalog rest ((first, holds), agrees) kept = (
  (
    origin,
    record {
      committed = kept.committed;
      made = subst (λ (cs : List Change). AreMade origin cs tables) (sym (no_changes old first state rest holds)) kept.made;
      locked = holds.locked;
      exclusive = holds.exclusive;
      locks = holds.locks;
      phases = holds.phases;
      candidates = λ s i. no_candidates old.database.transactions s (progress_of None state s) catalog.rules (none old first state rest holds s i);
      rules = kept.rules;
      ordered = kept.ordered;
      rulesets = kept.rulesets;
      runnable = kept.runnable;
    },
  ),
  record {
    transactions = agrees.transactions;
    marks = agrees.marks;
    past = agrees.past;
    untriggered = λ s i. none-untriggered (who_of old.database.id s) old.database.transactions records (agrees.transactions s i ∙ none old first state rest holds s i) catalog.rules;
    indexed = kept.indexed;
  },
)
