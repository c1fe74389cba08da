-- What a command that defines something leaves.
use Rattle.std.proofs.Common.{◌≡◌, ◌∙◌, ◌⊎◌, ℕ, ◌+◌, Bool, true, false, not, cond, nat_eq, List, [], ◌∷◌, ◌++◌, refl, sym, ap, subst, arith, inl, inr}
use Rattle.std.specs.Prelude.{None, Result, Ok, Err}
use Rattle.sb_tenant.specs.declared.bound.Bound.{Bound}
use Rattle.sb_value.specs.declared.refusal.Refusal.{Refusal}
use Rattle.sb_value.specs.declared.refusal.Refusal.TheVariants.{NoMemory}
use Rattle.sb_syntax.specs.Tree.{Command}
use Rattle.sb_rawlog.specs.Records.{Record}
use Rattle.sb_index.specs.TableSets.{TableSets}
use Rattle.sb_tables.specs.Held.{Held, without_table}
use Rattle.sb_catalog.specs.Definitions.{AreIndexed, OtherTenantsStay}
use Rattle.sb_process.specs.Made.{NumbersBelow}
use Rattle.sb_tenant.specs.declared.reply.Reply.{Reply}
use Rattle.sb_tenant.specs.declared.reply.Reply.TheVariants as reply
use Rattle.sb_tenant.specs.declared.store.Store.{Store}
use Rattle.sb_tenant.specs.Defining.{Defines, IsDone, defining}
use Rattle.sb_tenant.specs.Perform.{perform}
use Rattle.sb_tenant.specs.Represents.{StandFor}
use Rattle.sb_tenant.specs.Resolved.{Resolved}
use Rattle.sb_tenant.specs.State.{State, Catalog}
use Rattle.sb_tenant.specs.Step.{outcome_of}
use Rattle.sb_tenant.specs.Walk.{walk}

-- ---- next numbers

pub two_more : (n : ℕ) (tables : List Held) → NumbersBelow n tables → NumbersBelow (n + 2) tables
two_more n [] h = tt
two_more n (t ∷ tables) h = (omega (arith, h.0), two_more n tables h.1)

-- a new table begins at 1
pub begins_below : (n : ℕ) (tables : List Held) (new : Held) → new.stored.table.next ≡ 1 → NumbersBelow n tables → NumbersBelow (n + 2) (tables ++ new ∷ [])
begins_below n [] new one h = (omega (arith, one), tt)
begins_below n (t ∷ tables) new one h = (omega (arith, h.0), begins_below n tables new one h.1)

pub fewer_below : (n id : ℕ) (tables : List Held) → NumbersBelow n tables → NumbersBelow (n + 2) (without_table id tables)
fewer_below n id [] h = tt
fewer_below n id (t ∷ tables) h = by (nat_eq t.id id) (fewer_below n id tables h.1)
  where
    by : (b : Bool) → NumbersBelow (n + 2) (without_table id tables) → NumbersBelow (n + 2) (cond (not b) (t ∷ without_table id tables) (without_table id tables))
    by true rest = rest
    by false rest = (omega (arith, h.0), rest)

-- ---- refused, and done

-- what is meant, by what the walk gives
abbrev Meant : ℕ → Bound → State → ℕ → Result Resolved Refusal → State × Reply
Meant tenant bound state s walked = outcome_of tenant bound state s None walked

-- the index has the same active rules
reindexed : (store : Store) (records : List Record) (clock : ℕ) (before after : List (List TableSets)) (state : State)
    → (AreIndexed before store.database.id store.definitions.rules → AreIndexed after store.database.id store.definitions.rules)
    → StandFor store records clock before state → StandFor store records clock after state
reindexed store records clock before after state indexed ((origin, holds), agrees) =
    let there : AreIndexed before store.database.id store.definitions.rules = subst (AreIndexed before store.database.id) (sym holds.rules) agrees.indexed in
    ((origin, holds), record { transactions = agrees.transactions; marks = agrees.marks; past = agrees.past; untriggered = agrees.untriggered; indexed = subst (AreIndexed after store.database.id) holds.rules (indexed there) })

module _ (command : Command) where
  -- where nothing has changed, the walk refuses the command, or memory ran out
  pub refused : (store : Store) (before after : List (List TableSets)) (e : Refusal)
      → (AreIndexed before store.database.id store.definitions.rules → AreIndexed after store.database.id store.definitions.rules) → OtherTenantsStay store.database.id before after
      → ((records : List Record) (clock : ℕ) (state : State) → StandFor store records clock before state → (walk state.catalog command ≡ Err e) ⊎ (e ≡ NoMemory))
      → Defines store store before after command (Err e)
  refused store before after e indexed others why = record {
    done = λ records clock state tenant bound s h. by records clock state tenant bound s (reindexed store records clock before after state indexed h) (why records clock state h);
    id = refl;
    numbers = λ n. two_more n store.database.tables;
    others = others;
  }
    where
      by : (records : List Record) (clock : ℕ) (state : State) (tenant : ℕ) (bound : Bound) (s : ℕ) → StandFor store records clock after state → (walk state.catalog command ≡ Err e) ⊎ (e ≡ NoMemory)
          → IsDone store records clock after state (defining tenant bound state s command) (Err e)
      by records clock state tenant bound s h (inl w) =
          let P : Result Resolved Refusal → Type 0 = λ r. IsDone store records clock after state (Meant tenant bound state s r) (Err e) in
          subst P (sym w) (inl (refl, h))
      by records clock state tenant bound s h (inr m) = inr (ap (λ (r : Refusal). Err r) m, h)

  -- the same where the index isn't touched
  pub refused_here : (store : Store) (index : List (List TableSets)) (e : Refusal)
      → ((records : List Record) (clock : ℕ) (state : State) → StandFor store records clock index state → (walk state.catalog command ≡ Err e) ⊎ (e ≡ NoMemory))
      → Defines store store index index command (Err e)
  refused_here store index e why = refused store index index e (λ h. h) (λ n table operation id other. refl) why

  -- what the walk gives is performed, and the new catalog stands
  pub record IsPerformed (new : Store) (records : List Record) (clock : ℕ) (after : List (List TableSets)) (state : State) : Type 0 where
    pub resolved : Resolved
    pub catalog : Catalog
    pub walked : walk state.catalog command ≡ Ok resolved
    pub performed : (tenant : ℕ) (bound : Bound) (s : ℕ) → perform tenant bound state s resolved ≡ (record state { catalog = catalog }, reply.Ok)
    pub stands : StandFor new records clock after (record state { catalog = catalog })

  pub is_done : (new : Store) (records : List Record) (clock : ℕ) (before after : List (List TableSets)) (state : State) (tenant : ℕ) (bound : Bound) (s : ℕ) → IsPerformed new records clock after state
      → IsDone new records clock after state (defining tenant bound state s command) (Ok tt)
  is_done new records clock before after state tenant bound s p =
      let P : State × Reply → Type 0 = λ meant. IsDone new records clock after state meant (Ok tt) in
      subst P (sym (ap (Meant tenant bound state s) p.walked ∙ p.performed tenant bound s)) (inl (refl, p.stands))
