-- The changes of a statement are of its target, for which it has asked.
use Rattle.std.proofs.Common.{◌≡◌, ◌∙◌, ℕ, ◌+◌, Bool, true, false, ◌&&◌, ◌||◌, cond, nat_eq, nat_lt, List, [], ◌∷◌, ◌++◌, Option, Some, None, Result, Ok, Err, refl, ap, subst, IsTrue}
use Rattle.std.specs.Prelude.{map, filter_map, option_map, option_and_then}
use Rattle.std.specs.List.{list_any}
use Rattle.std.proofs.lemmas.Bool.{eq-eqb}
use Rattle.sb_value.specs.declared.value.Value.{Value}
use Rattle.sb_value.specs.declared.change.Change.{Change}
use Rattle.sb_value.specs.declared.lock.LockMode.{LockMode}
use Rattle.sb_value.specs.declared.lock.LockMode.TheVariants.{Write}
use Rattle.sb_value.specs.declared.refusal.Refusal.{Refusal}
use Rattle.sb_value.specs.declared.refusal.Refusal.TheVariants.{TooBig, TooManyRows}
use Rattle.sb_value.specs.Locks.{Locks, same_mode, with_locks}
use Rattle.sb_check.specs.Mentions.{sources_of, query_sources, assignment_sources}
use Rattle.sb_check.specs.declared.tree.Assignment.{Assignment}
use Rattle.sb_check.specs.declared.tree.Source.{Source}
use Rattle.sb_check.specs.declared.tree.Statement.{Statement}
use Rattle.sb_check.specs.declared.tree.Statement.TheVariants.{InsertRows, InsertQuery, Delete, Update}
use Rattle.sb_eval.specs.Meaning.{both, each, rows_of}
use Rattle.sb_eval.specs.Seen.{Seen, rows_in}
use Rattle.sb_eval.specs.Statement.{row_limit, cost_limit, or_overflow, within_cost, within_rows, insert_changes, delete_change, update_change, update_of, found, assigned, scope_of, places_of, changes_by, rows_after, statement_cost, statement_changes, read_of, write_of, target_locks, statement_locks}
use Rattle.sb_eval.specs.Target.{target}
use Rattle.sb_process.specs.Represents.{AreLocked}

-- ---- changes of one table

abbrev pub AreOf : ℕ → List Change → Type 0
AreOf t [] = Unit {0}
AreOf t (c ∷ cs) = (c.table ≡ t) × AreOf t cs

-- where there are any
abbrev MayBeOf : ℕ → Option (List Change) → Type 0
MayBeOf t None = Unit {0}
MayBeOf t (Some cs) = AreOf t cs

abbrev IsOf : ℕ → Option Change → Type 0
IsOf t None = Unit {0}
IsOf t (Some c) = c.table ≡ t

module _ (seen : Seen) (t : ℕ) where
  inserts-of : (n : ℕ) (rows : List (List Value)) → AreOf t (insert_changes seen t n rows)
  inserts-of n [] = tt
  inserts-of n (row ∷ rows) = (refl, inserts-of (n + 1) rows)

  deletes-of : (rows : List (ℕ × List Value)) → AreOf t (map (delete_change seen t) rows)
  deletes-of [] = tt
  deletes-of (r ∷ rows) = (refl, deletes-of rows)

  query-of : (n : ℕ) (o : Option (List (List Value))) → MayBeOf t (option_map (insert_changes seen t n) o)
  query-of n None = tt
  query-of n (Some rows) = inserts-of n rows

  found-of : (o : Option (List (ℕ × List Value))) → MayBeOf t (option_map (map (delete_change seen t)) o)
  found-of None = tt
  found-of (Some rows) = deletes-of rows

  update-is-of : (columns : List Bool) (r : ℕ × List Value) (o : Option (List Value)) → IsOf t (option_map (update_change seen t columns r) o)
  update-is-of columns r None = tt
  update-is-of columns r (Some row) = refl

  joined-of : (o : Option Change) (os : Option (List Change)) → IsOf t o → MayBeOf t os → MayBeOf t (both (λ c cs. Some (c ∷ cs)) o os)
  joined-of None os h k = tt
  joined-of (Some c) None h k = tt
  joined-of (Some c) (Some cs) h k = (h, k)

  updates-of : (assignments : List Assignment) (rows : List (ℕ × List Value)) → MayBeOf t (each (update_of seen t assignments) rows)
  updates-of assignments [] = tt
  updates-of assignments (r ∷ rows) =
      joined-of (update_of seen t assignments r) (each (update_of seen t assignments) rows)
      (update-is-of (places_of assignments) r (assigned seen (scope_of r) assignments r.1)) (updates-of assignments rows)

  updated-of : (assignments : List Assignment) (o : Option (List (ℕ × List Value))) → MayBeOf t (option_and_then (each (update_of seen t assignments)) o)
  updated-of assignments None = tt
  updated-of assignments (Some rows) = updates-of assignments rows

changed-of : (seen : Seen) (statement : Statement) → MayBeOf (target statement) (changes_by seen statement)
changed-of seen (InsertRows t rows) = inserts-of seen t _ rows
changed-of seen (InsertQuery t q) = query-of seen t _ (rows_of (rows_in seen) q [])
changed-of seen (Delete t c) = found-of seen t (found seen t c)
changed-of seen (Update t assignments c) = updated-of seen t assignments (found seen t c)

abbrev GivesOf : ℕ → Result (List Change) Refusal → Type 0
GivesOf t (Ok cs) = AreOf t cs
GivesOf t (Err refusal) = Unit {0}

-- what is left within the limits is what is given
given-within : (t cost : ℕ) (count : List Change → ℕ) (o : Option (List Change)) → MayBeOf t o → GivesOf t (within_rows count (within_cost cost o))
given-within t cost count o h = by (nat_lt cost_limit cost) o h
  where
    in-rows : (b : Bool) (x : List Change) → AreOf t x → GivesOf t (cond b (Err TooManyRows) (Ok x))
    in-rows true x k = tt
    in-rows false x k = k

    by : (b : Bool) (o : Option (List Change)) → MayBeOf t o → GivesOf t (within_rows count (cond b (Err TooBig) (or_overflow o)))
    by true o k = tt
    by false None k = tt
    by false (Some x) k = in-rows (nat_lt row_limit (count x)) x k

pub of-target : (seen : Seen) (statement : Statement) (cs : List Change) → statement_changes seen statement ≡ Ok cs → AreOf (target statement) cs
of-target seen statement cs e =
    subst (GivesOf (target statement)) e
    (given-within (target statement) (statement_cost seen statement) (rows_after seen statement) (changes_by seen statement) (changed-of seen statement))

-- ---- the target is asked for

first-asked : (locks : Locks) (s t : ℕ) (sources : List Source) → IsTrue (with_locks locks s (target_locks t sources) s t Write)
first-asked locks s t sources =
    (λ i. locks s t Write || (eq-eqb s s refl i && ((eq-eqb t t refl i && true) || list_any (λ r. nat_eq r.0 t && same_mode r.1 Write) (map (write_of t) (filter_map read_of sources)))))
    ∙ or-true (locks s t Write)
  where
    or-true : (b : Bool) → (b || true) ≡ true
    or-true true = refl
    or-true false = refl

pub target-asked : (locks : Locks) (s : ℕ) (statement : Statement) → IsTrue (with_locks locks s (statement_locks statement) s (target statement) Write)
target-asked locks s (InsertRows t rows) = first-asked locks s t []
target-asked locks s (InsertQuery t q) = first-asked locks s t (query_sources q)
target-asked locks s (Delete t c) = first-asked locks s t (sources_of c)
target-asked locks s (Update t assignments c) = first-asked locks s t (assignment_sources assignments ++ sources_of c)

-- ---- what a session has changed stays locked

pub locked-more : (locks : Locks) (s : ℕ) (request : List (ℕ × LockMode)) (cs : List Change) → AreLocked locks s cs → AreLocked (with_locks locks s request) s cs
locked-more locks s request [] h = tt
locked-more locks s request (c ∷ cs) h =
    (ap (λ (b : Bool). b || (nat_eq s s && list_any (λ r. nat_eq r.0 c.table && same_mode r.1 Write) request)) h.0, locked-more locks s request cs h.1)

locked-of : (locks : Locks) (s t : ℕ) (cs : List Change) → IsTrue (locks s t Write) → AreOf t cs → AreLocked locks s cs
locked-of locks s t [] e h = tt
locked-of locks s t (c ∷ cs) e h = (ap (λ n. locks s n Write) h.0 ∙ e, locked-of locks s t cs e h.1)

pub locked-and : (locks : Locks) (s t : ℕ) (one more : List Change) → IsTrue (locks s t Write) → AreLocked locks s one → AreOf t more → AreLocked locks s (one ++ more)
locked-and locks s t [] more e h k = locked-of locks s t more e k
locked-and locks s t (c ∷ one) more e h k = (h.0, locked-and locks s t one more e h.1 k)
