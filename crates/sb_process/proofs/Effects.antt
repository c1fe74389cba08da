-- What a statement and a test leave of the budget, over what memory holds.
use Rattle.std.proofs.Common.{◌≡◌, ◌∙◌, ◌⊎◌, ℕ, Bool, List, Option, Result, Ok, Err, IfOk, IfErr, inl, inr, refl, sym, subst}
use Rattle.std.proofs.lemmas.Result.{IfOk-weaker, MatchResult-weaker}
use Rattle.sb_value.specs.declared.change.Change.{Change}
use Rattle.sb_value.specs.declared.net.Transition.{Transition}
use Rattle.sb_value.specs.declared.refusal.Refusal.{Refusal}
use Rattle.sb_value.specs.declared.refusal.Refusal.TheVariants.{NoMemory}
use Rattle.sb_catalog.specs.declared.rule.Rule.{Rule}
use Rattle.sb_check.specs.Condition.{Query}
use Rattle.sb_check.specs.declared.tree.Statement.{Statement}
use Rattle.sb_eval.specs.Seen.{Seen, row_count}
use Rattle.sb_eval.specs.Statement.{condition_rows, select_rows, statement_changes}
use Rattle.sb_eval.specs.Target.{target}
use Rattle.sb_eval.specs.Work.{query_work, statement_work}
use Rattle.sb_index.specs.TableSets.{TableSets}
use Rattle.sb_priority.specs.Ranks.{Ranks}
use Rattle.sb_rawlog.specs.Records.{Record}
use Rattle.sb_tables.specs.Held.{Held}
use Rattle.sb_process.specs.declared.database.Database.{Database}
use Rattle.sb_process.specs.Budget.{with_work, change_work, within_budget}
use Rattle.sb_process.specs.Consider.{effect_seen, statement_effect, test_rows, test_query, select_within}
use Rattle.sb_process.specs.PreparedChanges.{Changes}
use Rattle.sb_process.specs.Represents.{Represents, who_in}
use Rattle.sb_process.specs.Setting.{Setting, Progress, seen_with}
use Rattle.sb_process.specs.View.{seen_by}
use Rattle.sb_process.specs.Work.{IsWork}
use Rattle.sb_process.proofs.Budgets.{charged, too-much}
use Rattle.sb_process.proofs.Requests.{same_seen, with_left}

-- the effect is that of what is seen in memory, by the catalog's rules and with what is left there
pub effect-same : {origin : List Held} {d : Database} {session : ℕ} {records : List Record} {clock : ℕ} {index : List (List TableSets)} {catalog : List Rule} {order : Ranks} {setting : Setting} {progress : Progress} →
    IsWork origin d session records clock index catalog order setting progress → (tables : Transition) (statement : Statement) →
    statement_effect setting tables statement progress ≡ effect_seen (seen_by d.tables tables (who_in d session)) catalog statement d.left
effect-same {progress = progress} w tables statement = λ i. effect_seen (same_seen w.transaction tables progress refl i) (w.rules i) statement (sym w.transaction.left i)

-- ---- a statement within its budget

module _ (seen : Seen) (rules : List Rule) (statement : Statement) where
  abbrev within : Option ℕ → Result (List Change × Option ℕ) Refusal
  within rest = within_budget (change_work rules (target statement)) rest (statement_changes seen statement)

  -- enough is left for its work
  pub effect-left : (left rest : Option ℕ) → Ok rest ≡ with_work (statement_work seen statement) left Ok → effect_seen seen rules statement left ≡ within rest
  effect-left left rest e = charged (statement_work seen statement) within left rest (sym e)

  -- or too little
  pub effect-refused : (left : Option ℕ) (refusal : Refusal) → Err refusal ≡ with_work (statement_work seen statement) left Ok → effect_seen seen rules statement left ≡ Err refusal
  effect-refused left refusal e = too-much (statement_work seen statement) within left refusal (sym e)

module _ {X : Type 0} (result : Result X Refusal) where
  -- an answer to the same
  pub same-ok : (A : X → Type 0) (found : X → List Change × Option ℕ) {one other : Result (List Change × Option ℕ) Refusal} → one ≡ other → IfOk result (λ x. A x × (other ≡ Ok (found x))) → IfOk result (λ x. A x × (one ≡ Ok (found x)))
  same-ok A found {one} {other} same h = IfOk-weaker result (λ x. A x × (other ≡ Ok (found x))) (λ x. A x × (one ≡ Ok (found x))) (λ x p. (p.0, same ∙ p.1)) h

  pub same-err : {one other : Result (List Change × Option ℕ) Refusal} → one ≡ other → IfErr result (λ f. (other ≡ Err f) ⊎ (f ≡ NoMemory)) → IfErr result (λ f. (one ≡ Err f) ⊎ (f ≡ NoMemory))
  same-err {one} {other} same h = MatchResult-weaker result h (λ x p. p) by
    where
      by : (f : Refusal) → (other ≡ Err f) ⊎ (f ≡ NoMemory) → (one ≡ Err f) ⊎ (f ≡ NoMemory)
      by f (inl e) = inl (same ∙ e)
      by f (inr e) = inr e

  -- the changes are those of the statement
  pub priced-same : (items : X → List Change) (left : X → Option ℕ) {each price : ℕ} (rest : Option ℕ) {changes : List Change} {meant : Result (List Change) Refusal} → each ≡ price → meant ≡ Ok changes →
      IfOk result (λ x. (items x ≡ changes) × (within_budget price rest (Ok changes) ≡ Ok (changes, left x))) → IfOk result (λ x. (meant ≡ Ok (items x)) × (within_budget each rest meant ≡ Ok (items x, left x)))
  priced-same items left {each} {price} rest {changes} {meant} same e h =
      IfOk-weaker result (λ x. (items x ≡ changes) × (within_budget price rest (Ok changes) ≡ Ok (changes, left x))) (λ x. (meant ≡ Ok (items x)) × (within_budget each rest meant ≡ Ok (items x, left x)))
      (λ x p. (e ∙ (λ i. Ok (sym p.0 i)), (λ i. within_budget (same i) rest (e i)) ∙ p.1 ∙ (λ i. Ok (sym p.0 i, left x)))) h

  pub priced-refused : {each price : ℕ} (rest : Option ℕ) {changes : List Change} {meant : Result (List Change) Refusal} → each ≡ price → meant ≡ Ok changes →
      IfErr result (λ f. within_budget price rest (Ok changes) ≡ Err f) → IfErr result (λ f. (within_budget each rest meant ≡ Err f) ⊎ (f ≡ NoMemory))
  priced-refused rest same e h = MatchResult-weaker result h (λ x p. p) (λ f p. inl ((λ i. within_budget (same i) rest (e i)) ∙ p))

-- ---- the rows of a query

module _ (seen : Seen) (q : Query) where
  pub select-charged : (left rest : Option ℕ) → Ok rest ≡ with_work (query_work (row_count seen) q) left Ok → select_within seen q left ≡ select_rows seen q
  select-charged left rest e = charged (query_work (row_count seen) q) (λ r. select_rows seen q) left rest (sym e)

  pub select-refused : (left : Option ℕ) (refusal : Refusal) → Err refusal ≡ with_work (query_work (row_count seen) q) left Ok → select_within seen q left ≡ Err refusal
  select-refused left refusal e = too-much (query_work (row_count seen) q) (λ r. select_rows seen q) left refusal (sym e)

-- ---- a query as a test

module _ {origin : List Held} {d : Database} {session : ℕ} {records : List Record} {clock : ℕ} {setting : Setting} {progress : Progress} (r : Represents origin d session records clock setting progress) (tables : Transition) (q : Query) where
  abbrev seen : Seen
  seen = seen_by d.tables tables (who_in d session)

  abbrev next : Seen → Option ℕ → Result (Bool × Progress) Refusal
  next s left = test_rows (record progress { left = left }) (condition_rows s q)

  -- it is that of what is seen in memory, with what is left there
  in-memory : test_query (seen_with setting tables progress) q progress ≡ with_work (query_work (row_count seen) q) d.left (next seen)
  in-memory = λ i. let s = same_seen r tables progress refl i in with_work (query_work (row_count s) q) (sym r.left i) (next s)

  -- it is evaluated with what is left then
  pub test-charged : (rest : Option ℕ) → Ok rest ≡ with_work (query_work (row_count seen) q) d.left Ok → test_query (seen_with setting tables progress) q progress ≡ next seen rest
  test-charged rest e = in-memory ∙ charged (query_work (row_count seen) q) (next seen) d.left rest (sym e)

  -- too little is left
  pub test-refused : (refusal : Refusal) → Err refusal ≡ with_work (query_work (row_count seen) q) d.left Ok → test_query (seen_with setting tables progress) q progress ≡ Err refusal
  test-refused refusal e = in-memory ∙ too-much (query_work (row_count seen) q) (next seen) d.left refusal (sym e)

-- ---- the changes of a statement

module _ (origin : List Held) (d : Database) (session : ℕ) (changes : List Change) where
  -- with the changes made, the rest is left
  pub made-charged : (left : Option ℕ) (n : ℕ) (records : List Record) (clock : ℕ) (setting : Setting) (progress : Progress) {meant : Result (List Change × Option ℕ) Refusal} → meant ≡ Ok (changes, left) →
      Changes origin d session (Ok (changes, progress.left)) (Ok n) records clock setting progress → Changes origin (record d { left = left }) session meant (Ok n) records clock setting progress
  made-charged left n records clock setting progress e (inl h) =
      subst (λ (m : Result (List Change × Option ℕ) Refusal). Changes origin (record d { left = left }) session m (Ok n) records clock setting progress) (sym e) (inl (h.0, with_left h.1 left))
  made-charged left n records clock setting progress e (inr h) = let no = h.0 in absurd (cc)

  -- where they weren't made, memory ran out
  pub not-made : (refusal : Refusal) (records : List Record) (clock : ℕ) (setting : Setting) (progress : Progress) (meant : Result (List Change × Option ℕ) Refusal) →
      Changes origin d session (Ok (changes, progress.left)) (Err refusal) records clock setting progress → Changes origin d session meant (Err refusal) records clock setting progress
  not-made refusal records clock setting progress meant (inl h) = let no = h.0 in absurd (cc)
  not-made refusal records clock setting progress meant (inr h) = inr h
