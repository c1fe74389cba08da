-- What a budget adds: a refusal as too big, and else all is as without it.
use Rattle.std.proofs.Common.{◌≡◌, ◌⊎◌, inl, inr, ℕ, Bool, true, false, cond, nat_lt, ◌-◌, ◌*◌, List, length, Option, Some, None, Result, Ok, Err, ap}
use Rattle.sb_value.specs.declared.change.Change.{Change}
use Rattle.sb_value.specs.declared.refusal.Refusal.{Refusal}
use Rattle.sb_value.specs.declared.refusal.Refusal.TheVariants.{TooBig}
use Rattle.sb_value.specs.declared.value.Value.{Value}
use Rattle.sb_catalog.specs.declared.rule.Rule.{Rule}
use Rattle.sb_check.specs.Condition.{Query}
use Rattle.sb_check.specs.declared.tree.Statement.{Statement}
use Rattle.sb_eval.specs.Seen.{Seen, row_count}
use Rattle.sb_eval.specs.Statement.{select_rows, statement_changes}
use Rattle.sb_eval.specs.Target.{target}
use Rattle.sb_eval.specs.Work.{query_work, statement_work}
use Rattle.sb_process.specs.Budget.{with_work, change_work, within_budget}
use Rattle.sb_process.specs.Consider.{effect_seen, select_within}

module _ {A : Type 0} (work : ℕ) (next : Option ℕ → Result A Refusal) where
  -- what is given was given with some rest
  worked : (left : Option ℕ) (a : A) → with_work work left next ≡ Ok a → (rest : Option ℕ) × (next rest ≡ Ok a)
  worked None a e = (None, e)
  worked (Some left) a e = by (nat_lt left work) e
    where
      by : (b : Bool) → cond b (Err TooBig) (next (Some (left - work))) ≡ Ok a → (rest : Option ℕ) × (next rest ≡ Ok a)
      by true p = absurd (cc)
      by false p = (Some (left - work), p)

  -- what is refused was too big, or was refused with some rest
  work-refused : (left : Option ℕ) (f : Refusal) → with_work work left next ≡ Err f → (TooBig ≡ f) ⊎ ((rest : Option ℕ) × (next rest ≡ Err f))
  work-refused None f e = inr (None, e)
  work-refused (Some left) f e = by (nat_lt left work) e
    where
      by : (b : Bool) → cond b (Err TooBig) (next (Some (left - work))) ≡ Err f → (TooBig ≡ f) ⊎ ((rest : Option ℕ) × (next rest ≡ Err f))
      by true p = inl (cc)
      by false p = inr (Some (left - work), p)

  -- what holds of too big and with each rest holds
  pub with-each : (P : Result A Refusal → Type 0) (left : Option ℕ) → P (Err TooBig) → ((rest : Option ℕ) → P (next rest)) → P (with_work work left next)
  with-each P None big each = each None
  with-each P (Some left) big each = elim (nat_lt left work) as (λ b. P (cond b (Err TooBig) (next (Some (left - work))))) [ true ↦ big | false ↦ each (Some (left - work)) ]

-- ---- the changes of a statement

module _ (seen : Seen) (rules : List Rule) (statement : Statement) where
  abbrev each : ℕ
  each = change_work rules (target statement)

  abbrev priced : Option ℕ → Result (List Change × Option ℕ) Refusal
  priced rest = within_budget each rest (statement_changes seen statement)

  -- the changes of an effect are those of the statement
  pub effect-changes : (left : Option ℕ) (effect : List Change × Option ℕ) → effect_seen seen rules statement left ≡ Ok effect → statement_changes seen statement ≡ Ok effect.0
  effect-changes left effect e = let w = worked (statement_work seen statement) priced left effect e in by (statement_changes seen statement) w.0 w.1
    where
      by : (r : Result (List Change) Refusal) (rest : Option ℕ) → within_budget each rest r ≡ Ok effect → r ≡ Ok effect.0
      by (Err f) rest p = absurd (cc)
      by (Ok changes) rest p =
          let w = worked (length changes * each) (λ l. Ok (changes, l)) rest effect p in let same : (changes, w.0) ≡ effect = cc (w.1) in ap (λ x. Ok x.0) same

  -- where it is refused it is too big, or the statement is refused so
  pub effect-refused : (left : Option ℕ) (f : Refusal) → effect_seen seen rules statement left ≡ Err f → (TooBig ≡ f) ⊎ (statement_changes seen statement ≡ Err f)
  effect-refused left f e = whole (work-refused (statement_work seen statement) priced left f e)
    where
      by : (r : Result (List Change) Refusal) (rest : Option ℕ) → within_budget each rest r ≡ Err f → (TooBig ≡ f) ⊎ (r ≡ Err f)
      by (Err g) rest p = inr (cc)
      by (Ok changes) rest p = last (work-refused (length changes * each) (λ l. Ok (changes, l)) rest f p)
        where
          last : (TooBig ≡ f) ⊎ ((rest : Option ℕ) × (◌≡◌ {A = Result (List Change × Option ℕ) Refusal} (Ok (changes, rest)) (Err f))) → (TooBig ≡ f) ⊎ (◌≡◌ {A = Result (List Change) Refusal} (Ok changes) (Err f))
          last (inl q) = inl q
          last (inr q) = let no = q.1 in absurd (cc)

      whole : (TooBig ≡ f) ⊎ ((rest : Option ℕ) × (priced rest ≡ Err f)) → (TooBig ≡ f) ⊎ (statement_changes seen statement ≡ Err f)
      whole (inl q) = inl q
      whole (inr q) = by (statement_changes seen statement) q.0 q.1

-- ---- the rows of a query

pub rows-refused-within : (seen : Seen) (q : Query) (left : Option ℕ) (f : Refusal) → select_within seen q left ≡ Err f → (TooBig ≡ f) ⊎ (select_rows seen q ≡ Err f)
rows-refused-within seen q left f e = by (work-refused (query_work (row_count seen) q) (λ rest. select_rows seen q) left f e)
  where
    by : (TooBig ≡ f) ⊎ ((rest : Option ℕ) × (select_rows seen q ≡ Err f)) → (TooBig ≡ f) ⊎ (select_rows seen q ≡ Err f)
    by (inl p) = inl p
    by (inr p) = inr p.1
