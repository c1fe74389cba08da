-- Promise: processing of a set of eligible rules with at most n considerations.
use Rattle.std.specs.Prelude.{ℕ, zero, suc, Bool, List, [], ◌∷◌, Some, None}
use Rattle.sb_value.specs.declared.refusal.Verdict.{Verdict}
use Rattle.sb_value.specs.declared.refusal.Verdict.TheVariants as verdict
use Rattle.sb_process.specs.declared.Outcome.{Outcome}
use Rattle.sb_process.specs.declared.Outcome.TheVariants.{Done, ByRule, ByError, ByLimit}
use Rattle.sb_process.specs.Setting.{Setting, Progress, next_rule}
use Rattle.sb_process.specs.Consider.{was_false, was_true, was_refused, ran, rolled_back, refused, consider}

-- the outcome, the verdicts in order, and what stands afterwards, which is to be rolled back unless the outcome is Done
pub record Processing : Type 0 where
  pub outcome : Outcome
  pub trace : List (ℕ × Verdict)
  pub progress : Progress

-- processing that ends here
abbrev pub ended : Outcome → List (ℕ × Verdict) → Progress → Processing
ended outcome trace progress = record { outcome = outcome; trace = trace; progress = progress }

-- a verdict before the others
abbrev pub after_verdict : ℕ × Verdict → Processing → Processing
after_verdict v p = record p { trace = v ∷ p.trace }

-- none is triggered: done; no consideration is left: the limit; else the next rule is considered, and so on
abbrev pub process : ℕ → Setting → (ℕ → Bool) → Progress → Processing
process zero setting eligible progress =
    elim (next_rule setting eligible progress) [
      | None ↦ ended Done [] progress
      | Some rule ↦ ended ByLimit [] progress
    ]
process (suc n) setting eligible progress =
    elim (next_rule setting eligible progress) [
      | None ↦ ended Done [] progress
      | Some rule ↦ elim (consider setting rule progress) [
        | was_false p ↦ after_verdict (rule.id, verdict.False) (process n setting eligible p)
        | was_true ending ↦ elim ending [
          | ran p ↦ after_verdict (rule.id, verdict.True) (process n setting eligible p)
          | rolled_back ↦ ended (ByRule rule.id) ((rule.id, verdict.True) ∷ []) progress
          | refused refusal ↦ ended (ByError rule.id refusal) ((rule.id, verdict.Error) ∷ []) progress
        ]
        | was_refused refusal ↦ ended (ByError rule.id refusal) ((rule.id, verdict.Error) ∷ []) progress
      ]
    ]

-- ---- what stands afterwards

-- the transaction goes on, or all of it is taken back: its changes are undone and its locks released
pub data Standing : Type 0 where
  goes_on : Progress → Standing
  taken_back : Standing

-- each outcome but Done rolls back
abbrev pub stands_after : Outcome → Progress → Standing
stands_after Done progress = goes_on progress
stands_after (ByRule r) progress = taken_back
stands_after (ByError r refusal) progress = taken_back
stands_after ByLimit progress = taken_back

-- what stands after processing
abbrev pub standing : Processing → Standing
standing p = stands_after p.outcome p.progress
