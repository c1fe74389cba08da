-- Machine: what a call answers, against the rows or the changes that are meant, or the refusal.
use Rattle.std.specs.Prelude.{◌≡◌, Result, Ok, Err}
use Rattle.sb_value.specs.declared.refusal.Refusal.{Refusal}
use Rattle.sb_value.specs.declared.refusal.Refusal.TheVariants as refusal
use Rattle.sb_eval.specs.declared.stop.Stop.{Stop}
use Rattle.sb_eval.specs.declared.stop.Stop.TheVariants as stop
use Rattle.sb_eval.specs.declared.error.EvalError.{EvalError}
use Rattle.sb_eval.specs.declared.error.EvalError.TheVariants.{TooBig, Overflow, TooManyRows, NoMemory}

-- the answer, seen by a view, is what is meant, unless memory runs out
abbrev pub Answers : {X A : Type 0} → (X → A) → Result A Refusal → Result X EvalError → Type 0
Answers view meant (Ok x) = meant ≡ Ok (view x)
Answers view meant (Err TooBig) = meant ≡ Err refusal.TooBig
Answers view meant (Err Overflow) = meant ≡ Err refusal.Overflow
Answers view meant (Err TooManyRows) = meant ≡ Err refusal.TooManyRows
Answers view meant (Err NoMemory) = Unit {0}

-- why it stops, as an error
abbrev pub error_of : Stop → EvalError
error_of stop.NoValue = Overflow
error_of stop.NoMemory = NoMemory

-- f of what is given, or the refusal
abbrev pub with_given : {A B : Type 0} → (A → B) → Result A Refusal → Result B Refusal
with_given f (Ok a) = Ok (f a)
with_given f (Err e) = Err e
