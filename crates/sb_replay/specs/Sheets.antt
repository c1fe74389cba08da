-- Promise: a sheet: what a session is still to be called with, and what it was answered.
use Rattle.std.specs.Prelude.{◌≡◌, ℕ, ◌||◌, Bool, false, List, [], ◌∷◌, ◌++◌, map, Option, Some, None, Result, Ok, Err, Vec}
use Rattle.std.specs.Global.{Global}
use Rattle.sb_tenant.specs.declared.reply.Answer.{Answer}
use Rattle.sb_desk.specs.declared.desk.CallError.{CallError}
use Rattle.sb_wire.specs.Output.{prefixed}
use Rattle.sb_replay.specs.Sessions.{lacks_number, told_lines, told_text}

pub record Sheet : Type 0 where
  pub tenant : ℕ
  pub number : ℕ
  pub left : List (List ℕ)
  pub text : List ℕ
  pub is_full : Bool

abbrev pub lines_of : List (Vec ℕ Global) → List (List ℕ)
lines_of commands = map (λ c. c.items) commands

-- before the first call
abbrev pub fresh : ℕ → ℕ → List (List ℕ) → Sheet
fresh t s commands = record { tenant = t; number = s; left = commands; text = []; is_full = false }

-- with one command more, the next
abbrev pub with_next : List ℕ → Sheet → Sheet
with_next line sheet = record sheet { left = line ∷ sheet.left }

-- the next command is taken, if there is one
abbrev pub Gives : Sheet → Option (Vec ℕ Global) → Sheet → Type 0
Gives old None new = (old.left ≡ []) × (new ≡ old)
Gives old (Some line) new = old ≡ with_next line.items new

-- a text and what a call was answered behind it, with this prefix; and whether that has no number
abbrev pub TellsGiven : List ℕ → List ℕ → Result Answer CallError → List ℕ → Bool → Type 0
TellsGiven prefix old given new is_full = (new ≡ old ++ prefixed prefix (told_lines given)) × (is_full ≡ lacks_number given)

-- the same of a call with this result, whose session has this newest answer
abbrev pub TellsText : List ℕ → List ℕ → Result (Unit {0}) CallError → Option Answer → List ℕ → Bool → Type 0
TellsText prefix old (Ok _) None new is_full = (new ≡ old) × (is_full ≡ false)
TellsText prefix old (Ok _) (Some answer) new is_full = TellsGiven prefix old (Ok answer) new is_full
TellsText prefix old (Err e) last new is_full = TellsGiven prefix old (Err e) new is_full

-- it tells what a call was answered
abbrev pub telling : Sheet → Result Answer CallError → Sheet
telling sheet given = record sheet {
  text = sheet.text ++ told_text sheet.tenant sheet.number given;
  is_full = sheet.is_full || lacks_number given;
}

-- that of a call with this result, whose session has this newest answer
abbrev pub Tells : Sheet → Result (Unit {0}) CallError → Option Answer → Sheet → Type 0
Tells old (Ok _) None new = new ≡ old
Tells old (Ok _) (Some answer) new = new ≡ telling old (Ok answer)
Tells old (Err e) last new = new ≡ telling old (Err e)

-- the texts of all
abbrev pub texts_of : List Sheet → List (List ℕ)
texts_of sheets = map (λ sheet. sheet.text) sheets
