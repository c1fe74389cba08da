-- Promise: what a session replies to a line, and with which lines it was called.
use Rattle.std.specs.Prelude.{ℕ, Bool, true, false, List}
use Rattle.sb_value.specs.declared.refusal.Refusal.{Refusal}
use Rattle.sb_value.specs.declared.value.Value.{Value}
use Rattle.sb_frontend.specs.declared.reply.Reply.{Reply}
use Rattle.sb_frontend.specs.declared.reply.Reply.TheVariants as code
use Rattle.sb_frontend.specs.Considerations.{Considered}

-- a reply without where it lies in memory
pub data Replied : Type 0 where
  Done : Replied
  Changed : (count : ℕ) → Replied
  Found : (rows : List (List Value)) → Replied
  Processed : (rules : List Considered) → Replied
  ByRule : (rule : List ℕ) (rules : List Considered) → Replied
  ByError : (rule : List ℕ) (error : Refusal) (rules : List Considered) → Replied
  ByLimit : (rules : List Considered) → Replied
  Refused : (refusal : Refusal) → Replied
  NotBegun : Replied

abbrev pub replied : Reply → Replied
replied code.Done = Done
replied (code.Changed count) = Changed count
replied (code.Found rows) = Found rows.now
replied (code.Processed rules) = Processed rules.now
replied (code.ByRule rule rules) = ByRule rule.now rules.now
replied (code.ByError rule error rules) = ByError rule.now error.now rules.now
replied (code.ByLimit rules) = ByLimit rules.now
replied (code.Refused refusal) = Refused refusal.now
replied code.NotBegun = NotBegun

-- the line did what it says
abbrev pub goes_well : Replied → Bool
goes_well Done = true
goes_well (Changed count) = true
goes_well (Found rows) = true
goes_well (Processed rules) = true
goes_well (ByRule rule rules) = false
goes_well (ByError rule error rules) = false
goes_well (ByLimit rules) = false
goes_well (Refused refusal) = false
goes_well NotBegun = false

-- a call: its line, its reply, and whether the session has a transaction behind it
pub record Exchange : Type 0 where
  pub line : List ℕ
  pub reply : Replied
  pub has : Bool

abbrev pub exchange : List ℕ → Replied → Bool → Exchange
exchange line reply has = record { line = line; reply = reply; has = has }
