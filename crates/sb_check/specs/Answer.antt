-- Machine: what a call answers, against what the walk gives.
use Rattle.std.specs.Prelude.{◌≡◌, Result, Ok, Err, ◌⊎◌}
use Rattle.sb_value.specs.declared.refusal.Refusal.{Refusal}
use Rattle.sb_value.specs.declared.refusal.Refusal.TheVariants as refusal
use Rattle.sb_check.specs.declared.fault.Reason.{Reason}
use Rattle.sb_check.specs.declared.fault.Reason.TheVariants as reason
use Rattle.sb_check.specs.declared.fault.CheckFault.{CheckFault}
use Rattle.sb_check.specs.declared.fault.CheckFault.TheVariants.{Refused, NoMemory}

-- a reason as a refusal
abbrev pub refusal_of : Reason → Refusal
refusal_of reason.NoTable = refusal.NoTable
refusal_of reason.TableExists = refusal.TableExists
refusal_of reason.NoColumn = refusal.NoColumn
refusal_of reason.BadType = refusal.BadType
refusal_of reason.Ambiguous = refusal.Ambiguous
refusal_of reason.WrongCount = refusal.WrongCount
refusal_of reason.BadTransition = refusal.BadTransition

-- a fault as a refusal
abbrev pub refused : CheckFault → Refusal
refused (Refused r) = refusal_of r
refused NoMemory = refusal.NoMemory

-- a part's answer, seen by a view, is the walk's, unless memory runs out
abbrev pub Gives : {X A : Type 0} → (X → A) → Result A Refusal → Result X CheckFault → Type 0
Gives view walk (Ok x) = walk ≡ Ok (view x)
Gives view walk (Err (Refused e)) = walk ≡ Err (refusal_of e)
Gives view walk (Err NoMemory) = Unit {0}

-- the answer of a part that asks for no memory is the walk's
abbrev pub Walks : {A : Type 0} → Result A Refusal → Result A Reason → Type 0
Walks walk (Ok a) = walk ≡ Ok a
Walks walk (Err e) = walk ≡ Err (refusal_of e)

-- a call's answer, seen by a view, is the walk's, or that memory ran out
abbrev pub Answers : {X A : Type 0} → (X → A) → Result A Refusal → Result X Refusal → Type 0
Answers view walk (Ok x) = walk ≡ Ok (view x)
Answers view walk (Err e) = (walk ≡ Err e) ⊎ (e ≡ refusal.NoMemory)

-- a part is refused by this, and not for want of memory
abbrev pub IsRefused : {X : Type 0} → Refusal → Result X CheckFault → Type 0
IsRefused e (Ok x) = ⊥
IsRefused e (Err (Refused r)) = refusal_of r ≡ e
IsRefused e (Err NoMemory) = ⊥

-- what the walk refuses is refused so, even where memory would run out
abbrev pub IsRefusedFirst : {A X : Type 0} → Result A Refusal → Result X CheckFault → Type 0
IsRefusedFirst walk result = (e : Refusal) → walk ≡ Err e → IsRefused e result
