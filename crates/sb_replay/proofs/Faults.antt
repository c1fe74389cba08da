-- Why an input isn't replayed.
use Rattle.std.proofs.Common.{◌≡◌, ℕ, List, Option, Result, Ok, Err, IfErr, IfSome, OnErr, Vec, inl, inr, sym, subst}
use Rattle.std.specs.Global.{Global}
use Rattle.std.specs.Io.KnownBytes.{Consumes, Keeps}
use Rattle.sb_tenant.specs.declared.bound.Bound.{Bound}
use Rattle.sb_desk.specs.declared.stub.Stub.{Stub}
use Rattle.sb_replay.specs.declared.error.ReplayError.{ReplayError}
use Rattle.sb_replay.specs.declared.error.ReplayError.TheVariants.{ReadFault, WriteFault, BadLine, Attach, Finish, NoMemory}
use Rattle.sb_replay.specs.Scripts.{FailsToRead, HoldsScript}
use Rattle.sb_replay.specs.declared.error.ScriptError.{ScriptError}
use Rattle.sb_replay.specs.declared.error.ScriptError.TheVariants as script
use Rattle.sb_replay.specs.Parts.{AreAttended}
use Rattle.sb_replay.specs.Replay.{Fails, IsUnclosed, IsUnfinished, IsUnopened, IsUnplayed, unread_by}
use Rattle.sb_replay.specs.Sheets.{Sheet}

-- where writing says no more than that it failed
pub not_written : (result : Result (Unit {0}) ReplayError) (Q : ReplayError → Type 0) (M : Type 0)
    → IfErr result (λ e. e ≡ WriteFault) → OnErr result M → (M → Q WriteFault) → IfErr result Q
not_written (Ok u) Q M is refused tells = tt
not_written (Err e) Q M is refused tells = subst Q (sym is) (tells refused)

-- a session that wasn't opened, or one that wasn't closed well, wasn't played
pub unopened_unplayed : (tenants : ℕ) (e : ReplayError) → IsUnopened tenants e → IsUnplayed tenants e
unopened_unplayed tenants ReadFault h = absurd h
unopened_unplayed tenants WriteFault h = absurd h
unopened_unplayed tenants (BadLine n why) h = absurd h
unopened_unplayed tenants (Attach t s) h = h
unopened_unplayed tenants (Finish e) h = absurd h
unopened_unplayed tenants NoMemory h = h

pub unclosed_unplayed : (tenants : ℕ) (e : ReplayError) → IsUnclosed e → IsUnplayed tenants e
unclosed_unplayed tenants ReadFault h = absurd h
unclosed_unplayed tenants WriteFault h = absurd h
unclosed_unplayed tenants (BadLine n why) h = absurd h
unclosed_unplayed tenants (Attach t s) h = absurd h
unclosed_unplayed tenants (Finish e) h = h
unclosed_unplayed tenants NoMemory h = h

module _ {R W : Type 0} (fails : R → Type 0) (remaining : R → Option (List ℕ)) (refuses : W → Type 0) (contents : W → Option (List ℕ)) (tenants : ℕ) (bound : Bound)
    (reader reader' : R) (writer writer' : W) (keeps : Keeps (contents writer) (contents writer')) where
  -- why the input couldn't be read
  pub unread_fails : (e : ScriptError) (seen : List ℕ) → Consumes (remaining reader) (remaining reader') seen
      → FailsToRead fails remaining tenants seen reader' e → Fails fails remaining refuses contents tenants bound reader reader' writer writer' (unread_by e)
  unread_fails script.ReadFault seen took h = (seen, took, h, keeps)
  unread_fails (script.BadLine n why) seen took h = (seen, took, h.1, keeps)
  unread_fails script.NoMemory seen took h = keeps

  pub unplayed_fails : (e : ReplayError) → IsUnplayed tenants e → Fails fails remaining refuses contents tenants bound reader reader' writer writer' e
  unplayed_fails ReadFault h = absurd h
  unplayed_fails WriteFault h = absurd h
  unplayed_fails (BadLine n why) h = absurd h
  unplayed_fails (Attach t s) h = (h, keeps)
  unplayed_fails (Finish e) h = (inr h, keeps)
  unplayed_fails NoMemory h = keeps

  pub unreported_fails : (rows : List (Vec (Vec ℕ Global) Global)) (sheets : List Sheet) (stubs : List Stub) (e : ReplayError)
      → IfSome (remaining reader) (λ input. HoldsScript tenants input rows) → AreAttended rows sheets stubs
      → IsUnfinished tenants bound stubs sheets e → Fails fails remaining refuses contents tenants bound reader reader' writer writer' e
  unreported_fails rows sheets stubs ReadFault script attended h = absurd h
  unreported_fails rows sheets stubs WriteFault script attended h = absurd h
  unreported_fails rows sheets stubs (BadLine n why) script attended h = absurd h
  unreported_fails rows sheets stubs (Attach t s) script attended h = absurd h
  unreported_fails rows sheets stubs (Finish e) script attended h = (inl (rows, sheets, stubs, script, attended, h), keeps)
  unreported_fails rows sheets stubs NoMemory script attended h = keeps
