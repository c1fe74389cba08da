-- Machine: why a server ends early.
use Rattle.std.specs.Prelude.{ℕ, ◌≡◌, ◌⊎◌, Bool, false, List, Option, Err}
use Rattle.std.specs.List.{All}
use Rattle.std.specs.Io.KnownBytes.{Appends, Keeps}
use Rattle.sb_tenant.specs.declared.bound.Bound.{Bound}
use Rattle.sb_wire.specs.Stream.{MayFail}
use Rattle.sb_wire.specs.declared.fault.StreamError.TheVariants as stream
use Rattle.sb_host.specs.Finish.{Finishes}
use Rattle.sb_host.specs.declared.finish.FinishError.{FinishError}
use Rattle.sb_host.specs.Desk.{Stub}
use Rattle.sb_server.specs.Policies.{Policy, anyone, policy}
use Rattle.sb_server.specs.Renewals.{IsLeft}
use Rattle.sb_server.specs.declared.server.ServeError.{ServeError}
use Rattle.sb_monitor.specs.Listening.{FailsToListen, listening_line}
use Rattle.sb_monitor.specs.declared.listener.ListenError.{ListenError}
use Rattle.starhost.specs.Faults.{unfinished_as, unheard_as, unserved_as}
use Rattle.starhost.specs.declared.fault.ProgramFault.{ProgramFault}
use Rattle.starhost.specs.declared.fault.ProgramFault.TheVariants.{Stream}

module _ {W : Type 0} (refuses : W → Type 0) (contents : W → Option (List ℕ)) where
  -- the writer fails; or nothing is written, for this reason
  abbrev pub WritesNot : W → W → ProgramFault → Type 0 → Type 0
  WritesNot writer after why reason =
      ((why ≡ Stream stream.WriteFault) × MayFail refuses contents after) ⊎ (Keeps (contents writer) (contents after) × reason)

  -- The trails aren't told: the host wasn't finished with these receipts, or there was no memory for the line.
  abbrev pub FailsToTell : Bound → ℕ → ℕ → List Stub → W → W → ProgramFault → Type 0
  FailsToTell bound tenants first stubs writer after why =
      WritesNot writer after why
      ((why ≡ Stream stream.NoMemory) ⊎ ((e : FinishError) × Finishes bound tenants stubs (Err e) × (why ≡ unfinished_as first e)))

  -- So it is behind the last connection, with receipts that sessions left, all of them closed where tenants aren't renewed; or connections weren't served.
  abbrev pub FailsToServe : Policy → Bool → Bound → ℕ → ℕ → W → W → ProgramFault → Type 0
  FailsToServe p may_renew bound tenants first writer after why =
      (Keeps (contents writer) (contents after) × ((e : ServeError) × (why ≡ unserved_as e)))
      ⊎ ((stubs : List Stub) × All (IsLeft p may_renew) stubs × FailsToTell bound tenants first stubs writer after why)

  -- a server without keys ends so, or behind its first line
  abbrev pub EndsEarly : Bound → ℕ → ℕ → W → W → ProgramFault → Type 0
  EndsEarly bound tenants first writer after why =
      ((e : ListenError) × (why ≡ unheard_as e) × FailsToListen refuses contents writer after e)
      ⊎ ((port : ℕ) × (mid : W) × Appends (contents writer) (contents mid) (listening_line port)
      × FailsToServe (policy false anyone) false bound tenants first mid after why)
