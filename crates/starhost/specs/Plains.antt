-- Machine: how a server ends that is asked for by numbers alone.
use Rattle.std.specs.Prelude.{ℕ, ◌≡◌, ◌⊎◌, ◌++◌, false, true, List, Option, None, Result, Ok, Err, is_ok}
use Rattle.sb_host.specs.Desk.{Stub}
use Rattle.sb_monitor.specs.Listening.{FailsToListen, TellsPort}
use Rattle.sb_monitor.specs.declared.listener.ListenError.{ListenError}
use Rattle.sb_server.specs.Policies.{Policy}
use Rattle.sb_server.specs.Renewals.{AreLeft}
use Rattle.sb_server.specs.declared.server.ServeError.{ServeError}
use Rattle.sb_words.specs.declared.invocation.Origin.TheVariants.{Fresh}
use Rattle.sb_words.specs.declared.invocation.ServeWords.{ServeWords}
use Rattle.sb_words.specs.declared.renew_policy.RenewPolicy.TheVariants.{Never}
use Rattle.starhost.specs.Faults.{unheard_as, unserved_as}
use Rattle.starhost.specs.declared.fault.ProgramFault.{ProgramFault}
use Rattle.starhost.specs.declared.fault.ProgramFault.TheVariants.{Stream}
use Rattle.sb_wire.specs.declared.fault.StreamError.TheVariants as stream
use Rattle.starhost.specs.declared.server_end.ServerEnd.{ServerEnd}
use Rattle.starhost.specs.declared.terms.Plan.{Plan}

-- a server of new tenants, without files, keys and status pages, that renews no tenant
abbrev pub IsPlainServer : ServeWords → Plan → Type 0
IsPlainServer words plan = (words.origin ≡ Fresh) × (words.dump_to ≡ None) × (words.keys ≡ None) × (plan.status ≡ None) × (plan.renew ≡ Never)

-- connections weren't served
abbrev pub IsUnserved : ProgramFault → Type 0
IsUnserved why = (e : ServeError) × (why ≡ unserved_as e)

-- sessions that were closed left all receipts, and no file is missing
abbrev pub LeavesAll : Policy → ServerEnd → Type 0
LeavesAll p end = AreLeft p false end.stubs × (is_ok end.saved ≡ true)

-- a server ends with receipts that it had before in front of those that were left, or there was no memory for them; where it didn't serve, nothing is added
abbrev pub HasEarlier : List Stub → Result ServerEnd ProgramFault → Result ServerEnd ProgramFault → Type 0
HasEarlier earlier (Ok left) (Ok end) = (end.stubs.items ≡ earlier ++ left.stubs.items) × (end.saved ≡ left.saved)
HasEarlier earlier (Ok left) (Err why) = why ≡ Stream stream.NoMemory
HasEarlier earlier (Err own) ended = ended ≡ Err own

-- connections are served so, or aren't
abbrev pub ServesPlainly : Policy → Result ServerEnd ProgramFault → Type 0
ServesPlainly p (Ok end) = LeavesAll p end
ServesPlainly p (Err why) = IsUnserved why

module _ {W : Type 0} (refuses : W → Type 0) (contents : W → Option (List ℕ)) where
  -- nothing listens
  abbrev pub IsUnheard : W → W → ProgramFault → Type 0
  IsUnheard writer after why = (e : ListenError) × (why ≡ unheard_as e) × FailsToListen refuses contents writer after e

  -- and so is a server that tells its port first; or it doesn't listen
  abbrev pub EndsPlainly : Policy → W → W → Result ServerEnd ProgramFault → Type 0
  EndsPlainly p writer after (Ok end) = LeavesAll p end
  EndsPlainly p writer after (Err why) =
      IsUnheard writer after why ⊎ (TellsPort (contents writer) (contents after) × IsUnserved why)
