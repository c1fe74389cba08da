-- Promise: the ranges of what is asked for.
use Rattle.std.specs.Prelude.{◌≤◌, IfSome, ⊤}
use Rattle.sb_words.specs.declared.invocation.Dumping.{Dumping}
use Rattle.sb_words.specs.declared.invocation.HostOptions.{HostOptions}
use Rattle.sb_words.specs.declared.invocation.Invocation.{Invocation}
use Rattle.sb_words.specs.declared.invocation.Invocation.TheVariants as invocation
use Rattle.sb_words.specs.declared.invocation.Run.{Run}
use Rattle.sb_words.specs.declared.invocation.ServerOptions.{ServerOptions}
use Rattle.sb_words.specs.declared.words.Asked.{Asked}
use Rattle.sb_words.specs.declared.words.Asked.TheVariants.{For}

abbrev pub AreRun : Run → Type 0
AreRun r = (1 ≤ r.tenants) × (r.tenants ≤ 256) × (1 ≤ r.bound) × (r.bound ≤ 1000)

abbrev pub AreDump : Dumping → Type 0
AreDump d = AreRun d.run × (d.tenant ≤ 255)

abbrev pub AreHost : HostOptions → Type 0
AreHost h = AreRun h.run × (1 ≤ h.cells) × (h.cells ≤ 16) × (1 ≤ h.workers) × (h.workers ≤ 16)

abbrev pub AreServer : ServerOptions → Type 0
AreServer s =
    AreHost s.hosting × (s.port ≤ 65535) × (s.connections ≤ 1000000) × (s.idle ≤ 86400) × (s.idle_transaction ≤ 86400)
    × (s.first_tenant ≤ 999999000) × (s.tenant_memory ≤ 1048576) × (1 ≤ s.segment) × (s.segment ≤ 65536) × IfSome s.status (λ port. port ≤ 65535) × (s.slow ≤ 86400000)

abbrev pub IsWithin : Invocation → Type 0
IsWithin (invocation.Run words) = AreRun words.run
IsWithin (invocation.Serve words) = AreServer words.options
IsWithin (invocation.Replay h) = AreHost h
IsWithin invocation.Parse = ⊤
IsWithin (invocation.Dump words) = AreDump words.dump
IsWithin (invocation.Compact words) = AreRun words.run
IsWithin (invocation.Check path) = ⊤
IsWithin invocation.Key = ⊤

abbrev pub AreWithin : Asked → Type 0
AreWithin (For i) = IsWithin i
AreWithin other = ⊤
