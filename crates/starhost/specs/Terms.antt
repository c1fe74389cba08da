-- Promise: what a server's words say of it.
use Rattle.std.specs.Prelude.{◌≡◌, ◌<◌, ◌*◌, ℕ, [], ◌∷◌, Option, Some, None, ⊤}
use Rattle.std.specs.Duration.{as_nanos}
use Rattle.std.specs.declared.time.Duration.{Duration}
use Rattle.std.specs.Net.Addr.{ipv4_octets}
use Rattle.std.specs.Net.Socket.{socket_ip, socket_port}
use Rattle.std.specs.declared.net.ipv4_addr.Ipv4Addr.{Ipv4Addr}
use Rattle.std.specs.declared.net.ip_addr.IpAddr.TheVariants.{V4}
use Rattle.std.specs.declared.net.socket_addr.SocketAddr.{SocketAddr}
use Rattle.sb_backup.specs.Bounds.{bound_of}
use Rattle.sb_server.specs.declared.server.Terms.{Terms}
use Rattle.sb_words.specs.declared.invocation.ServerOptions.{ServerOptions}
use Rattle.starhost.specs.declared.terms.Plan.{Plan}

-- this port of 127.0.0.1
abbrev pub IsHere : ℕ → SocketAddr → Type 0
IsHere port address = (ip : Ipv4Addr) × (socket_ip address ≡ V4 ip) × (ipv4_octets ip ≡ 127 ∷ 0 ∷ 0 ∷ 1 ∷ []) × (socket_port address ≡ port)

-- so many seconds, or no end where that is 0
abbrev pub IsSeconds : ℕ → Option Duration → Type 0
IsSeconds n None = n ≡ 0
IsSeconds n (Some d) = (0 < n) × (as_nanos d ≡ n * 1_000_000_000)

-- so many milliseconds, or none where that is 0
abbrev pub AreMillis : ℕ → Option Duration → Type 0
AreMillis n None = n ≡ 0
AreMillis n (Some d) = (0 < n) × (as_nanos d ≡ n * 1_000_000)

-- so many megabytes in bytes, or any number where that is 0
abbrev pub AreMegabytes : ℕ → Option ℕ → Type 0
AreMegabytes n None = n ≡ 0
AreMegabytes n (Some bytes) = (0 < n) × (bytes ≡ n * 1_048_576)

-- the terms say just what the words do
abbrev pub AreTermsOf : ServerOptions → Terms → Type 0
AreTermsOf s t =
    (t.workers ≡ s.hosting.workers) × (t.first_tenant ≡ s.first_tenant) × (t.connections ≡ s.connections) × IsSeconds s.idle t.idle
    × IsSeconds s.idle_transaction t.idle_transaction × (t.until_input_ends ≡ s.until_input_ends) × AreMillis s.slow t.slow

-- that port of 127.0.0.1, if there is one
abbrev pub IsStatusOf : Option ℕ → Option SocketAddr → Type 0
IsStatusOf None None = ⊤
IsStatusOf (Some port) (Some address) = IsHere port address
IsStatusOf None (Some address) = ⊥
IsStatusOf (Some port) None = ⊥

-- so does all of the plan
abbrev pub IsPlanOf : ServerOptions → Plan → Type 0
IsPlanOf s p =
    IsHere s.port p.address × (p.tenants ≡ s.hosting.run.tenants) × (p.cells ≡ s.hosting.cells) × (p.bound ≡ bound_of s.hosting.run)
    × AreMegabytes s.tenant_memory p.tenant_memory × AreTermsOf s p.terms × (p.log ≡ s.log) × IsStatusOf s.status p.status
    × (p.renew ≡ s.renew) × (p.segment ≡ s.segment * 1_048_576)
