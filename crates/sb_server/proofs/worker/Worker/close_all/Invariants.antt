use Rattle.std.proofs.Common.{◌≡◌, ◌<◌, ℕ, None}
use Rattle.slab.specs.Slab.{get}
use Rattle.sb_server.specs.Closed.{GainsClosed}
use Rattle.sb_server.specs.Sessions.{KeepsSessions}
use Rattle.sb_server.proofs.worker.Worker.close_all.Given as goal

-- none is left below, and none comes
abbrev pub invariant-loop-key : goal.invariant-loop-key
invariant-loop-key g l =
    GainsClosed g.D.Doorkeeper.policy l.fn.self.stubs.items l.self.stubs.items
    × KeepsSessions l.fn.self.client_connections l.self.client_connections (λ v. v.value.connection.attached) l.fn.self.stubs.items l.self.stubs.items
    × ((k : ℕ) → (k < l.key → get l.self.client_connections k ≡ None) × (get l.fn.self.client_connections k ≡ None → get l.self.client_connections k ≡ None))
