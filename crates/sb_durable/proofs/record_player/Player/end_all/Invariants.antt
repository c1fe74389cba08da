use Rattle.std.proofs.Common.{◌≡◌, ◌++◌, List, map, option_map}
use Rattle.std.specs.List.{flat_map}
use Rattle.std.specs.Vec.Iter.{into_iter_items}
use Rattle.sb_desk.specs.declared.stub.Stub.{Stub}
use Rattle.sb_durable.specs.Replays.{AreClosed}
use Rattle.sb_durable.proofs.record_player.Player.end_all.Given as goal

-- those before are closed
abbrev pub invariant-loop-session : goal.invariant-loop-session
invariant-loop-session g l =
    (closed : List Stub) × AreClosed (map (option_map g.H.Session.Calling.seen) l.yielded) closed × (l.all.items ≡ flat_map (λ own. own.items) l.fn.self.stubs.items ++ closed)
    × (l.fn.self.sessions.items ≡ l.yielded ++ into_iter_items l.session-iterator)
