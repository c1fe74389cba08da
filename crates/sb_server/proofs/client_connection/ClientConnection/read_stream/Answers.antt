use Rattle.std.proofs.Common.{◌∙◌, ap, false, true, refl, Ok}
use Rattle.sb_server.proofs.Carrying.{carries_error, carries_taken}
use Rattle.sb_server.proofs.Failing.{ends_by_read}
use Rattle.sb_server.proofs.client_connection.ClientConnection.read_stream.Goals as goal

-- a read that gave nothing
pub invariant_of-self-in-Interrupted : goal.invariant_of-self-in-Interrupted
invariant_of-self-in-Interrupted g c =
    let old = c.args.self.now in
    let goes_on = (c.wants_read.ensures.may c.if-not-wants_read.false).1 in
    record { carries = carries_error (g.S.Stream.traffic old.stream) (g.S.Stream.traffic c.read.new.self) old.connection old.is_cut c.read.new.buffer.items c.in-Err.error old.carries c.if-self.false goes_on c.in-Err.ensures.traffic; keyed = old.keyed }

pub invariant_of-self-in-WouldBlock : goal.invariant_of-self-in-WouldBlock
invariant_of-self-in-WouldBlock g c =
    let old = c.args.self.now in
    let goes_on = (c.wants_read.ensures.may c.if-not-wants_read.false).1 in
    record { carries = carries_error (g.S.Stream.traffic old.stream) (g.S.Stream.traffic c.read.new.self) old.connection old.is_cut c.read.new.buffer.items c.in-Err.error old.carries c.if-self.false goes_on c.in-Err.ensures.traffic; keyed = old.keyed }

-- a read whose bytes were taken
pub invariant_of-self-in-Ok-take_bytes : goal.invariant_of-self-in-Ok-take_bytes
invariant_of-self-in-Ok-take_bytes g c =
    let old = c.args.self.now in
    let t = g.S.Stream.traffic old.stream in
    record { carries = carries_taken t (g.S.Stream.traffic c.read.new.self) old.connection c.take_bytes.new.connection old.is_cut false old.is_cut c.read.new.buffer.items c.deref.result.now (Ok c.in-Ok.count) old.carries c.if-self.false (c.in-Ok-take_bytes.ensures.carries t) c.deref.ensures.value c.in-Ok.ensures.traffic c.if-self.false; keyed = ap (λ h. h.keyed) c.in-Ok-take_bytes.ensures.hosted ∙ old.keyed }

-- one for whose bytes there was no memory
pub invariant_of-self-in-Err-take_bytes : goal.invariant_of-self-in-Err-take_bytes
invariant_of-self-in-Err-take_bytes g c =
    let old = c.args.self.now in
    let t = g.S.Stream.traffic old.stream in
    record { carries = carries_taken t (g.S.Stream.traffic c.read.new.self) old.connection c.take_bytes.new.connection old.is_cut true true c.read.new.buffer.items c.deref.result.now (Ok c.in-Ok.count) old.carries c.if-self.false (c.in-Err-take_bytes.ensures.carries t) c.deref.ensures.value c.in-Ok.ensures.traffic refl; keyed = ap (λ h. h.keyed) c.take_bytes.ensures.hosted ∙ old.keyed }

-- a read that failed
pub returns-in_default-clause-fault : goal.returns-in_default-clause-fault
returns-in_default-clause-fault g c =
    let old = c.args.self.now in
    ends_by_read (g.S.Stream.traffic old.stream) (g.S.Stream.traffic c.read.new.self) old.connection old.is_cut c.fault.result c.read.new.buffer.items c.in-Err.error c.kind.result c.in-Err.ensures.traffic c.kind.ensures c.in_default.not-WouldBlock c.in_default.not-Interrupted _ c.fault.ensures
