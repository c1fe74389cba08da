use denote.Param.Send.{arg_send, arg_sync, copied_sync, param_send, param_sync, sendable}
use Rattle.std.proofs.Common.{inl, inr, refl, rules}
use Rattle.sb_host.proofs.Sending.{host_sync, session_send}
use Rattle.sb_monitor.specs.declared.listener.ListenError.TheVariants as listen
use Rattle.sb_wire.specs.declared.fault.StreamError.TheVariants as stream
use Rattle.starhost.proofs.Servers.{ends_behind, ends_unserved, tells_both}
use Rattle.starhost.proofs.server.serve_host.Goals as goal

-- the threads share the host, whose sessions are closed where they were opened
pub serve-requires-sync-H : goal.serve-requires-sync-H
serve-requires-sync-H g c = λ κs bounds. search (param_sync, arg_sync, copied_sync, sendable, host_sync) depth 40

pub serve-requires-send-H-Session : goal.serve-requires-send-H-Session
serve-requires-send-H-Session g c = λ κs bounds. search (param_send, arg_send, session_send)

pub returns-clause-ok : goal.returns-clause-ok
returns-clause-ok g c =
    let first = c.in-Ok-serve.ensures.ok in
    tells_both (g.W.Write.contents c.args.writer.now) (g.W.Write.contents c.serve.new.writer) (g.W.Write.contents c.finish_served.new.writer)
    g.N.Naming.bound c.args.opened.bound c.in-Ok.host c.args.opened.tenants first.0 c.finish_served.result c.requires.named.3 c.in-Ok.ensures first.1 c.finish_served.ensures.ok

-- numbers alone: the receipts are those that closed sessions left
pub returns-clause-err : goal.returns-clause-err
returns-clause-err g c = λ plain.
    let left = c.in-Ok-serve.ensures.plain plain in
    ends_behind g.W.Sink.refuses g.W.Write.contents c.args.writer.now c.serve.new.writer c.finish_served.new.writer g.N.Naming.bound c.args.opened.bound c.in-Ok.host c.args.opened.tenants
    c.args.plan.terms.first_tenant c.in-Ok-serve.served.stubs.items c.finish_served.result c.requires.named.3 c.in-Ok.ensures c.in-Ok-serve.ensures.ok left.0 (c.finish_served.ensures.err left.1)

pub returns-in-Err-serve-clause-err : goal.returns-in-Err-serve-clause-err
returns-in-Err-serve-clause-err g c = λ plain.
    ends_unserved g.W.Sink.refuses g.W.Write.contents c.args.writer.now c.serve.new.writer c.args.opened.bound c.args.opened.tenants c.args.plan.terms.first_tenant c.in-Err-serve.why
    (c.in-Err-serve.ensures.plain plain)

-- there was no memory, and nothing is written
pub returns-in_default-clause-err : goal.returns-in_default-clause-err
returns-in_default-clause-err g c = λ plain. inl (listen.Stream stream.NoMemory, refl, inr (search rules, inr refl))

pub returns-in_default-controls_of-clause-err : goal.returns-in_default-controls_of-clause-err
returns-in_default-controls_of-clause-err g c = λ plain. inl (listen.Stream stream.NoMemory, refl, inr (search rules, inr refl))
