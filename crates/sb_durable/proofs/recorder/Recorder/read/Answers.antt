use Rattle.std.proofs.Common.{◌∙◌, arith}
use Rattle.std.proofs.lemmas.List.{take_all}
use Rattle.sb_durable.proofs.NotedTrails.{ends_more}
use Rattle.sb_durable.proofs.recorder.Recorder.read.Goals as goal

pub loop-tenant-preserved : goal.loop-tenant-preserved
loop-tenant-preserved g c whole =
    let a = c.in_ok-read_one.ensures whole in
    let before = c.loop-tenant.invariant a.1 in
    ends_more c.args.tenants.now c.loop-tenant.tenant-index c.loop-tenant.read.ends.items c.read_one.new.read.ends.items a.0
    (omega (arith, c.loop-tenant-test.true)) a.2 a.3 a.4 before.0 before.1

pub returns : goal.returns
returns g c whole =
    let all = c.loop-tenant.invariant whole in
    (all.0 ∙ take_all c.loop-tenant.tenant-index c.args.tenants.now (omega (arith, c.loop-tenant-test.false)), all.1)
