use Rattle.std.proofs.Common.{List, ap, subst, arith, length}
use Rattle.std.specs.Prelude.{IfOk, Vec}
use Rattle.std.specs.Global.{Global}
use Rattle.sb_tenant.specs.declared.reply.Entry.{Entry}
use Rattle.sb_tenant.specs.Trail.{state_of}
use Rattle.sb_desk.specs.declared.receipts.Receipt.{Receipt}
use Rattle.sb_host.specs.Renewing.{IsOpening}
use Rattle.sb_host.proofs.volume_stubs.opening_rows.Goals as goal

pub wanted_rows-requires : goal.wanted_rows-requires
wanted_rows-requires c =
    let t = c.args.fresh.now in
    let most = c.trails_are_bounded.ensures t.id t.bound t.trail (state_of t.id t.bound t.trail) c.trail.ensures.legal in
    let long = ap length c.trail.ensures.value in
    omega (arith, most, long)

pub returns : goal.returns
returns c = subst (λ (es : List Entry). IfOk c.wanted_rows.result (λ (rows : Vec (Vec Receipt Global) Global). IsOpening es rows.items)) c.trail.ensures.value c.wanted_rows.ensures
