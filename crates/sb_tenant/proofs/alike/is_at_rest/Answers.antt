use Rattle.std.proofs.Common.{subst, sym, ◌∙◌}
use Rattle.sb_tenant.specs.Tenant.{state}
use Rattle.sb_tenant.proofs.Resting.{rests}
use Rattle.sb_tenant.specs.Compared.{AreSettled}
use Rattle.sb_tenant.proofs.alike.is_at_rest.Goals as goal

pub returns : goal.returns
returns c h =
    rests (state c.args.tenant.now) (sym c.is_busy.ensures ∙ c.if-is_busy.false) (subst AreSettled c.tables.ensures (c.are_settled.ensures h))
