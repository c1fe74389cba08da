use Rattle.std.proofs.Common.{◌∙◌, ap, sym, nat_le, length, List}
use Rattle.sb_tenant.specs.declared.reply.Entry.{Entry}
use Rattle.sb_tenant.specs.Remembered.{seen}
use Rattle.sb_tenant.specs.Tenant.{state}
use Rattle.sb_tenant.proofs.Steps.{steps_are_entries}
use Rattle.sb_tenant.proofs.tenant.Tenant.is_full.Goals as goal
use Rattle.sb_tenant.specs.Limits.{trail_limit}

pub returns : goal.returns
returns c =
    ap (λ (es : List Entry). nat_le trail_limit (length es)) c.as_slice.ensures.value ∙ ap (nat_le trail_limit) (sym (steps_are_entries (seen c.self.inside) c.self.invariant.legal))
    ∙ ap (λ v. nat_le trail_limit (state v).steps) c.self.view_is
