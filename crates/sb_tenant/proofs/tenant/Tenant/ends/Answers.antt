use Rattle.std.proofs.Common.{◌∙◌, ap, sym, ◌&&◌, codes}
use Rattle.sb_value.specs.Name.{same_name}
use Rattle.sb_tenant.proofs.tenant.Tenant.ends.Goals as goal

pub returns-then-is_open : goal.returns-then-is_open
returns-then-is_open c =
    c.is_end.ensures ∙ ap (λ b. b && same_name c.args.line.now (codes "end")) (sym c.if-is_open.true ∙ c.is_open.ensures)
