use Rattle.std.proofs.Common.{false, ◌∙◌, ap}
use Rattle.sb_net.specs.Meets.{meets}
use Rattle.sb_net.proofs.MaskLaws.{meets_none}
use Rattle.sb_net.proofs.operations.no_operations.Goals as goal

pub returns : goal.returns
returns c = λ t. ap (λ columns. meets t (record { inserted = false; deleted = false; updated = false; columns = columns })) c.empty.ensures.value ∙ meets_none t
