use Rattle.std.proofs.Common.{◌++◌, codes, ap, ◌∙◌}
use Rattle.sb_frontend.specs.Stepless.{one_found}
use Rattle.sb_frontend.proofs.Saying.{holds}
use Rattle.sb_frontend.proofs.without.hold_found.Goals as goal

pub returns-in-Ok : goal.returns-in-Ok
returns-in-Ok c = holds c.args.out.now c.hold.new.self c.extend_from_slice.new.self.items one_found (c.in-Ok.ensures.items ∙ ap (λ t. t ++ codes "SELECT 1") c.new-tag.ensures.items) c.hold.ensures
