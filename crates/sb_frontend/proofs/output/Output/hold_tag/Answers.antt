use Rattle.std.proofs.Common.{◌++◌, ap, ◌∙◌}
use Rattle.sb_postgres.specs.Tags.{tag_of}
use Rattle.sb_frontend.proofs.Saying.{holds}
use Rattle.sb_frontend.proofs.output.Output.hold_tag.Goals as goal

pub returns-in-Ok : goal.returns-in-Ok
returns-in-Ok c = holds c.args.self.now c.hold.new.self c.push_tag.new.out.items _ (c.in-Ok.ensures ∙ ap (λ t. t ++ tag_of c.args.kind c.args.line.now c.args.effect) c.new-tag.ensures.items) c.hold.ensures
