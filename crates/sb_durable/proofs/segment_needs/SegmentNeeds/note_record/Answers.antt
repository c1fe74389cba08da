use Rattle.std.proofs.Common.{rules}
use Rattle.sb_durable.proofs.Needs.{noted_again, noted_first, noted_past}
use Rattle.sb_durable.proofs.segment_needs.SegmentNeeds.note_record.Goals as goal

pub returns-then-is_none-clause-needs : goal.returns-then-is_none-clause-needs
returns-then-is_none-clause-needs c = λ first row newest one own at needs.
    noted_first c.args.self.now.oldest.items c.args.tenant first row newest one own needs c.args.segment (search rules) (search rules) at

pub returns-else-is_none-clause-needs : goal.returns-else-is_none-clause-needs
returns-else-is_none-clause-needs c = λ first row newest one own at needs.
    noted_again c.args.self.now.oldest.items c.args.tenant first row newest one own needs c.in-Some.need.now (search rules) c.in-Some.ensures.value (search rules)

pub returns-in_default-clause-needs : goal.returns-in_default-clause-needs
returns-in_default-clause-needs c = λ first row newest one own at needs.
    noted_past c.args.self.now.oldest.items c.args.tenant first row newest one own needs (search rules)
