use Rattle.std.proofs.Common.{[], ap, refl}
use Rattle.sb_frontend.specs.Considerations.{notices}
use Rattle.sb_frontend.specs.Replies.{replied}
use Rattle.sb_frontend.specs.Replies as told
use Rattle.sb_frontend.specs.Tellings.{TellsOwn}
use Rattle.sb_frontend.proofs.Saying.{says-nothing, says-some}
use Rattle.sb_frontend.proofs.Telling.{as-own}
use Rattle.sb_frontend.proofs.tell.tell_own.Goals as goal

pub returns-in-Done-clause-told : goal.returns-in-Done-clause-told
returns-in-Done-clause-told c =
    as-own (replied c.args.reply) told.Done c.args.out.now c.args.out.now (ap replied c.in-Done.is) (says-some (TellsOwn told.Done) [] c.args.out.now c.args.out.now refl (says-nothing c.args.out.now))

pub returns-in-Changed-clause-told : goal.returns-in-Changed-clause-told
returns-in-Changed-clause-told c =
    as-own (replied c.args.reply) (told.Changed c.in-Changed.field-0) c.args.out.now c.args.out.now (ap replied c.in-Changed.is)
    (says-some (TellsOwn (told.Changed c.in-Changed.field-0)) [] c.args.out.now c.args.out.now refl (says-nothing c.args.out.now))

pub returns-in-Found-clause-told : goal.returns-in-Found-clause-told
returns-in-Found-clause-told c =
    as-own (replied c.args.reply) (told.Found c.in-Found.field-0.now) c.args.out.now c.args.out.now (ap replied c.in-Found.is)
    (says-some (TellsOwn (told.Found c.in-Found.field-0.now)) [] c.args.out.now c.args.out.now refl (says-nothing c.args.out.now))

pub returns-in-Processed-clause-told : goal.returns-in-Processed-clause-told
returns-in-Processed-clause-told c =
    as-own (replied c.args.reply) (told.Processed c.in-Processed.rules.now) c.args.out.now c.note.new.out (ap replied c.in-Processed.is)
    (says-some (TellsOwn (told.Processed c.in-Processed.rules.now)) (notices c.in-Processed.rules.now) c.args.out.now c.note.new.out refl c.note.ensures)

pub returns-in-ByRule-clause-told : goal.returns-in-ByRule-clause-told
returns-in-ByRule-clause-told c =
    as-own (replied c.args.reply) (told.ByRule c.in-ByRule.rule.now c.in-ByRule.rules.now) c.args.out.now c.tell_by_rule.new.out (ap replied c.in-ByRule.is) c.tell_by_rule.ensures

pub returns-in-ByError-clause-told : goal.returns-in-ByError-clause-told
returns-in-ByError-clause-told c =
    as-own (replied c.args.reply) (told.ByError c.in-ByError.rule.now c.in-ByError.error.now c.in-ByError.rules.now) c.args.out.now c.tell_by_error.new.out (ap replied c.in-ByError.is) c.tell_by_error.ensures

pub returns-in-ByLimit-clause-told : goal.returns-in-ByLimit-clause-told
returns-in-ByLimit-clause-told c =
    as-own (replied c.args.reply) (told.ByLimit c.in-ByLimit.rules.now) c.args.out.now c.tell_by_limit.new.out (ap replied c.in-ByLimit.is) c.tell_by_limit.ensures

pub returns-in-Refused-clause-told : goal.returns-in-Refused-clause-told
returns-in-Refused-clause-told c =
    as-own (replied c.args.reply) (told.Refused c.in-Refused.refusal.now) c.args.out.now c.tell_plain.new.out (ap replied c.in-Refused.is) c.tell_plain.ensures

pub returns-in-NotBegun-clause-told : goal.returns-in-NotBegun-clause-told
returns-in-NotBegun-clause-told c =
    as-own (replied c.args.reply) told.NotBegun c.args.out.now c.tell_unbegun.new.out (ap replied c.in-NotBegun.is) c.tell_unbegun.ensures
