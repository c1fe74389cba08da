use Rattle.std.proofs.Common.{ℕ, [], Some, None, length, ap, refl, subst}
use Rattle.sb_postgres.specs.declared.told.tag.Effect.TheVariants as effect
use Rattle.sb_postgres.specs.Kinds.{kind_of}
use Rattle.sb_postgres.specs.Tags.{tag_of}
use Rattle.sb_frontend.specs.Considerations.{notices}
use Rattle.sb_frontend.specs.Outputs.{Tells}
use Rattle.sb_frontend.specs.Replies.{replied}
use Rattle.sb_frontend.specs.Replies as told
use Rattle.sb_frontend.specs.Tellings.{TellsReply, reply_tag}
use Rattle.sb_frontend.proofs.Saying.{says-tells, some-after, tells-after, tells-some}
use Rattle.sb_frontend.proofs.Telling.{as-reply, of-line}
use Rattle.sb_frontend.proofs.tell.Teller.tell_reply.Goals as goal

pub returns-in-Done-clause-told : goal.returns-in-Done-clause-told
returns-in-Done-clause-told g c =
    let line = c.args.statement.now.line.items in
    as-reply c.args.self.now.form (kind_of line) line (replied c.args.reply) told.Done c.args.out.now c.hold.new.out (ap replied c.in-Done.is)
    (tells-some (TellsReply c.args.self.now.form (kind_of line) told.Done) [] (reply_tag (kind_of line) line told.Done) c.args.out.now c.hold.new.out refl
    (of-line c.as_slice-line.result.now line effect.Done c.args.out.now c.hold.new.out c.as_slice-line.ensures.value c.hold.ensures.told))

pub returns-in-Changed-clause-told : goal.returns-in-Changed-clause-told
returns-in-Changed-clause-told g c =
    let line = c.args.statement.now.line.items in
    as-reply c.args.self.now.form (kind_of line) line (replied c.args.reply) (told.Changed c.in-Changed.count) c.args.out.now c.hold-in-Changed.new.out (ap replied c.in-Changed.is)
    (tells-some (TellsReply c.args.self.now.form (kind_of line) (told.Changed c.in-Changed.count)) [] (reply_tag (kind_of line) line (told.Changed c.in-Changed.count)) c.args.out.now c.hold-in-Changed.new.out refl
    (of-line c.as_slice-line.result.now line (effect.Changed c.in-Changed.count) c.args.out.now c.hold-in-Changed.new.out c.as_slice-line.ensures.value c.hold-in-Changed.ensures.told))

pub returns-in-Found-clause-told : goal.returns-in-Found-clause-told
returns-in-Found-clause-told g c =
    let line = c.args.statement.now.line.items in
    let held = of-line c.as_slice-line.result.now line (effect.Found c.len.result) c.tell_rows.new.out c.hold-in-Found.new.out c.as_slice-line.ensures.value c.hold-in-Found.ensures.told in
    let tells : Tells [] (Some (tag_of (kind_of line) line (effect.Found (length c.in-Found.rows.now)))) c.tell_rows.new.out c.hold-in-Found.new.out =
    subst (λ (n : ℕ). Tells [] (Some (tag_of (kind_of line) line (effect.Found n))) c.tell_rows.new.out c.hold-in-Found.new.out) c.len.ensures held in
    as-reply c.args.self.now.form (kind_of line) line (replied c.args.reply) (told.Found c.in-Found.rows.now) c.args.out.now c.hold-in-Found.new.out (ap replied c.in-Found.is)
    (some-after (TellsReply c.args.self.now.form (kind_of line) (told.Found c.in-Found.rows.now)) _ c.args.out.now c.tell_rows.new.out c.hold-in-Found.new.out c.tell_rows.ensures tells)

pub returns-in-Processed-clause-told : goal.returns-in-Processed-clause-told
returns-in-Processed-clause-told g c =
    let line = c.args.statement.now.line.items in
    as-reply c.args.self.now.form (kind_of line) line (replied c.args.reply) (told.Processed c.in-Processed.rules.now) c.args.out.now c.hold-in-Processed.new.out (ap replied c.in-Processed.is)
    (tells-some (TellsReply c.args.self.now.form (kind_of line) (told.Processed c.in-Processed.rules.now)) (notices c.in-Processed.rules.now) (reply_tag (kind_of line) line (told.Processed c.in-Processed.rules.now)) c.args.out.now c.hold-in-Processed.new.out refl
    (tells-after (notices c.in-Processed.rules.now) (reply_tag (kind_of line) line (told.Processed c.in-Processed.rules.now)) c.args.out.now c.note.new.out c.hold-in-Processed.new.out c.note.ensures
    (of-line c.as_slice-line.result.now line effect.Done c.note.new.out c.hold-in-Processed.new.out c.as_slice-line.ensures.value c.hold-in-Processed.ensures.told)))

pub returns-in-ByRule-clause-told : goal.returns-in-ByRule-clause-told
returns-in-ByRule-clause-told g c =
    let line = c.args.statement.now.line.items in
    let reply = told.ByRule c.in-ByRule.rule.now c.in-ByRule.rules.now in
    as-reply c.args.self.now.form (kind_of line) line (replied c.args.reply) reply c.args.out.now c.tell_by_rule.new.out (ap replied c.in-ByRule.is)
    (says-tells (TellsReply c.args.self.now.form (kind_of line) reply) None c.args.out.now c.tell_by_rule.new.out c.requires c.tell_by_rule.ensures)

pub returns-in-ByError-clause-told : goal.returns-in-ByError-clause-told
returns-in-ByError-clause-told g c =
    let line = c.args.statement.now.line.items in
    let reply = told.ByError c.in-ByError.rule.now c.in-ByError.error.now c.in-ByError.rules.now in
    as-reply c.args.self.now.form (kind_of line) line (replied c.args.reply) reply c.args.out.now c.tell_by_error.new.out (ap replied c.in-ByError.is)
    (says-tells (TellsReply c.args.self.now.form (kind_of line) reply) None c.args.out.now c.tell_by_error.new.out c.requires c.tell_by_error.ensures)

pub returns-in-ByLimit-clause-told : goal.returns-in-ByLimit-clause-told
returns-in-ByLimit-clause-told g c =
    let line = c.args.statement.now.line.items in
    let reply = told.ByLimit c.in-ByLimit.rules.now in
    as-reply c.args.self.now.form (kind_of line) line (replied c.args.reply) reply c.args.out.now c.tell_by_limit.new.out (ap replied c.in-ByLimit.is)
    (says-tells (TellsReply c.args.self.now.form (kind_of line) reply) None c.args.out.now c.tell_by_limit.new.out c.requires c.tell_by_limit.ensures)

pub returns-in-Refused-clause-told : goal.returns-in-Refused-clause-told
returns-in-Refused-clause-told g c =
    let line = c.args.statement.now.line.items in
    let reply = told.Refused c.in-Refused.refusal.now in
    as-reply c.args.self.now.form (kind_of line) line (replied c.args.reply) reply c.args.out.now c.tell_refusal.new.out (ap replied c.in-Refused.is)
    (says-tells (TellsReply c.args.self.now.form (kind_of line) reply) None c.args.out.now c.tell_refusal.new.out c.requires c.tell_refusal.ensures)

pub returns-in-NotBegun-clause-told : goal.returns-in-NotBegun-clause-told
returns-in-NotBegun-clause-told g c =
    let line = c.args.statement.now.line.items in
    as-reply c.args.self.now.form (kind_of line) line (replied c.args.reply) told.NotBegun c.args.out.now c.tell_unbegun.new.out (ap replied c.in-NotBegun.is)
    (says-tells (TellsReply c.args.self.now.form (kind_of line) told.NotBegun) None c.args.out.now c.tell_unbegun.new.out c.requires c.tell_unbegun.ensures)
