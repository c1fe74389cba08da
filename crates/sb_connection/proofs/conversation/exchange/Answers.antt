use Rattle.std.proofs.Common.{◌≡◌, ◌++◌, ap, refl, subst}
use Rattle.std.specs.Prelude.{IfSome, OnOk}
use Rattle.sb_wire.specs.Output.{ended_lines}
use Rattle.sb_wire.specs.ReplyText.{reply_lines}
use Rattle.sb_wire.specs.Seen.{piece_seen}
use Rattle.sb_connection.specs.Exchanges.{answered, overlong, unbegun}
use Rattle.sb_connection.specs.Callers.{Caller}
use Rattle.sb_connection.proofs.conversation.exchange.Goals as goal

pub returns-in-TooLong : goal.returns-in-TooLong
returns-in-TooLong g c = (overlong, ap piece_seen c.in-TooLong.is, (refl, refl), refl, refl, c.write_bare_refusal.ensures.ok, c.write_bare_refusal.ensures.err)

-- the step's answer
pub returns-in-Ok : goal.returns-in-Ok
returns-in-Ok g c =
    let once = c.in-Ok.ensures.ok in
    let before = c.args.out.now.items in
    let after = c.write_last.new.out.items in
    let said = subst (λ last. IfSome last (λ answer. OnOk c.write_last.result (after ≡ before ++ ended_lines (reply_lines answer.reply)))) (ap (λ (o : Caller). o.last) once.3) c.write_last.ensures.ok in
    (answered c.in-Line.line.now once.0 _, ap piece_seen c.in-Line.is, ((c.requires, once.2, ap (λ (o : Caller). o.life) once.3, once.4), refl), ap (λ (o : Caller). o.stays) once.3, ap (λ (o : Caller). o.waits) once.3, said, c.write_last.ensures.err)

-- it isn't begun
pub returns-in-Err-NotBegun : goal.returns-in-Err-NotBegun
returns-in-Err-NotBegun g c =
    let same = c.in-Err-NotBegun.ensures.err.0 in
    let said = c.write_bare_refusal-in-Err-NotBegun.ensures in
    (unbegun c.in-Line.line.now, ap piece_seen c.in-Line.is, ((c.requires, ap (λ (o : Caller). o.life) same), ap (λ (o : Caller). o.life.has_transaction) same), ap (λ (o : Caller). o.stays) same, ap (λ (o : Caller). o.waits) same, said.ok, said.err)
