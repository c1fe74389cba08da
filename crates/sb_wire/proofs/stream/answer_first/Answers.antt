use Rattle.std.proofs.Common.{◌∙◌, [], refl, sym, rules, append-nil}
use Rattle.sb_wire.proofs.Responses.{bytes_line, lines_none}
use Rattle.sb_wire.proofs.stream.answer_first.Goals as goal

-- a line that stands there as a whole is answered, with a fault
pub returns-in_err-answer_next-clause-takes : goal.returns-in_err-answer_next-clause-takes
returns-in_err-answer_next-clause-takes g c =
    let w = c.in-Some.ensures in
    let a = c.in_err-answer_next.ensures.replies in
    (a.0, (bytes_line c.in-Some.whole.1.now w.1 w.3 refl a.1).0, search rules)

pub returns-in-Some-clause-takes : goal.returns-in-Some-clause-takes
returns-in-Some-clause-takes g c =
    let w = c.in-Some.ensures in
    let a = c.in_ok-answer_next.ensures.replies in
    let t = bytes_line c.in-Some.whole.1.now w.1 w.3 refl a.1 in
    (a.0, t.0, (a.2, t.2 ∙ sym w.4, t.1, λ some. t.3 w.2))

-- no newline is among the bytes
pub returns-in_default-feed-clause-takes : goal.returns-in_default-feed-clause-takes
returns-in_default-feed-clause-takes g c =
    let bytes = c.args.bytes.now in
    let none = lines_none (g.A.Responder.responds c.args.responder.now) g.A.Responder.over (c.args.first.now, c.args.second.now) (g.W.Write.contents c.args.writer.now) c.args.pending.now.out.items in (
      c.args.pending.now.out.items,
      record { taken = bytes; ahead = []; split = sym (append-nil bytes); pieces = []; opened = c.feed.new.self; completes = c.in_default-feed.ensures; lines = none },
      (refl, refl, refl, λ some. some),
    )

-- the line that stood open is answered
pub returns-in_err-answer_next-2-clause-takes : goal.returns-in_err-answer_next-2-clause-takes
returns-in_err-answer_next-2-clause-takes g c =
    let a = c.in_err-answer_next-2.ensures.replies in
    (a.0, (bytes_line c.in-Some-feed.behind.now c.in-Some-feed.ensures.1 c.in-Some-feed.ensures.3 c.line-line.ensures a.1).0, search rules)

pub returns-clause-takes : goal.returns-clause-takes
returns-clause-takes g c =
    let fed = c.in-Some-feed.ensures in
    let a = c.in_ok-answer_next-2.ensures.replies in
    let t = bytes_line c.in-Some-feed.behind.now fed.1 fed.3 c.line-line.ensures a.1 in
    (a.0, t.0, (a.2, t.2 ∙ sym c.clear.ensures, t.1, λ some. t.3 fed.2))
