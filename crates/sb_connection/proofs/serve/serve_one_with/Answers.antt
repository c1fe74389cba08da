use Rattle.sb_connection.specs.Conversation.{hosting}
use Rattle.sb_connection.specs.Policies.{anyone}
use Rattle.sb_connection.specs.Responses.{is_over_in}
use Rattle.sb_connection.proofs.Streams.{served}
use Rattle.sb_connection.proofs.serve.serve_one_with.Goals as goal

pub returns-clause-goes : goal.returns-clause-goes
returns-clause-goes g c = rw (← c.new-entrance.ensures) (
    let s = c.answer_stream-ended.ensures.goes.0 in
    let all = served anyone (hosting 0 (g.H.Hosting.tenants c.new-entrance.result)) s.pieces s.lines.text (c.answer_stream-ended.new.first, c.answer_stream-ended.new.second) c.close-stub.result s.lines.answered c.close-stub.ensures in (
      record {
        seen = s.seen;
        reads = s.reads;
        pieces = s.pieces;
        text = s.lines.text;
        over = is_over_in (c.answer_stream-ended.new.first, c.answer_stream-ended.new.second);
        talks = all.0;
        written = s.lines.written;
        left = s.left;
        whole = s.lines.whole;
        appends = s.lines.appends;
      },
      c.answer_stream-ended.ensures.goes.1,
    ))

pub returns-clause-closed : goal.returns-clause-closed
returns-clause-closed g c =
    let s = c.answer_stream-ended.ensures.goes.0 in
    (served anyone (hosting 0 (g.H.Hosting.tenants c.new-entrance.result)) s.pieces s.lines.text (c.answer_stream-ended.new.first, c.answer_stream-ended.new.second) c.close-stub.result s.lines.answered c.close-stub.ensures).1
