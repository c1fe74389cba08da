use Rattle.std.proofs.Common.{◌≡◌, ◌∙◌, ◌<◌, ◌==◌, ℕ, Bool, true, false, not, List, [], ◌∷◌, length, sym, refl, rules, arith, eqb-true}
use Rattle.std.proofs.lemmas.Bool.{false≢true}
use Rattle.std.proofs.lemmas.List.{nil_from_length}
use Rattle.sb_wire.proofs.Answers.{on_ok}
use Rattle.sb_wire.proofs.Responses.{bytes_more, bytes_none, bytes_sent}
use Rattle.sb_wire.proofs.stream.answer_bytes.Goals as goal

none_left : (empty : Bool) (bytes : List ℕ) → empty ≡ (length bytes == 0) → not empty ≡ false → bytes ≡ []
none_left true bytes e k = nil_from_length bytes (eqb-true (length bytes) 0 (sym e))
none_left false bytes e k = absurd (false≢true (sym k))

some_left : (empty : Bool) (bytes : List ℕ) → empty ≡ (length bytes == 0) → not empty ≡ true → 0 < length bytes
some_left true bytes e k = absurd (false≢true k)
some_left false [] e k = absurd (false≢true e)
some_left false (b ∷ bytes) e k = omega arith

pub loop-rest-init : goal.loop-rest-init
loop-rest-init g c =
    let t = bytes_none (g.A.Responder.responds c.args.responder.now) g.A.Responder.over (c.args.first.now, c.args.second.now) (g.W.Write.contents c.args.writer.now) c.args.pending.now.out.items c.args.pending.now.lines c.args.bytes.now in
    (t.0, t.1, t.2, c.requires)

-- nothing is left, and the replies are written
pub returns-clause-takes : goal.returns-clause-takes
returns-clause-takes g c =
    let so = c.loop-rest.invariant in
    let none : c.loop-rest.rest.now ≡ [] = none_left c.is_empty.result c.loop-rest.rest.now c.is_empty.ensures (cc) in
    let w = c.write_out-2.ensures.writes in
    let t = bytes_sent so.0 (g.W.Write.contents c.write_out-2.new.writer) w.0 w.1 w.2 w.3 in
    (w.1, t.0, on_ok c.write_out-2.result (λ x. (x.0, x.1, λ going. (t.1 ∙ so.1 ∙ none, t.2 ∙ so.2))) w.4)

-- one line more is answered, with a fault
pub returns-in_err-behind-clause-takes : goal.returns-in_err-behind-clause-takes
returns-in_err-behind-clause-takes g c =
    let so = c.loop-rest.invariant in
    let a = c.in_err-behind.ensures.takes in
    (a.0, (bytes_more so.0 a.1 so.1 so.2 refl).0, search rules)

-- it ends the stream, and the replies are written
pub returns-then-is_over-clause-takes : goal.returns-then-is_over-clause-takes
returns-then-is_over-clause-takes g c =
    let so = c.loop-rest.invariant in
    let a = c.in_ok-behind.ensures.takes in
    let w = c.write_out.ensures.writes in
    let t = bytes_sent (bytes_more so.0 a.1 so.1 so.2 a.2.0).0 (g.W.Write.contents c.write_out.new.writer) w.0 w.1 w.2 w.3 in
    (w.1, t.0, on_ok c.write_out.result (λ x. (x.0, x.1, λ going. absurd (false≢true (sym going ∙ sym c.is_over.ensures ∙ c.if-is_over.true)))) w.4)

-- each line has a byte
pub loop-rest-smaller : goal.loop-rest-smaller
loop-rest-smaller g c = c.in_ok-behind.ensures.takes.2.3 (some_left c.is_empty.result c.loop-rest.rest.now c.is_empty.ensures (cc))

pub loop-rest-preserved : goal.loop-rest-preserved
loop-rest-preserved g c =
    let so = c.loop-rest.invariant in
    let a = c.in_ok-behind.ensures.takes in
    let t = bytes_more so.0 a.1 so.1 so.2 a.2.0 in
    (t.0, t.1 ∙ a.2.2, t.2 ∙ a.2.1, sym c.is_over.ensures ∙ c.if-is_over.false)
