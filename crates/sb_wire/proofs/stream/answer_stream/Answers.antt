use Rattle.std.proofs.Common.{◌≡◌, ◌∙◌, ◌<◌, ◌≤◌, [], ◌++◌, List, ℕ, inl, inr, refl, sym, subst, false, take, length, arith, length-append}
use Rattle.std.proofs.lemmas.Result.{err_from_is_err_and}
use Rattle.std.proofs.lemmas.List.{take-append-le, take_all}
use Rattle.std.specs.Io.KnownBytes.{Consumes}
use Rattle.std.proofs.KnownBytes.{Consumes-nil, Consumes-kept}
use Rattle.sb_wire.specs.Lines.{Piece, complete_pieces}
use Rattle.sb_wire.specs.Responses.{AnswersBytes, AnswersStream}
use Rattle.sb_wire.specs.Stream.{AreFirst}
use Rattle.sb_wire.proofs.Answers.{on_ok}
use Rattle.sb_wire.proofs.Reading.{Reading, reading-none, reading-more, reading-stopped, reading-last, stops-early, stops-last}
use Rattle.sb_wire.proofs.Responses.{lines_none}
use Rattle.sb_wire.proofs.stream.answer_stream.Given.{Over}
use Rattle.sb_wire.proofs.stream.answer_stream.Goals as goal
use Rattle.sb_wire.proofs.stream.answer_stream.Goals.{After-answer_bytes}

-- a buffer that was written as a whole
refilled : (n : ℕ) (new rest : List ℕ) → n ≡ length new → new ≡ take n (new ++ rest)
refilled n new rest is =
    let fits : n ≤ length new = omega arith in
    let all : length new ≤ n = omega arith in
    rw take-append-le (sym (take_all n new all))

-- no room for a buffer
pub returns-in_default-clause-goes : goal.returns-in_default-clause-goes
returns-in_default-clause-goes g c =
    let state : g.row.S.Denot × g.row.T.Denot = (c.args.first.now, c.args.second.now) in (
      record { seen = []; reads = Consumes-nil (g.R.Read.remaining c.args.reader.now); in_time = omega arith; pieces = []; left = []; lines = lines_none (g.A.Responder.responds c.args.responder.now) g.A.Responder.over state (g.W.Write.contents c.args.writer.now) [] },
      ([], refl),
    )

pub loop-read-init : goal.loop-read-init
loop-read-init g c =
    let by = g.A.Responder.responds c.args.responder.now in
    let over = g.A.Responder.over in
    let i = g.R.Read.remaining c.args.reader.now in
    let h = g.W.Write.contents c.args.writer.now in
    let state : g.row.S.Denot × g.row.T.Denot = (c.args.first.now, c.args.second.now) in
    ([], subst (λ (p : Piece). Reading by over state i h [] p state i h) (sym c.new-lines.ensures) (reading-none by over state i h), omega arith, omega arith, c.new-out.ensures.items, c.in-Ok.ensures.len, c.requires)

-- ---- the bytes of a read

module _ (g : Over) (c : After-answer_bytes g) where
  abbrev bytes : List ℕ
  bytes = take c.in_ok-count.count c.as_slice.result.now

  -- the reader gave them, some and no more than a piece
  bytes_read : Consumes (g.R.Read.remaining c.loop-read.reader) (g.R.Read.remaining c.read_piece.new.reader) bytes × (1 ≤ length bytes) × (length bytes ≤ 65536)
  bytes_read =
      let count = c.in_ok-count.count in
      let full : c.loop-read.buffer.len ≡ length c.read_piece.new.buf = omega arith in
      let same : c.read_piece.new.buf ≡ c.as_slice.result.now = refilled c.loop-read.buffer.len c.read_piece.new.buf _ full ∙ sym c.as_slice.ensures.value in
      let whole : count ≡ length bytes = subst (λ (t : List ℕ). count ≡ length (take count t)) same c.in_ok-count.ensures.bound.1 in (
        subst (λ (t : List ℕ). Consumes (g.R.Read.remaining c.loop-read.reader) (g.R.Read.remaining c.read_piece.new.reader) (take count t)) same c.in_ok-count.ensures.bytes.0,
        omega arith,
        omega (arith, c.in_ok-count.ensures.bound.0, full, c.loop-read.invariant.5, whole),
      )

  -- the stream stops among them
  stopped : {left : List ℕ}
      → AnswersBytes (g.A.Responder.responds c.args.responder.now) g.A.Responder.over (c.loop-read.first, c.loop-read.second) (g.W.Write.contents c.loop-read.writer) c.loop-read.pending.out.items c.loop-read.pending.lines bytes
      (c.answer_bytes.new.first, c.answer_bytes.new.second) (g.W.Write.contents c.answer_bytes.new.writer) left
      → (s : AnswersStream (g.A.Responder.responds c.args.responder.now) g.A.Responder.over (c.args.first.now, c.args.second.now) (g.R.Read.remaining c.args.reader.now) (g.W.Write.contents c.args.writer.now)
      (c.answer_bytes.new.first, c.answer_bytes.new.second) (g.R.Read.remaining c.read_piece.new.reader) (g.W.Write.contents c.answer_bytes.new.writer))
      × (s.left ≡ left) × AreFirst s.pieces s.seen
  stopped takes =
      let so = c.loop-read.invariant in
      let few = bytes_read.2 in
      reading-stopped (g.R.Read.remaining c.read_piece.new.reader) so.1 so.4 bytes_read.0 takes (simp length-append (omega (arith, so.3, few)))

-- the lines that one more read completes are answered
pub loop-read-preserved : goal.loop-read-preserved
loop-read-preserved g c =
    let here = (goal.at.loop-read-preserved g c).After-answer_bytes in
    let so = c.loop-read.invariant in
    let told = c.in_ok-answer_bytes.ensures.takes in
    let going : g.A.Responder.over (c.answer_bytes.new.first, c.answer_bytes.new.second) ≡ false = sym c.is_over.ensures ∙ c.if-is_over.false in
    let got = bytes_read g here in
    let on = told.2.2 going in (
      so.0 ++ bytes g here,
      reading-more (g.R.Read.remaining c.read_piece.new.reader) so.1 so.4 got.0 told.1 on.0 on.1 told.2.0,
      simp length-append (omega (arith, got.1)),
      simp length-append (omega (arith, so.3, got.2)),
      told.2.1,
      so.5,
      going,
    )

-- the reader fails
pub returns-in_err-count-clause-goes : goal.returns-in_err-count-clause-goes
returns-in_err-count-clause-goes g c =
    let so = c.loop-read.invariant in
    let p = err_from_is_err_and c.from_residual.result c.from_residual.ensures.1 in (
      record {
        seen = so.0;
        reads = Consumes-kept (g.R.Read.remaining c.args.reader.now) (g.R.Read.remaining c.loop-read.reader) (g.R.Read.remaining c.read_piece.new.reader) so.0 so.1.reads c.in_err-count.ensures.bytes;
        in_time = omega arith;
        pieces = complete_pieces so.0;
        left = [];
        lines = so.1.lines;
      },
      rw (p.1, p.2, c.in_err-count.ensures.fault) (refl, refl, so.6, inl c.in_err-count.ensures.fails),
    )

-- the input ends
pub returns-then-count-eq0-clause-goes : goal.returns-then-count-eq0-clause-goes
returns-then-count-eq0-clause-goes g c =
    let so = c.loop-read.invariant in
    let now = g.R.Read.remaining c.read_piece.new.reader in
    let over = g.A.Responder.over (c.answer_last.new.first, c.answer_last.new.second) in
    let read = c.in_ok-count.ensures.bytes in
    let none : Consumes (g.R.Read.remaining c.loop-read.reader) now [] = subst (λ (n : ℕ). Consumes (g.R.Read.remaining c.loop-read.reader) now (take n c.read_piece.new.buf)) c.if-count-eq0.true read.0 in
    let room : 0 < length c.read_piece.new.buf = omega arith in
    let last = c.answer_last.ensures.replies in
    let s = reading-last now so.1 so.4 (omega arith) none last.1 in (
      s.0,
      stops-last g.R.Source.fails g.R.Read.remaining c.read_piece.new.reader over s.0.seen s.0.pieces s.0.left c.answer_last.result (read.1 c.if-count-eq0.true room) s.2 (on_ok c.answer_last.result (λ e. s.1 ∙ e) last.2) c.answer_last.ensures.reads,
    )

-- a line or a write ends it
pub returns-in_err-answer_bytes-clause-goes : goal.returns-in_err-answer_bytes-clause-goes
returns-in_err-answer_bytes-clause-goes g c =
    let told = c.in_err-answer_bytes.ensures in
    let s = stopped g (goal.at.returns-in_err-answer_bytes-clause-goes g c).After-answer_bytes told.takes.1 in
    let p = err_from_is_err_and c.from_residual-in_err-answer_bytes.result c.from_residual-in_err-answer_bytes.ensures.1 in
    let over = g.A.Responder.over (c.answer_bytes.new.first, c.answer_bytes.new.second) in
    (s.0, rw (p.1, p.2) (stops-early g.R.Source.fails g.R.Read.remaining c.read_piece.new.reader over s.0.seen s.0.pieces s.0.left _ told.reads s.2))

-- the stream is over
pub returns-then-is_over-clause-goes : goal.returns-then-is_over-clause-goes
returns-then-is_over-clause-goes g c =
    let told = c.in_ok-answer_bytes.ensures.takes in
    let s = stopped g (goal.at.returns-then-is_over-clause-goes g c).After-answer_bytes told.1 in
    (s.0, (s.1 ∙ told.2.0, inl (sym c.is_over.ensures ∙ c.if-is_over.true, s.2)))

-- too many reads
pub returns-clause-goes : goal.returns-clause-goes
returns-clause-goes g c =
    let so = c.loop-read.invariant in
    let many : 4294967296 ≤ length so.0 = omega arith in
    (record { seen = so.0; reads = so.1.reads; in_time = omega arith; pieces = complete_pieces so.0; left = []; lines = so.1.lines }, (refl, refl, so.6, inr many))
