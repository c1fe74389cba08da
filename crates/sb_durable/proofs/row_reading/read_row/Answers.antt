use Rattle.std.proofs.Common.{◌≡◌, ◌∷◌, ◌++◌, ◌+◌, ◌<◌, [], ℕ, List, ap, sym, subst, ◌∙◌, arith, refl, length, length-append, take, get_or, slice_index, Some, IsTrue}
use Rattle.std.proofs.lemmas.List.{take_all, take_more, append-nil}
use Rattle.sb_durable.specs.Head.{Head, IsHead, IsUnbegun, Stands}
use Rattle.sb_durable.specs.Journal.{all_of}
use Rattle.sb_durable.specs.Row.{IsNext}
use Rattle.sb_durable.specs.RowReaders.{filed, last_of}
use Rattle.sb_durable.specs.RowReplays.{ReadsRow}
use Rattle.sb_durable.specs.Segment.{device_of, head_of}
use Rattle.sb_durable.specs.declared.segment.error.SegmentError.TheVariants.{NotBegun}
use Rattle.sb_durable.specs.declared.segment.reader.RowError.TheVariants.{Segment}
use Rattle.sb_durable.proofs.RowReplays.{all-append, are_now, binds_now, kept_played, kept_played_before, next_number, plays_first, plays_next}
use Rattle.sb_durable.proofs.row_reading.read_row.Goals as goal

-- the oldest segment
pub loop-k-init : goal.loop-k-init
loop-k-init g c =
    let disk = g.D.Disk in
    let has = g.F.SegmentFiles.has c.args.files.now in
    let numbers = c.args.wanted.numbers.now in
    let opened = c.in_ok-reader.reader in
    let own = c.in_ok-reader.ensures in
    let now = c.play_segment.new.reader in
    let p = c.in_default.ensures.plays in
    let stays = c.play_segment.ensures.same in
    let fits = subst IsHead (sym stays.head) own.fits in
    let number = ap (λ (h : Head). h.number) stays.head ∙ own.number in
    let first = plays_first has disk.seen disk.is_clean g.S.Plays.plays _ _ now fits (get_or numbers 0 0) number (subst (λ f. has (get_or numbers 0 0) f) (sym stays.file) own.has) (λ clean unbegun. own.begun (stays.clean clean) (subst IsUnbegun stays.file unbegun))
    (λ clean head contents stands. stays.knows contents (own.knows (stays.clean clean) head contents (subst (λ f. Stands head contents f) stays.file stands))) p.0 (binds_now disk.seen disk.may_leave disk.is_clean opened now stays p.0 p.3 own.bears)
    (are_now disk.seen disk.may_leave disk.is_clean opened now stays p.0 p.3 own.knows) (take 1 numbers) (take_more numbers 0 0 c.requires.some) p.1 in (
      [],
      first.0,
      omega (arith, p.2, ap (λ bs. length (all_of bs)) first.1),
      fits,
      (0, omega arith, number),
    )

-- one more
pub loop-k-preserved : goal.loop-k-preserved
loop-k-preserved g c =
    let disk = g.D.Disk in
    let has = g.F.SegmentFiles.has c.args.files.now in
    let numbers = c.args.wanted.numbers.now in
    let i = c.loop-k.invariant in
    let went = c.in-Ok.ensures in
    let opened = c.go_on.new.self in
    let now = c.play_segment-in-loop-k.new.reader in
    let p = c.in_default-play_segment.ensures.plays in
    let stays = c.play_segment-in-loop-k.ensures.same in
    let fits = subst IsHead (sym stays.head) went.fits in
    let own = filed (last_of c.loop-k.reader) i.1.last in
    let next = subst (λ (h : Head). IsNext own h) (sym stays.head) (went.next i.1.last i.1.end) in
    let number = next_number numbers i.4.0 c.loop-k.k _ _ i.4.1 c.loop-k-test.true c.requires.follow i.4.2 next.number in
    let file = subst (λ f. has (get_or numbers c.loop-k.k 0) f) (sym (stays.file ∙ went.same.0)) c.in_ok-file.ensures.has in
    let more = plays_next has disk.seen disk.is_clean g.S.Plays.plays _ _ now fits (get_or numbers c.loop-k.k 0) number file (λ clean unbegun. went.begun (stays.clean clean) (subst IsUnbegun (stays.file ∙ went.same.0) unbegun))
    (λ clean head contents stands. stays.knows contents (went.knows (stays.clean clean) head contents (subst (λ f. Stands head contents f) (stays.file ∙ went.same.0) stands)).1) p.0 (binds_now disk.seen disk.may_leave disk.is_clean opened now stays p.0 p.3 went.bears)
    (are_now disk.seen disk.may_leave disk.is_clean opened now stays p.0 p.3 (λ clean head contents stands. (went.knows clean head contents (subst (λ f. Stands head contents f) went.same.0 stands)).1)) _ c.loop-k.reader _ i.0 i.1 next
    (take (c.loop-k.k + 1) numbers) (take_more numbers c.loop-k.k 0 c.loop-k-test.true) p.1 in (
      i.0 ++ own ∷ [],
      more.0,
      omega (arith, i.2, p.2, ap (λ bs. length (all_of bs)) more.1, ap length (all-append i.1.batches p.0), length-append (all_of i.1.batches) (all_of p.0)),
      fits,
      (c.loop-k.k, refl, number),
    )

-- the newest one has not begun
pub returns-in-Err-Segment-NotBegun-default-clause-reads : goal.returns-in-Err-Segment-NotBegun-default-clause-reads
returns-in-Err-Segment-NotBegun-default-clause-reads g c =
    let disk = g.D.Disk in
    let has = g.F.SegmentFiles.has c.args.files.now in
    let numbers = c.args.wanted.numbers.now in
    let i = c.loop-k.invariant in
    let e = c.in-Err-Segment-NotBegun-default in
    let same = rw e.field-0-0-is at e.field-0-0-0-is in
    let unbegun : IsTrue (disk.is_clean e.file) → IsUnbegun (disk.seen e.file) = λ clean. subst IsUnbegun (sym e.ensures.same_err.0) (e.ensures.refused NotBegun (e.field-0-0-is ∙ ap Segment same) clean) in
    let before : ReadsRow has disk.seen disk.is_clean g.S.Plays.plays c.args.player.now c.loop-k.player c.loop-k.reader numbers (Some e.file) c.loop-k.records = record {
      older = i.0;
      begun = take c.loop-k.k numbers;
      behind = get_or numbers c.loop-k.k 0 ∷ [];
      whole = sym (sym (take_more numbers c.loop-k.k 0 c.loop-k-test.true) ∙ take_all (c.loop-k.k + 1) numbers (omega (arith, c.if-k-numbers.true)));
      row = i.1;
      count = i.2;
      rest = (subst (λ f. has (get_or numbers c.loop-k.k 0) f) (sym e.ensures.same_err.0) c.in_ok-file.ensures.has, unbegun);
      kept = kept_played_before has disk.seen disk.is_clean g.S.Plays.plays _ _ c.loop-k.reader _ i.0 i.1 e.file unbegun;
    } in
    subst (λ r. ReadsRow has disk.seen disk.is_clean g.S.Plays.plays c.args.player.now c.loop-k.player r numbers (Some e.file) c.loop-k.records) (sym e.ensures.err) before

pub returns-clause-reads : goal.returns-clause-reads
returns-clause-reads g c =
    let disk = g.D.Disk in
    let has = g.F.SegmentFiles.has c.args.files.now in
    let numbers = c.args.wanted.numbers.now in
    let i = c.loop-k.invariant in
    record {
      older = i.0;
      begun = take c.loop-k.k numbers;
      behind = [];
      whole = sym (append-nil (take c.loop-k.k numbers) ∙ take_all c.loop-k.k numbers c.loop-k-test.false);
      row = i.1;
      count = i.2;
      rest = tt;
      kept = kept_played has disk.seen disk.is_clean g.S.Plays.plays _ _ c.loop-k.reader _ i.0 i.1;
    }
