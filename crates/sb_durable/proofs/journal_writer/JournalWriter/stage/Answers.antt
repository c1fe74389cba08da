use Rattle.std.proofs.Common.{◌≡◌, ◌+◌, ◌≤◌, ◌++◌, ◌∷◌, [], IsTrue, List, is_ok, length, map, take, set, sym, ap, subst, ◌∙◌, arith, append_assoc}
use Rattle.std.proofs.lemmas.Bool.{false≢true}
use Rattle.std.proofs.lemmas.List.{append-nil, map_more, set-set}
use Rattle.std.proofs.lemmas.Result.{err_from_is_err_and}
use Rattle.sb_durable.specs.Records.{Entry}
use Rattle.sb_durable.specs.EntryReaders.{record_of_note}
use Rattle.sb_durable.specs.Recording.{renewals_of}
use Rattle.sb_durable.specs.declared.entry_reader.PendingEntry.{PendingEntry}
use Rattle.sb_durable.specs.declared.recorded_reach.RecordedReach.{RecordedReach}
use Rattle.sb_durable.proofs.Parts.{staged_front}
use Rattle.sb_durable.proofs.journal_writer.JournalWriter.stage.Goals as goal

pub loop-note-init : goal.loop-note-init
loop-note-init g c =
    let reach : RecordedReach = c.args.start.reach in
    let none : reach.entries ≡ reach.entries + 0 = omega arith in
    record {
      reach = (λ i. record { volume = reach.volume; entries = none i });
      counts = c.in_ok-begin.ensures.counts;
      has = λ base records waiting has.
          subst (λ (w : List Entry). g.B.BatchJournal.has c.begin.new.self.journal base records (waiting ++ w)) (sym (append-nil (renewals_of c.args.tenant c.args.start.is_renewed))) (c.in_ok-begin.ensures.has base records waiting has);
    }

pub loop-note-preserved : goal.loop-note-preserved
loop-note-preserved g c =
    let t = c.args.tenant in
    let start = c.args.start in
    let i = c.loop-note.note-index in
    let rec = c.args.self.now.recorded.items in
    let inv = c.loop-note.invariant in
    let before : List Entry = renewals_of t start.is_renewed ++ map (record_of_note t) (take i c.args.notes.now) in
    let more : map (record_of_note t) (take (i + 1) c.args.notes.now) ≡ map (record_of_note t) (take i c.args.notes.now) ++ record_of_note t c.note-item.result ∷ [] =
    map_more (record_of_note t) c.args.notes.now i c.note-item.result (omega (arith, c.loop-note-test.true)) ∙ ap (λ (n : PendingEntry). map (record_of_note t) (take i c.args.notes.now) ++ record_of_note t n ∷ []) (sym c.note-item.is) in
    let count : c.in-Some.entries ≡ start.reach.entries + (i + 1) = omega (arith, ap (λ (r : RecordedReach). r.entries) inv.reach, c.in-Some.ensures) in
    let all : (waiting : List Entry) → (waiting ++ before) ++ record_of_note t c.note-item.result ∷ [] ≡ waiting ++ (renewals_of t start.is_renewed ++ map (record_of_note t) (take (i + 1) c.args.notes.now)) =
    (λ waiting. append_assoc waiting before (record_of_note t c.note-item.result ∷ [])
    ∙ ap (λ (l : List Entry). waiting ++ l) (append_assoc (renewals_of t start.is_renewed) (map (record_of_note t) (take i c.args.notes.now)) (record_of_note t c.note-item.result ∷ []) ∙ ap (λ (l : List Entry). renewals_of t start.is_renewed ++ l) (sym more))) in
    record {
      reach = (λ j. record { volume = (inv.reach j).volume; entries = count j });
      counts = ap (λ (l : List RecordedReach). set l t (record { volume = c.loop-note.reach.volume; entries = c.in-Some.entries })) inv.counts ∙ set-set rec t c.loop-note.reach (record { volume = c.loop-note.reach.volume; entries = c.in-Some.entries });
      has = λ base records waiting has.
          subst (λ (w : List Entry). g.B.BatchJournal.has c.stage_one.new.journal base records w) (all waiting)
          (c.in_ok-stage_one.ensures.ok base records _ (inv.has base records waiting has));
    }

-- some may be staged
pub returns-in_err-stage_one-clause-staged : goal.returns-in_err-stage_one-clause-staged
returns-in_err-stage_one-clause-staged g c =
    let inv = c.loop-note.invariant in
    let i = c.loop-note.note-index in
    let few : i ≤ length c.args.notes.now = omega (arith, c.loop-note-test.true) in
    let failed = err_from_is_err_and c.from_residual-in_err-stage_one.result c.from_residual-in_err-stage_one.ensures.1 in
    staged_front g.B.BatchJournal _ _ c.args.tenant c.args.start c.args.notes.now i _ c.loop-note.reach few
    (λ (is : IsTrue (is_ok c.from_residual-in_err-stage_one.result)). absurd (false≢true (sym (ap (λ r. is_ok r) failed.1) ∙ is)))
    inv.reach inv.counts (λ base records waiting has. c.in_err-stage_one.ensures.err base records _ (inv.has base records waiting has))
