use Rattle.std.proofs.Common.{◌≡◌, ◌++◌, ◌∷◌, [], List, ap, refl, sym, ◌∙◌, rules, inl}
use Rattle.std.proofs.lemmas.List.{append-nil, nil_from_length}
use Rattle.sb_durable.specs.Records.{Entry}
use Rattle.sb_durable.specs.RowJournal.{settings_of}
use Rattle.sb_durable.specs.RowReaders.{filed}
use Rattle.sb_durable.specs.Segment.{head_of}
use Rattle.sb_durable.proofs.Batches.{none_waits, all_more}
use Rattle.sb_durable.proofs.Rows.{only_the_newest_is_written}
use Rattle.sb_durable.proofs.RowJournals.{keep_more, more_contents, row_after, row_still, still_or, settings_after, contents_after}
use Rattle.sb_durable.proofs.SegmentCrash.{left_now}
use Rattle.sb_durable.proofs.row_journal.RowJournal.commit.Goals as goal

-- nothing waits
pub returns-then-is_empty-clause-ok : goal.returns-then-is_empty-clause-ok
returns-then-is_empty-clause-ok g c head older entries waiting has =
    let none : c.args.self.now.waiting.items ≡ [] = nil_from_length _ (search rules) in
    let nothing = none_waits waiting (sym has.waits ∙ none) in
    record { contents = has.contents; newest = has.newest; row = has.row; settings = has.settings; batches = has.batches; bytes = has.bytes; all = ap (λ (l : List Entry). entries ++ l) nothing ∙ append-nil entries ∙ has.all; waits = none }

pub returns-then-is_empty-clause-any_moment : goal.returns-then-is_empty-clause-any_moment
returns-then-is_empty-clause-any_moment g c head older entries waiting has files are file left =
    keep_more head has.batches entries waiting _ has.all has.waits _ _ has.bytes
    (only_the_newest_is_written (settings_of head) older (filed c.args.self.now.newest has.contents) files has.row has.settings are _ file (inl (left_now _ _ _ has.contents has.newest file left)))

pub returns-in_err-append-clause-err : goal.returns-in_err-append-clause-err
returns-in_err-append-clause-err g c =
    still_or c.from_residual.result (λ keeps head older entries waiting has. row_still _ _ _ _ head older entries waiting has keeps c.append.ensures.head refl) c.in_err-append.ensures.err

pub returns-in_err-append-clause-any_moment : goal.returns-in_err-append-clause-any_moment
returns-in_err-append-clause-any_moment g c head older entries waiting has files are file left =
    keep_more head has.batches entries waiting c.deref.result.now has.all (c.deref.ensures.value ∙ has.waits) _ _ has.bytes
    (only_the_newest_is_written (settings_of head) older (filed c.args.self.now.newest has.contents) files has.row has.settings are c.deref.result.now file (c.append.ensures.any_moment _ has.newest file left))

pub returns-clause-ok : goal.returns-clause-ok
returns-clause-ok g c head older entries waiting has =
    let own = head_of c.args.self.now.newest in
    let content = c.deref.result.now in
    let is = c.deref.ensures.value ∙ has.waits in
    record {
      contents = has.contents ++ content ∷ [];
      newest = c.in_ok-append.ensures.ok _ has.newest;
      row = row_after (settings_of head) older own (head_of c.append.new.self) has.contents content c.append.ensures.head has.row;
      settings = settings_after (settings_of head) older own (head_of c.append.new.self) has.contents content c.append.ensures.head has.settings;
      batches = has.batches ++ waiting ∷ [];
      bytes = more_contents head has.batches entries waiting content has.all is _ has.bytes ∙ contents_after (settings_of head) older own (head_of c.append.new.self) has.contents content c.append.ensures.head;
      all = all_more has.batches entries waiting has.all;
      waits = c.clear.ensures.items;
    }

pub returns-clause-any_moment : goal.returns-clause-any_moment
returns-clause-any_moment g c head older entries waiting has files are file left =
    keep_more head has.batches entries waiting c.deref.result.now has.all (c.deref.ensures.value ∙ has.waits) _ _ has.bytes
    (only_the_newest_is_written (settings_of head) older (filed c.args.self.now.newest has.contents) files has.row has.settings are c.deref.result.now file (c.append.ensures.any_moment _ has.newest file left))
