use Rattle.std.proofs.Common.{◌∙◌, ap, sym, List, Vec, Global}
use Rattle.sb_value.specs.declared.change.Change.{Change}
use Rattle.sb_eval.specs.Statement as spec
use Rattle.sb_eval.proofs.Changing.{each-found, updates-are}
use Rattle.sb_eval.proofs.Results.{same_answers}
use Rattle.sb_eval.proofs.Rooms.{none_added}
use Rattle.sb_eval.proofs.statement.all_changes.Goals as goal

pub returns-in-Delete : goal.returns-in-Delete
returns-in-Delete g c =
    let seen = g.S.Sources.seen c.args.sources.now in
    rw c.in-Delete.is (same_answers {X = Vec Change Global} {A = List Change} (λ changes. changes.items) _ _ _
    (none_added _ ∙ ap spec.or_overflow (sym (each-found (spec.delete_change seen c.in-Delete.table) (spec.found seen c.in-Delete.table c.in-Delete.filter))))
    (c.answer_of.ensures _ c.target_changes.ensures))

pub returns-in-Update : goal.returns-in-Update
returns-in-Update g c =
    let seen = g.S.Sources.seen c.args.sources.now in
    rw c.in-Update.is (same_answers {X = Vec Change Global} {A = List Change} (λ changes. changes.items) _ _ _
    (none_added _ ∙ ap spec.or_overflow (sym (updates-are seen c.in-Update.table c.in-Update.filter c.as_slice-list.result.now c.in-Update.assignments c.places.result c.as_slice-list.ensures c.places.ensures)))
    (c.answer_of-in-Update.ensures _ c.target_changes-in-Update.ensures))
