use Rattle.std.proofs.Common.{◌≡◌, inl, inr, sym, ap, ◌∙◌, subst}
use Rattle.sb_tables.specs.Undo.{places_after, room_before}
use Rattle.sb_tables.proofs.UndoLaws.{undo-deleted, undo-updated}
use Rattle.sb_tables.proofs.table.Table.undo.Goals as goal

-- the row is put back under its number, after a delete and after an update
pub returns-in-Deleted : goal.returns-in-Deleted
returns-in-Deleted c =
    let now = c.args.self.now in let new = c.put_back.new.self in let change = c.args.change in
    elim c.in-Deleted.is [
      | inl deleted ↦ record {
        table = λ before is. ap (λ s. s.table) c.put_back.ensures ∙ undo-deleted change c.unwrap.result now.table before is c.unwrap.ensures deleted;
        places = subst (λ k. now.places ≡ places_after k change.tuple new.places) (sym deleted) (sym (ap (λ s. s.places) c.put_back.ensures));
        room = subst (λ k. new.room ≡ room_before k now.room) (sym deleted) (ap (λ s. s.room) c.put_back.ensures);
      }
      | inr updated ↦ record {
        table = λ before is. ap (λ s. s.table) c.put_back.ensures ∙ undo-updated change c.unwrap.result now.table before is c.unwrap.ensures updated;
        places = subst (λ k. now.places ≡ places_after k change.tuple new.places) (sym updated) (sym (ap (λ s. s.places) c.put_back.ensures));
        room = subst (λ k. new.room ≡ room_before k now.room) (sym updated) (ap (λ s. s.room) c.put_back.ensures);
      }
    ]
