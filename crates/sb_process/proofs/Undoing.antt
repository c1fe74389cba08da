-- The newest change of a list undone.
use Rattle.std.proofs.Common.{◌≡◌, ◌∙◌, ℕ, true, List, [], ◌∷◌, ◌++◌, map, Contains, sym, ap, subst}
use Rattle.std.proofs.lemmas.List.{append_cancel_right}
use Rattle.sb_value.specs.declared.change.Change.{Change}
use Rattle.sb_value.specs.declared.change.ChangeKind.{ChangeKind}
use Rattle.sb_value.specs.declared.change.ChangeKind.TheVariants.{Inserted, Deleted, Updated}
use Rattle.sb_value.specs.Table.{fits_kind, table_at, has_table}
use Rattle.sb_tables.specs.Stored.{Stored, IsStored}
use Rattle.sb_tables.specs.Held.{Held, entries, has_number, stored_at, with_stored}
use Rattle.sb_tables.specs.Undo.{IsBefore, IsNewest, Undoes, stored_after, places_after}
use Rattle.sb_tables.specs.Laws.{ChangesKeepPlaces}
use Rattle.sb_process.specs.Made.{AreMade, AreNumbered, AreStored, tables_after, tables_after_all, without_room}
use Rattle.sb_process.proofs.Making.{number-entries, number-room, number-after, entries-after_all, stored-room, table-stored, stored-after, written-back, room-with_stored, stored-of, after_all-push, proper-push, sound-after_all}

-- the places before a change are determined
same_places : (k : ChangeKind) (tuple : ℕ) (one other : List ℕ) → places_after k tuple one ≡ places_after k tuple other → one ≡ other
same_places Inserted tuple one other e = append_cancel_right one other (tuple ∷ []) e
same_places Deleted tuple one other e = e
same_places Updated tuple one other e = e

module _ (law : ChangesKeepPlaces) (origin : List Held) (cs : List Change) (c : Change) (tables : List Held) (m : AreMade origin (cs ++ c ∷ []) tables) where
  -- the tables before the change
  abbrev prev : List Held
  prev = tables_after_all cs origin

  -- the tables now are these with the change
  now : map without_room tables ≡ map without_room (tables_after c prev)
  now = m.made ∙ ap (map without_room) (after_all-push cs c origin)

  there-prev : has_number prev c.table ≡ true
  there-prev =
      sym (number-entries prev c.table) ∙ ap (λ es. has_table es c.table) (entries-after_all cs origin) ∙ (proper-push cs c (entries origin) m.proper).1

  sound : AreNumbered prev × AreStored prev
  sound = sound-after_all law cs origin m.numbered m.stored (proper-push cs c (entries origin) m.proper).0

  fits : fits_kind c.kind c (stored_at prev c.table).table
  fits =
      subst (fits_kind c.kind c) (ap (λ es. table_at es c.table) (sym (entries-after_all cs origin)) ∙ table-stored prev c.table)
      (proper-push cs c (entries origin) m.proper).2

  keeps : IsStored (stored_after c (stored_at prev c.table)) × Contains (stored_after c (stored_at prev c.table)).places c.tuple
  keeps = law c (stored_at prev c.table) (stored-of prev c.table sound.1 there-prev) fits

  -- what is stored now
  stored-now : record (stored_at tables c.table) { room = 0 } ≡ record (stored_after c (stored_at prev c.table)) { room = 0 }
  stored-now =
      sym (stored-room tables c.table) ∙ ap (λ ts. stored_at ts c.table) now ∙ stored-room (tables_after c prev) c.table
      ∙ ap (λ (s : Stored). record s { room = 0 }) (stored-after c prev there-prev)

  pub undo_there : has_number tables c.table ≡ true
  undo_there = sym (number-room tables c.table) ∙ ap (λ ts. has_number ts c.table) now ∙ number-room (tables_after c prev) c.table ∙ number-after c prev c.table ∙ there-prev

  is_before : IsBefore c (stored_at tables c.table).table (stored_at prev c.table).table
  is_before = record {
    is_table = (stored-of prev c.table sound.1 there-prev).0;
    fits = fits;
    made = sym (ap (λ (s : Stored). s.table) stored-now);
  }

  pub undo_newest : IsNewest c (stored_at tables c.table).table
  undo_newest = ((stored_at prev c.table).table, is_before)

  pub undo_kept : Contains (stored_at tables c.table).places c.tuple
  undo_kept = subst (λ ps. Contains ps c.tuple) (sym (ap (λ (s : Stored). s.places) stored-now)) keeps.1

  -- and the tables afterwards are those before the change
  pub undone : (before : Stored) → Undoes c (stored_at tables c.table) before → AreMade origin cs (with_stored c.table before tables)
  undone before u = record {
    numbered = m.numbered;
    stored = m.stored;
    proper = (proper-push cs c (entries origin) m.proper).0;
    made =
        room-with_stored c.table before tables
        ∙ (λ i. with_stored c.table (same i) (now i))
        ∙ written-back c prev sound.0;
  }
    where
      places : before.places ≡ (stored_at prev c.table).places
      places = same_places c.kind c.tuple before.places (stored_at prev c.table).places (sym u.places ∙ ap (λ (s : Stored). s.places) stored-now)

      same : record before { room = 0 } ≡ record (stored_at prev c.table) { room = 0 }
      same = λ i. record { table = u.table (stored_at prev c.table).table is_before i; places = places i; room = 0 }
