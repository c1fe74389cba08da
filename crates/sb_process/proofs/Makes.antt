-- One change more is made.
use Rattle.std.proofs.lemmas.Bool.{or_parts}
use Rattle.std.proofs.Common.{◌≡◌, ◌∙◌, Bool, true, false, cond, nat_eq, List, [], ◌∷◌, ◌++◌, map, Some, option_map, unwrap_or, refl, sym, ap, subst, eqb-true}
use Rattle.sb_value.specs.declared.change.Change.{Change}
use Rattle.sb_value.specs.Table.{Entry, IsProper, fits_kind, after, after_all, table_at, has_table}
use Rattle.sb_tables.specs.Stored.{Stored}
use Rattle.sb_tables.specs.Held.{Held, entries, numbered, has_number, stored_at, with_stored}
use Rattle.sb_tables.specs.Laws.{ChangesKeepPlaces}
use Rattle.sb_tables.specs.Undo.{stored_after}
use Rattle.sb_process.specs.Made.{AreNumbered, AreMade, tables_after, tables_after_all, without_room}
use Rattle.sb_process.specs.Make.{Makes}
use Rattle.sb_process.proofs.Making.{number-room, number-entries, entries-made, stored-room, table-stored, room-with_stored, after_all-push, sound-after_all}
use Rattle.sb_process.proofs.Settling.{none-with}

proper_with : (cs : List Change) (c : Change) (ts : List Entry) → IsProper ts cs → has_table (after_all cs ts) c.table ≡ true → fits_kind c.kind c (table_at (after_all cs ts) c.table) → IsProper ts (cs ++ c ∷ [])
proper_with [] c ts h there fits = (there, fits, tt)
proper_with (d ∷ cs) c ts h there fits = (h.0, h.1, proper_with cs c (after d ts) h.2 there fits)

none_after : (c : Change) (tables : List Held) → has_number tables c.table ≡ false → tables_after c tables ≡ tables
none_after c [] none = refl
none_after c (h ∷ tables) none =
    λ i. cond ((or_parts (nat_eq h.id c.table) (has_number tables c.table) none).0 i) (record h { stored = stored_after c h.stored }) h
    ∷ none_after c tables (or_parts (nat_eq h.id c.table) (has_number tables c.table) none).1 i

written_by : (c : Change) (h : Held) (tables : List Held) (b : Bool) → nat_eq h.id c.table ≡ b → (b ≡ true → has_number tables c.table ≡ false) →
    with_stored c.table (record (stored_after c (stored_at tables c.table)) { room = 0 }) (map without_room tables) ≡ map without_room (tables_after c tables) →
    with_stored c.table (record (stored_after c (unwrap_or (option_map (λ (x : Held). x.stored) (cond b (Some h) (numbered tables c.table))) (stored_at [] c.table))) { room = 0 })
    (without_room h ∷ map without_room tables)
    ≡ without_room (cond b (record h { stored = stored_after c h.stored }) h) ∷ map without_room (tables_after c tables)
written_by c h tables true p alone rest =
    let s : Stored = record (stored_after c h.stored) { room = 0 } in
    λ i. cond (p i) (record (without_room h) { stored = s }) (without_room h)
    ∷ (none-with c.table s (map without_room tables) (number-room tables c.table ∙ alone refl) ∙ ap (map without_room) (sym (none_after c tables (alone refl)))) i
written_by c h tables false p alone rest =
    λ i. cond (p i) (record (without_room h) { stored = record (stored_after c (stored_at tables c.table)) { room = 0 } }) (without_room h) ∷ rest i

-- what is stored after the change is written
pub written_on : (c : Change) (tables : List Held) → AreNumbered tables →
    with_stored c.table (record (stored_after c (stored_at tables c.table)) { room = 0 }) (map without_room tables) ≡ map without_room (tables_after c tables)
written_on c [] n = refl
written_on c (h ∷ tables) n =
    written_by c h tables (nat_eq h.id c.table) refl (λ p. ap (has_number tables) (sym (eqb-true h.id c.table p)) ∙ n.0) (written_on c tables n.1)

-- the tables with one change more
pub made_with : (law : ChangesKeepPlaces) (origin : List Held) (cs : List Change) (c : Change) (old new : List Held) → AreMade origin cs old → has_number old c.table ≡ true →
    fits_kind c.kind c (stored_at old c.table).table → Makes c old new → AreMade origin (cs ++ c ∷ []) new
made_with law origin cs c old new m there fits made =
    let prev : List Held = tables_after_all cs origin in
    let seen : entries old ≡ after_all cs (entries origin) = entries-made origin cs old m in
    let same : record (stored_at old c.table) { room = 0 } ≡ record (stored_at prev c.table) { room = 0 } =
    sym (stored-room old c.table) ∙ ap (λ ts. stored_at ts c.table) m.made ∙ stored-room prev c.table in
    record {
      numbered = m.numbered;
      stored = m.stored;
      proper = proper_with cs c (entries origin) m.proper (ap (λ es. has_table es c.table) (sym seen) ∙ number-entries old c.table ∙ there)
          (subst (fits_kind c.kind c) (sym (table-stored old c.table) ∙ ap (λ es. table_at es c.table) seen) fits);
      made =
          ap (map without_room) made
          ∙ room-with_stored c.table _ old
          ∙ (λ i. with_stored c.table (record (stored_after c (same i)) { room = 0 }) (m.made i))
          ∙ written_on c prev (sound-after_all law cs origin m.numbered m.stored m.proper).0
          ∙ ap (map without_room) (sym (after_all-push cs c origin));
    }
