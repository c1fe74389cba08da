-- Lists of changes that are the same for each table make the same tables.
use Rattle.std.proofs.Common.{◌≡◌, ◌∙◌, ℕ, Bool, true, false, ◌||◌, cond, nat_eq, List, [], ◌∷◌, ◌++◌, map, Some, option_map, unwrap_or, refl, sym, ap, subst, eqb-true, ne_eqb, true≢false, IsTrue}
use Rattle.std.proofs.lemmas.Bool.{eq-eqb}
use Rattle.sb_value.specs.declared.change.Change.{Change}
use Rattle.sb_value.specs.Table.{Table, Entry, IsProper, fits_kind, after_change}
use Rattle.sb_tables.specs.Held.{Held, entries, entry_of, numbered, has_number, stored_at, settled}
use Rattle.sb_tables.specs.Stored.{Stored, IsStored}
use Rattle.sb_tables.specs.Undo.{stored_after}
use Rattle.sb_tables.specs.Laws.{ChangesKeepPlaces}
use Rattle.sb_process.specs.Made.{AreNumbered, AreStored, held_after, tables_after, tables_after_all, without_room}
use Rattle.sb_process.specs.Sharing.{changes_to, ChangeTheSame, AreElsewhere, settled_if, settled_where, TablesAreIndependent, ChangesAreMadeInTurn, ChangesAreJoined, MadeTablesAreSeen, MadeTablesAreThere, SettledTablesAreMade, SettledTablesAreSeen, TablesAreShared}
use Rattle.sb_process.proofs.Making.{number-after, number-after_all, number-room, number-entries, entries-after, entries-after_all, table-stored, stored-after, sound-after_all}
use Rattle.sb_process.proofs.Settling.{same_number, settled-stored}

swapped : (a b : ℕ) → nat_eq a b ≡ false → nat_eq b a ≡ false
swapped a b h = ne_eqb b a (λ e. true≢false (sym (eq-eqb a b (sym e)) ∙ h))

-- ---- a table by itself

abbrev after_each : List Change → Held → Held
after_each [] h = h
after_each (c ∷ cs) h = after_each cs (held_after c h)

none-after_all : (cs : List Change) → tables_after_all cs [] ≡ []
none-after_all [] = refl
none-after_all (c ∷ cs) = none-after_all cs

first-after_all : (cs : List Change) (h : Held) (tables : List Held) → tables_after_all cs (h ∷ tables) ≡ after_each cs h ∷ tables_after_all cs tables
first-after_all [] h tables = refl
first-after_all (c ∷ cs) h tables = first-after_all cs (held_after c h) (tables_after c tables)

number-held : (c : Change) (h : Held) → (held_after c h).id ≡ h.id
number-held c h = by (nat_eq h.id c.table)
  where
    by : (b : Bool) → (cond b (record h { stored = stored_after c h.stored }) h).id ≡ h.id
    by true = refl
    by false = refl

-- a table's own changes are all that counts
own-after : (cs : List Change) (h : Held) → after_each cs h ≡ after_each (changes_to h.id cs) h
own-after [] h = refl
own-after (c ∷ cs) h = by (nat_eq c.table h.id) refl (own-after cs (held_after c h)) (own-after cs h)
  where
    by : (b : Bool) → nat_eq c.table h.id ≡ b → after_each cs (held_after c h) ≡ after_each (changes_to (held_after c h).id cs) (held_after c h) → after_each cs h ≡ after_each (changes_to h.id cs) h →
        after_each cs (held_after c h) ≡ after_each (cond b (c ∷ changes_to h.id cs) (changes_to h.id cs)) h
    by true p own other = own ∙ ap (λ (n : ℕ). after_each (changes_to n cs) (held_after c h)) (number-held c h)
    by false p own other = ap (λ (b : Bool). after_each cs (cond b (record h { stored = stored_after c h.stored }) h)) (swapped c.table h.id p) ∙ other

same-tables : (one other : List Change) → ChangeTheSame one other → (tables : List Held) → tables_after_all one tables ≡ tables_after_all other tables
same-tables one other same [] = none-after_all one ∙ sym (none-after_all other)
same-tables one other same (h ∷ tables) =
    first-after_all one h tables
    ∙ (λ i. (own-after one h ∙ ap (λ (cs : List Change). after_each cs h) (same h.id) ∙ sym (own-after other h)) i ∷ same-tables one other same tables i)
    ∙ sym (first-after_all other h tables)

-- ---- a proper list, table by table

-- changes of one table, made one after another
abbrev FitIn : List Change → Bool → Table → Type 0
FitIn [] there t = Unit {0}
FitIn (c ∷ cs) there t = IsTrue there × fits_kind c.kind c t × FitIn cs there (after_change c t)

other-after : (c : Change) (t : ℕ) → nat_eq c.table t ≡ false → (tables : List Held) → stored_at (tables_after c tables) t ≡ stored_at tables t
other-after c t e [] = refl
other-after c t e (h ∷ tables) = by (nat_eq h.id c.table) refl (other-after c t e tables)
  where
    by : (b : Bool) → nat_eq h.id c.table ≡ b → stored_at (tables_after c tables) t ≡ stored_at tables t →
        unwrap_or
        (option_map (λ (y : Held). y.stored)
        (cond (nat_eq (cond b (record h { stored = stored_after c h.stored }) h).id t) (Some (cond b (record h { stored = stored_after c h.stored }) h)) (numbered (tables_after c tables) t)))
        (stored_at [] t)
        ≡ unwrap_or (option_map (λ (y : Held). y.stored) (cond (nat_eq h.id t) (Some h) (numbered tables t))) (stored_at [] t)
    by true p rest =
        let no : nat_eq h.id t ≡ false = ap (λ (n : ℕ). nat_eq n t) (eqb-true h.id c.table p) ∙ e in
        ap (λ (b : Bool).
        unwrap_or (option_map (λ (y : Held). y.stored) (cond b (Some (record h { stored = stored_after c h.stored })) (numbered (tables_after c tables) t))) (stored_at [] t)) no
        ∙ rest
        ∙ ap (λ (b : Bool). unwrap_or (option_map (λ (y : Held). y.stored) (cond b (Some h) (numbered tables t))) (stored_at [] t)) (sym no)
    by false p rest = each (nat_eq h.id t)
      where
        each : (b : Bool) →
            unwrap_or (option_map (λ (y : Held). y.stored) (cond b (Some h) (numbered (tables_after c tables) t))) (stored_at [] t)
            ≡ unwrap_or (option_map (λ (y : Held). y.stored) (cond b (Some h) (numbered tables t))) (stored_at [] t)
        each true = refl
        each false = rest

-- a table after a change of it
own-table : (c : Change) (t : ℕ) (tables : List Held) → nat_eq c.table t ≡ true → has_number tables t ≡ true → (stored_at (tables_after c tables) t).table ≡ after_change c (stored_at tables t).table
own-table c t tables e there =
    let at : c.table ≡ t = eqb-true c.table t e in
    subst (λ (n : ℕ). (stored_at (tables_after c tables) n).table ≡ after_change c (stored_at tables n).table) at
    (ap (λ (s : Stored). s.table) (stored-after c tables (ap (has_number tables) at ∙ there)))

to-each : (cs : List Change) (tables : List Held) → IsProper (entries tables) cs → (t : ℕ) → FitIn (changes_to t cs) (has_number tables t) (stored_at tables t).table
to-each [] tables p t = tt
to-each (c ∷ cs) tables p t = by (nat_eq c.table t) refl (to-each cs (tables_after c tables) (subst (λ (es : List Entry). IsProper es cs) (sym (entries-after c tables)) p.2) t)
  where
    by : (b : Bool) → nat_eq c.table t ≡ b → FitIn (changes_to t cs) (has_number (tables_after c tables) t) (stored_at (tables_after c tables) t).table →
        FitIn (cond b (c ∷ changes_to t cs) (changes_to t cs)) (has_number tables t) (stored_at tables t).table
    by true e rest =
        let at : c.table ≡ t = eqb-true c.table t e in
        let there : has_number tables t ≡ true = ap (has_number tables) (sym at) ∙ sym (number-entries tables c.table) ∙ p.0 in (
          there,
          subst (λ (n : ℕ). fits_kind c.kind c (stored_at tables n).table) at (subst (fits_kind c.kind c) (table-stored tables c.table) p.1),
          subst (λ (x : Table). FitIn (changes_to t cs) (has_number tables t) x) (own-table c t tables e there)
              (subst (λ (b : Bool). FitIn (changes_to t cs) b (stored_at (tables_after c tables) t).table) (number-after c tables t) rest),
        )
    by false e rest =
        subst (λ (s : Stored). FitIn (changes_to t cs) (has_number tables t) s.table) (other-after c t e tables)
        (subst (λ (b : Bool). FitIn (changes_to t cs) b (stored_at (tables_after c tables) t).table) (number-after c tables t) rest)

from-each : (cs : List Change) (tables : List Held) → ((t : ℕ) → FitIn (changes_to t cs) (has_number tables t) (stored_at tables t).table) → IsProper (entries tables) cs
from-each [] tables h = tt
from-each (c ∷ cs) tables h = (
  number-entries tables c.table ∙ here.0,
  subst (fits_kind c.kind c) (sym (table-stored tables c.table)) here.1,
  subst (λ (es : List Entry). IsProper es cs) (entries-after c tables) (from-each cs (tables_after c tables) (λ t. next t (nat_eq c.table t) refl (h t))),
)
  where
    here : FitIn (c ∷ changes_to c.table cs) (has_number tables c.table) (stored_at tables c.table).table
    here = subst (λ (b : Bool). FitIn (cond b (c ∷ changes_to c.table cs) (changes_to c.table cs)) (has_number tables c.table) (stored_at tables c.table).table) (same_number c.table) (h c.table)

    next : (t : ℕ) (b : Bool) → nat_eq c.table t ≡ b → FitIn (cond b (c ∷ changes_to t cs) (changes_to t cs)) (has_number tables t) (stored_at tables t).table →
        FitIn (changes_to t cs) (has_number (tables_after c tables) t) (stored_at (tables_after c tables) t).table
    next t true e f =
        subst (λ (b : Bool). FitIn (changes_to t cs) b (stored_at (tables_after c tables) t).table) (sym (number-after c tables t))
        (subst (λ (x : Table). FitIn (changes_to t cs) (has_number tables t) x) (sym (own-table c t tables e f.0)) f.2)
    next t false e f =
        subst (λ (b : Bool). FitIn (changes_to t cs) b (stored_at (tables_after c tables) t).table) (sym (number-after c tables t))
        (subst (λ (s : Stored). FitIn (changes_to t cs) (has_number tables t) s.table) (sym (other-after c t e tables)) f)

independent : TablesAreIndependent
independent origin tables one other same m = record {
  numbered = m.numbered;
  stored = m.stored;
  proper = from-each other origin (λ t. subst (λ (cs : List Change). FitIn cs (has_number origin t) (stored_at origin t).table) (same t) (to-each one origin m.proper t));
  made = m.made ∙ ap (map without_room) (same-tables one other same origin);
}

-- ---- one list after the other

after_all-on : (first rest : List Change) (tables : List Held) → tables_after_all (first ++ rest) tables ≡ tables_after_all rest (tables_after_all first tables)
after_all-on [] rest tables = refl
after_all-on (c ∷ first) rest tables = after_all-on first rest (tables_after c tables)

proper-split : (first rest : List Change) (tables : List Held) → IsProper (entries tables) (first ++ rest) → IsProper (entries tables) first × IsProper (entries (tables_after_all first tables)) rest
proper-split [] rest tables p = (tt, p)
proper-split (c ∷ first) rest tables p =
    let e = entries-after c tables in
    let more = proper-split first rest (tables_after c tables) (subst (λ (es : List Entry). IsProper es (first ++ rest)) (sym e) p.2) in
    ((p.0, p.1, subst (λ (es : List Entry). IsProper es first) e more.0), more.1)

proper-join : (first rest : List Change) (tables : List Held) → IsProper (entries tables) first → IsProper (entries (tables_after_all first tables)) rest → IsProper (entries tables) (first ++ rest)
proper-join [] rest tables p q = q
proper-join (c ∷ first) rest tables p q =
    let e = entries-after c tables in
    (p.0, p.1, subst (λ (es : List Entry). IsProper es (first ++ rest)) e (proper-join first rest (tables_after c tables) (subst (λ (es : List Entry). IsProper es first) (sym e) p.2) q))

in_turn : ChangesKeepPlaces → ChangesAreMadeInTurn
in_turn law origin tables first rest m =
    let p = proper-split first rest origin m.proper in
    let sound = sound-after_all law first origin m.numbered m.stored p.0 in (
      record { numbered = m.numbered; stored = m.stored; proper = p.0; made = refl },
      record { numbered = sound.0; stored = sound.1; proper = p.1; made = m.made ∙ ap (map without_room) (after_all-on first rest origin) },
    )

joined : ChangesAreJoined
joined origin mid tables first rest a b = record {
  numbered = a.numbered;
  stored = a.stored;
  proper = proper-join first rest origin a.proper b.proper;
  made = b.made ∙ ap (map without_room) (sym (after_all-on first rest origin));
}

seen : MadeTablesAreSeen
seen origin changes = entries-after_all changes origin

pub there : MadeTablesAreThere
there origin tables changes m id = sym (number-room tables id) ∙ ap (λ ts. has_number ts id) m.made ∙ number-room (tables_after_all changes origin) id ∙ number-after_all changes origin id

-- ---- settled tables

module _ (test : ℕ → Bool) where
  entry-settled : (h : Held) (b : Bool) → entry_of (cond b (record h { stored = settled h.stored }) h) ≡ entry_of h
  entry-settled h true = refl
  entry-settled h false = refl

  pub entries-settled : (tables : List Held) → entries (settled_where test tables) ≡ entries tables
  entries-settled [] = refl
  entries-settled (h ∷ tables) = λ i. entry-settled h (test h.id) i ∷ entries-settled tables i

  number-settled : (tables : List Held) (id : ℕ) → has_number (settled_where test tables) id ≡ has_number tables id
  number-settled [] id = refl
  number-settled (h ∷ tables) id = λ i. nat_eq ((entry-settled h (test h.id) i).id) id || number-settled tables id i

  pub numbered-settled : (tables : List Held) → AreNumbered tables → AreNumbered (settled_where test tables)
  numbered-settled [] n = tt
  numbered-settled (h ∷ tables) n =
      (number-settled tables (settled_if test h).id ∙ ap (λ (e : Entry). has_number tables e.id) (entry-settled h (test h.id)) ∙ n.0, numbered-settled tables n.1)

  pub stored-settled : (tables : List Held) → AreStored tables → AreStored (settled_where test tables)
  stored-settled [] s = tt
  stored-settled (h ∷ tables) s = (by (test h.id), stored-settled tables s.1)
    where
      by : (b : Bool) → IsStored (cond b (record h { stored = settled h.stored }) h).stored
      by true = settled-stored h.stored s.0
      by false = s.0

  -- room makes no difference
  room-settled : (h : Held) → without_room (settled_if test h) ≡ settled_if test (without_room h)
  room-settled h = by (test h.id)
    where
      by : (b : Bool) → without_room (cond b (record h { stored = settled h.stored }) h) ≡ cond b (record (without_room h) { stored = settled (without_room h).stored }) (without_room h)
      by true = refl
      by false = refl

  rooms-settled : (tables : List Held) → map without_room (settled_where test tables) ≡ settled_where test (map without_room tables)
  rooms-settled [] = refl
  rooms-settled (h ∷ tables) = λ i. room-settled h i ∷ rooms-settled tables i

  -- a change of a table that isn't settled may come before or after
  change-settled : (c : Change) → test c.table ≡ false → (h : Held) → held_after c (settled_if test h) ≡ settled_if test (held_after c h)
  change-settled c free h = by (nat_eq h.id c.table) refl (test h.id) refl
    where
      by : (own : Bool) → nat_eq h.id c.table ≡ own → (b : Bool) → test h.id ≡ b →
          held_after c (cond b (record h { stored = settled h.stored }) h) ≡ settled_if test (cond own (record h { stored = stored_after c h.stored }) h)
      by true e true p = absurd (true≢false (sym p ∙ ap test (eqb-true h.id c.table e) ∙ free))
      by true e false p =
          ap (λ (b : Bool). cond b (record h { stored = stored_after c h.stored }) h) e
          ∙ sym (ap (λ (b : Bool). cond b (record h { stored = settled (stored_after c h.stored) }) (record h { stored = stored_after c h.stored })) p)
      by false e true p =
          ap (λ (b : Bool). cond b (record h { stored = stored_after c (settled h.stored) }) (record h { stored = settled h.stored })) e
          ∙ sym (ap (λ (b : Bool). cond b (record h { stored = settled h.stored }) h) p)
      by false e false p =
          ap (λ (b : Bool). cond b (record h { stored = stored_after c h.stored }) h) e
          ∙ sym (ap (λ (b : Bool). cond b (record h { stored = settled h.stored }) h) p)

  after-settled : (c : Change) → test c.table ≡ false → (tables : List Held) → tables_after c (settled_where test tables) ≡ settled_where test (tables_after c tables)
  after-settled c free [] = refl
  after-settled c free (h ∷ tables) = λ i. change-settled c free h i ∷ after-settled c free tables i

  after_all-settled : (cs : List Change) → AreElsewhere test cs → (tables : List Held) → tables_after_all cs (settled_where test tables) ≡ settled_where test (tables_after_all cs tables)
  after_all-settled [] free tables = refl
  after_all-settled (c ∷ cs) free tables = ap (tables_after_all cs) (after-settled c free.0 tables) ∙ after_all-settled cs free.1 (tables_after c tables)

settled_seen : SettledTablesAreSeen
settled_seen test tables = entries-settled test tables

settled_made : ChangesKeepPlaces → SettledTablesAreMade
settled_made law test origin tables own others free m =
    let rest = (in_turn law origin tables own others m).1 in
    let kept : List Held = tables_after_all own origin in
    record {
      numbered = numbered-settled test kept rest.numbered;
      stored = stored-settled test kept rest.stored;
      proper = subst (λ (es : List Entry). IsProper es others) (sym (entries-settled test kept)) rest.proper;
      made = rooms-settled test tables ∙ ap (settled_where test) rest.made ∙ sym (rooms-settled test (tables_after_all others kept))
          ∙ ap (map without_room) (sym (after_all-settled test others free kept));
    }

pub shared : ChangesKeepPlaces → TablesAreShared
shared law = record {
  independent = independent;
  in_turn = in_turn law;
  joined = joined;
  seen = seen;
  there = there;
  settled = settled_made law;
  settled_seen = settled_seen;
}
