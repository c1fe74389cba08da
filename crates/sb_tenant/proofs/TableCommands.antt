-- A new table, and one table less.
use Rattle.std.proofs.Math.Bool.{or_assoc}
use Rattle.std.proofs.Common.{◌≡◌, ◌∙◌, ℕ, ◌<◌, ◌≤◌, Bool, true, false, not, ◌||◌, cond, nat_eq, List, [], ◌∷◌, ◌++◌, map, filter, length, find, Option, Some, None, option_map, refl, sym, ap, eq-eqb, eqb-true, rules}
use Rattle.std.specs.Prelude.{Result, Ok, nat_lt, IsTrue, IsFalse}
use Rattle.std.specs.List.{list_any}
use Rattle.std.proofs.lemmas.List.{map-append}
use Rattle.sb_value.specs.declared.refusal.Refusal.{Refusal}
use Rattle.sb_value.specs.declared.refusal.Refusal.TheVariants as refusal
use Rattle.sb_value.specs.declared.value.ColumnDefinition.{ColumnDefinition}
use Rattle.sb_value.specs.Name.{same_name}
use Rattle.sb_value.specs.Table.{Entry, empty_table}
use Rattle.sb_syntax.specs.Tree as text
use Rattle.sb_check.specs.Names.{and_then, required, some_or}
use Rattle.sb_check.specs.Resolved.{named_twice, new_table, walk_names}
use Rattle.sb_check.specs.Walk.{Schema, table_named}
use Rattle.sb_catalog.specs.Rules.{IsLeastFree, least_free}
use Rattle.sb_catalog.specs.Uses.{is_used}
use Rattle.sb_catalog.specs.declared.rule.Rule.{Rule}
use Rattle.sb_tables.specs.Held.{Held, entries, entry_of, no_rows, named, has_name, has_number, with_table, without_table}
use Rattle.sb_tables.specs.Stored.{IsStored}
use Rattle.sb_process.specs.Made.{AreMade, AreNumbered, AreStored, without_room}
use Rattle.sb_tenant.specs.Limits.{table_limit}
use Rattle.sb_tenant.specs.Resolved.{Resolved, create_table, drop_table}

-- ---- look-ups

-- what a command outside of rules may name
abbrev pub outside : List Entry → Schema
outside tables = record { tables = tables; rule = None }

pub find_entry : (tables : List Held) (name : List ℕ) → find (λ (e : Entry). same_name e.name name) (entries tables) ≡ option_map entry_of (named tables name)
find_entry [] name = refl
find_entry (h ∷ tables) name = by (same_name h.name name) (find_entry tables name)
  where
    by : (b : Bool) → find (λ (e : Entry). same_name e.name name) (entries tables) ≡ option_map entry_of (named tables name) → cond b (Some (entry_of h)) (find (λ (e : Entry). same_name e.name name) (entries tables)) ≡ option_map entry_of (cond b (Some h) (named tables name))
    by true rest = refl
    by false rest = rest

pub any_entry : (tables : List Held) (name : List ℕ) → list_any (λ (e : Entry). same_name e.name name) (entries tables) ≡ has_name tables name
any_entry [] name = refl
any_entry (h ∷ tables) name = ap (λ (b : Bool). same_name h.name name || b) (any_entry tables name)

-- ---- the walk

abbrev pub walk_new : List ℕ → List ColumnDefinition → List Entry → Result Resolved Refusal
walk_new name columns tables =
    and_then (walk_names (outside tables) (text.create_table name columns)) (λ _.
    required (nat_lt (length tables) table_limit) refusal.TooManyTables (Ok (create_table name columns)))

-- a new table's name is no table's
pub new_name : (taken twice : Bool) → required (not taken) refusal.TableExists (required (not twice) refusal.Ambiguous (Ok new_table)) ≡ Ok new_table → taken ≡ false
new_name true twice h = absurd (cc h)
new_name false twice h = refl

pub new_name_of : (tables : List Held) (name : List ℕ) (columns : List ColumnDefinition) → walk_names (outside (entries tables)) (text.create_table name columns) ≡ Ok new_table → IsFalse (has_name tables name)
new_name_of tables name columns h =
    sym (any_entry tables name) ∙ new_name (list_any (λ (e : Entry). same_name e.name name) (entries tables)) (named_twice columns) h

pub has_room_by : (n : ℕ) → n < 16 → nat_lt n table_limit ≡ true
has_room_by n h = search rules

pub is_full_by : (n : ℕ) → 16 ≤ n → nat_lt n table_limit ≡ false
is_full_by n h = search rules

abbrev pub walk_old : List Rule → List ℕ → List Entry → Result Resolved Refusal
walk_old rules name tables =
    and_then (table_named (outside tables) name) (λ e. required (not (is_used rules e.id)) refusal.TableInUse (Ok (drop_table e.id)))

-- the same of the tables in memory
abbrev old_by : List Rule → Option Held → Result Resolved Refusal
old_by rules found = and_then (some_or refusal.NoTable found) (λ h. required (not (is_used rules h.id)) refusal.TableInUse (Ok (drop_table h.id)))

old_as : (rules : List Rule) (found : Option Held)
    → and_then (some_or refusal.NoTable (option_map entry_of found)) (λ e. required (not (is_used rules e.id)) refusal.TableInUse (Ok (drop_table e.id))) ≡ old_by rules found
old_as rules None = refl
old_as rules (Some h) = refl

-- by the number of what is found
abbrev pub old_at : List Rule → Option ℕ → Result Resolved Refusal
old_at rules found = and_then (some_or refusal.NoTable found) (λ id. required (not (is_used rules id)) refusal.TableInUse (Ok (drop_table id)))

at_number : (rules : List Rule) (found : Option Held) → old_by rules found ≡ old_at rules (option_map (λ (h : Held). h.id) found)
at_number rules None = refl
at_number rules (Some h) = refl

pub walk_old_at : (rules : List Rule) (name : List ℕ) (tables : List Held) → walk_old rules name (entries tables) ≡ old_at rules (option_map (λ (h : Held). h.id) (named tables name))
walk_old_at rules name tables =
    ap (λ (o : Option Entry). and_then (some_or refusal.NoTable o) (λ e. required (not (is_used rules e.id)) refusal.TableInUse (Ok (drop_table e.id)))) (find_entry tables name)
    ∙ old_as rules (named tables name) ∙ at_number rules (named tables name)

-- ---- what is made

has_last : (tables : List Held) (h : Held) (id : ℕ) → has_number (tables ++ h ∷ []) id ≡ (has_number tables id || (nat_eq h.id id || false))
has_last [] h id = refl
has_last (t ∷ tables) h id = ap (λ (b : Bool). nat_eq t.id id || b) (has_last tables h id) ∙ sym (or_assoc (nat_eq t.id id) (has_number tables id) (nat_eq h.id id || false))

numbered_last : (tables : List Held) (h : Held) → AreNumbered tables → IsFalse (has_number tables h.id) → AreNumbered (tables ++ h ∷ [])
numbered_last [] h n new = (refl, tt)
numbered_last (t ∷ tables) h n new = (has_last tables h t.id ∙ by (nat_eq h.id t.id) refl, numbered_last tables h n.1 (no_right (nat_eq t.id h.id) new))
  where
    no_right : (a : Bool) → (a || has_number tables h.id) ≡ false → has_number tables h.id ≡ false
    no_right true e = absurd (cc e)
    no_right false e = e

    no_left : (a b : Bool) → (a || b) ≡ false → a ≡ false
    no_left true b e = absurd (cc e)
    no_left false b e = refl

    by : (b : Bool) → nat_eq h.id t.id ≡ b → (has_number tables t.id || (b || false)) ≡ false
    by true e =
        let same : t.id ≡ h.id = sym (eqb-true h.id t.id e) in
        absurd (cc (sym (eq-eqb t.id h.id same) ∙ no_left (nat_eq t.id h.id) (has_number tables h.id) new))
    by false e = ap (λ (b : Bool). b || false) n.0

stored_last : (tables : List Held) (h : Held) → AreStored tables → IsStored h.stored → AreStored (tables ++ h ∷ [])
stored_last [] h s new = (new, tt)
stored_last (t ∷ tables) h s new = (s.0, stored_last tables h s.1 new)

pub same_numbers : (tables : List Held) (id : ℕ) → has_number (map without_room tables) id ≡ has_number tables id
same_numbers [] id = refl
same_numbers (t ∷ tables) id = ap (λ (b : Bool). nat_eq t.id id || b) (same_numbers tables id)

-- the tables with a new one, made at once
pub made_last : (origin tables : List Held) (id : ℕ) (name : List ℕ) (columns : List ColumnDefinition) → IsFalse (has_number tables id) → AreMade origin [] tables
    → AreMade (with_table origin id name columns) [] (with_table tables id name columns)
made_last origin tables id name columns free made =
    let new : Held = record { id = id; name = name; stored = no_rows columns } in
    record {
      numbered = numbered_last origin new made.numbered (sym (same_numbers origin id) ∙ ap (λ ts. has_number ts id) (sym made.made) ∙ same_numbers tables id ∙ free);
      stored = stored_last origin new made.stored ((tt, tt), tt);
      proper = tt;
      made = map-append without_room tables (new ∷ []) ∙ ap (λ ts. ts ++ without_room new ∷ []) made.made ∙ sym (map-append without_room origin (new ∷ []));
    }

pub committed_last : (origin : List Held) (catalog : List Entry) (id : ℕ) (name : List ℕ) (columns : List ColumnDefinition) → entries origin ≡ catalog
    → entries (with_table origin id name columns) ≡ catalog ++ record { id = id; name = name; table = empty_table columns } ∷ []
committed_last origin catalog id name columns e =
    map-append entry_of origin (record { id = id; name = name; stored = no_rows columns } ∷ []) ∙ ap (λ es. es ++ record { id = id; name = name; table = empty_table columns } ∷ []) e

-- more tables are there
pub stays_last : (tables : List Held) (id : ℕ) (name : List ℕ) (columns : List ColumnDefinition) (k : ℕ) → IsTrue (has_number tables k) → IsTrue (has_number (with_table tables id name columns) k)
stays_last tables id name columns k h =
    has_last tables (record { id = id; name = name; stored = no_rows columns }) k ∙ ap (λ (b : Bool). b || (nat_eq id k || false)) h

-- the least free number of the tables in memory is that of the committed ones
has_id : (tables : List Held) (k : ℕ) → list_any (λ (u : ℕ). nat_eq u k) (map (λ (e : Entry). e.id) (entries tables)) ≡ has_number tables k
has_id [] k = refl
has_id (h ∷ tables) k = ap (λ (b : Bool). nat_eq h.id k || b) (has_id tables k)

pub least_number : (tables : List Held) (catalog : List Entry) (id : ℕ) → entries tables ≡ catalog
    → ((used : List ℕ) (n : ℕ) → IsLeastFree used n → least_free used ≡ n)
    → IsFalse (has_number tables id) → ((k : ℕ) → k < id → IsTrue (has_number tables k)) → least_free (map (λ (e : Entry). e.id) catalog) ≡ id
least_number tables catalog id e only free least =
    ap (λ (es : List Entry). least_free (map (λ (x : Entry). x.id) es)) (sym e)
    ∙ only (map (λ (x : Entry). x.id) (entries tables)) id (record { free = has_id tables id ∙ free; least = λ k below. has_id tables k ∙ least k below })

-- ---- what is left

others_numbered : (id : ℕ) (t : Held) (tables : List Held) → IsFalse (has_number tables t.id) → IsFalse (has_number (without_table id tables) t.id)
others_numbered id t [] h = h
others_numbered id t (x ∷ tables) h = by (nat_eq x.id id) (nat_eq x.id t.id) refl (others_numbered id t tables)
  where
    by : (b c : Bool) → nat_eq x.id t.id ≡ c → (IsFalse (has_number tables t.id) → IsFalse (has_number (without_table id tables) t.id))
        → IsFalse (has_number (cond (not b) (x ∷ without_table id tables) (without_table id tables)) t.id)
    by b true e rest = absurd (cc (sym (ap (λ (d : Bool). d || has_number tables t.id) e) ∙ h))
    by true false e rest = rest (sym (ap (λ (d : Bool). d || has_number tables t.id) e) ∙ h)
    by false false e rest = ap (λ (d : Bool). d || has_number (without_table id tables) t.id) e ∙ rest (sym (ap (λ (d : Bool). d || has_number tables t.id) e) ∙ h)

each_less : (Each : List Held → Type 0) (id : ℕ) (t : Held) (tables : List Held) → Each (without_table id tables) → (Each (without_table id tables) → Each (t ∷ without_table id tables)) → Each (without_table id (t ∷ tables))
each_less Each id t tables rest more = elim (nat_eq t.id id) as (λ b. Each (cond (not b) (t ∷ without_table id tables) (without_table id tables))) [ true ↦ rest | false ↦ more rest ]

numbered_less : (id : ℕ) (tables : List Held) → AreNumbered tables → AreNumbered (without_table id tables)
numbered_less id [] n = tt
numbered_less id (t ∷ tables) n = each_less AreNumbered id t tables (numbered_less id tables n.1) (λ rest. (others_numbered id t tables n.0, rest))

stored_less : (id : ℕ) (tables : List Held) → AreStored tables → AreStored (without_table id tables)
stored_less id [] s = tt
stored_less id (t ∷ tables) s = each_less AreStored id t tables (stored_less id tables s.1) (λ rest. (s.0, rest))

unroomed_less : (id : ℕ) (tables : List Held) → map without_room (without_table id tables) ≡ without_table id (map without_room tables)
unroomed_less id [] = refl
unroomed_less id (t ∷ tables) = by (nat_eq t.id id) (unroomed_less id tables)
  where
    by : (b : Bool) → map without_room (without_table id tables) ≡ without_table id (map without_room tables) → map without_room (cond (not b) (t ∷ without_table id tables) (without_table id tables)) ≡ cond (not b) (without_room t ∷ without_table id (map without_room tables)) (without_table id (map without_room tables))
    by true rest = rest
    by false rest = ap (λ ts. without_room t ∷ ts) rest

pub made_less : (origin tables : List Held) (id : ℕ) → AreMade origin [] tables → AreMade (without_table id origin) [] (without_table id tables)
made_less origin tables id made = record {
  numbered = numbered_less id origin made.numbered;
  stored = stored_less id origin made.stored;
  proper = tt;
  made = unroomed_less id tables ∙ ap (without_table id) made.made ∙ sym (unroomed_less id origin);
}

entries_less : (id : ℕ) (tables : List Held) → entries (without_table id tables) ≡ filter (λ (e : Entry). not (nat_eq e.id id)) (entries tables)
entries_less id [] = refl
entries_less id (t ∷ tables) = by (nat_eq t.id id) (entries_less id tables)
  where
    by : (b : Bool) → entries (without_table id tables) ≡ filter (λ (e : Entry). not (nat_eq e.id id)) (entries tables) → entries (cond (not b) (t ∷ without_table id tables) (without_table id tables))
        ≡ cond (not b) (entry_of t ∷ filter (λ (e : Entry). not (nat_eq e.id id)) (entries tables)) (filter (λ (e : Entry). not (nat_eq e.id id)) (entries tables))
    by true rest = rest
    by false rest = ap (λ es. entry_of t ∷ es) rest

pub committed_less : (origin : List Held) (catalog : List Entry) (id : ℕ) → entries origin ≡ catalog → entries (without_table id origin) ≡ filter (λ (e : Entry). not (nat_eq e.id id)) catalog
committed_less origin catalog id e = entries_less id origin ∙ ap (filter (λ (x : Entry). not (nat_eq x.id id))) e

pub stays_less : (tables : List Held) (id k : ℕ) → IsFalse (nat_eq k id) → IsTrue (has_number tables k) → IsTrue (has_number (without_table id tables) k)
stays_less [] id k other h = h
stays_less (t ∷ tables) id k other h = by (nat_eq t.id id) (nat_eq t.id k) refl refl (stays_less tables id k other)
  where
    by : (b c : Bool) → nat_eq t.id id ≡ b → nat_eq t.id k ≡ c → (IsTrue (has_number tables k) → IsTrue (has_number (without_table id tables) k))
        → IsTrue (has_number (cond (not b) (t ∷ without_table id tables) (without_table id tables)) k)
    by true true p q rest = absurd (cc (sym (eq-eqb k id (sym (eqb-true t.id k q) ∙ eqb-true t.id id p)) ∙ other))
    by true false p q rest = rest (sym (ap (λ (d : Bool). d || has_number tables k) q) ∙ h)
    by false true p q rest = ap (λ (d : Bool). d || has_number (without_table id tables) k) q
    by false false p q rest = ap (λ (d : Bool). d || has_number (without_table id tables) k) q ∙ rest (sym (ap (λ (d : Bool). d || has_number tables k) q) ∙ h)
