-- Tables under their numbers, as their slots hold them.
use Rattle.std.proofs.Common.{◌≡◌, ◌∙◌, ℕ, zero, suc, Bool, true, false, not, ◌||◌, cond, nat_eq, List, [], ◌∷◌, ◌++◌, map, filter, set, drop, Option, Some, None, option_map, unwrap_or, is_some, slice_get, refl, sym, ap, subst, eq-eqb, eqb-true, ne_eqb}
use Rattle.std.specs.List.{list_any}
use Rattle.sb_tables.specs.Stored.{Stored}
use Rattle.std.specs.Map.{lookup}
use Rattle.std.proofs.lemmas.Option.{none-some, same_Some, slice_get-map}
use Rattle.std.specs.Cmp.{eq_by_cmp_equiv}
use Rattle.std.specs.Cmp.Lexicographic.{nat_list_cmp_total}
use Rattle.std.proofs.Math.Bool.{or-true}
use Rattle.std.proofs.lemmas.Bool.{eqb-false, or_parts}
use Rattle.std.proofs.lemmas.List.{map-append}
use Rattle.sb_value.specs.Name.{same_name}
use Rattle.sb_value.specs.declared.value.ColumnDefinition.{ColumnDefinition}
use Rattle.sb_tables.specs.Held.{Held, no_rows, named, numbered, has_name, has_number, stored_at, NamesAgreeWithNumbers, with_stored, with_table, without_table}
use Rattle.sb_tables.specs.Filled.{slot_at, held_in, AreFilled}

abbrev pub Slotted : Type 0
Slotted = List (Option Stored)

abbrev pub Named : Type 0
Named = List (List ℕ × ℕ)

abbrev pub has : Named → ℕ → Bool
has es id = list_any (λ e. nat_eq e.1 id) es

-- slots that differ at one number at most
abbrev pub IsFilledAt : ℕ → Option Stored → Slotted → Slotted → Type 0
IsFilledAt id o old new = (k : ℕ) → slot_at new k ≡ cond (nat_eq k id) o (slot_at old k)

-- ---- look-ups

pub any_held : (slots : Slotted) (es : Named) (id : ℕ) → has_number (map (held_in slots) es) id ≡ has es id
any_held slots [] id = refl
any_held slots (e ∷ es) id = ap (λ (b : Bool). nat_eq e.1 id || b) (any_held slots es id)

pub there : (slots : Slotted) (es : Named) (id : ℕ) → AreFilled es slots → is_some (slot_at slots id) ≡ has_number (map (held_in slots) es) id
there slots es id h = h id ∙ sym (any_held slots es id)

none_there : (o : Option Stored) → is_some o ≡ false → None ≡ o
none_there None e = refl
none_there (Some s) e = absurd (cc)

some_there : (o : Option Stored) (d : Stored) → is_some o ≡ true → Some (unwrap_or o d) ≡ o
some_there None d e = absurd (cc)
some_there (Some s) d e = refl

found_by : (slots : Slotted) (e : List ℕ × ℕ) (es : Named) (id : ℕ) (b : Bool) → nat_eq e.1 id ≡ b → is_some (slot_at slots id) ≡ (b || has es id) →
    (is_some (slot_at slots id) ≡ has es id → option_map (λ (h : Held). h.stored) (numbered (map (held_in slots) es) id) ≡ slot_at slots id) →
    option_map (λ (h : Held). h.stored) (cond b (Some (held_in slots e)) (numbered (map (held_in slots) es) id)) ≡ slot_at slots id
found_by slots e es id true p h rest =
    ap (λ (k : ℕ). Some (unwrap_or (slot_at slots k) (no_rows []))) (eqb-true e.1 id p) ∙ some_there (slot_at slots id) (no_rows []) h
found_by slots e es id false p h rest = rest h

pub found : (slots : Slotted) (es : Named) (id : ℕ) → is_some (slot_at slots id) ≡ has es id → option_map (λ (h : Held). h.stored) (numbered (map (held_in slots) es) id) ≡ slot_at slots id
found slots [] id h = none_there (slot_at slots id) h
found slots (e ∷ es) id h = found_by slots e es id (nat_eq e.1 id) refl h (found slots es id)

pub found_stored : (slots : Slotted) (es : Named) (id : ℕ) (s : Stored) → AreFilled es slots → slot_at slots id ≡ Some s → stored_at (map (held_in slots) es) id ≡ s
found_stored slots es id s h e = ap (λ (o : Option Stored). unwrap_or o (no_rows [])) (found slots es id (h id) ∙ e)

-- ---- changes of one slot

pub same_held : (old new : Slotted) (es : Named) → ((k : ℕ) → slot_at new k ≡ slot_at old k) → map (held_in new) es ≡ map (held_in old) es
same_held old new [] h = refl
same_held old new (e ∷ es) h = λ i. record { id = e.1; name = e.0; stored = unwrap_or (h e.1 i) (no_rows []) } ∷ same_held old new es h i

pub written : (old new : Slotted) (es : Named) (id : ℕ) (s : Stored) → IsFilledAt id (Some s) old new → map (held_in new) es ≡ with_stored id s (map (held_in old) es)
written old new [] id s h = refl
written old new (e ∷ es) id s h = λ i. ((λ j. record { id = e.1; name = e.0; stored = unwrap_or (h e.1 j) (no_rows []) }) ∙ by (nat_eq e.1 id)) i ∷ written old new es id s h i
  where
    by : (b : Bool) → record { id = e.1; name = e.0; stored = unwrap_or (cond b (Some s) (slot_at old e.1)) (no_rows []) } ≡ cond b (record (held_in old e) { stored = s }) (held_in old e)
    by true = refl
    by false = refl

pub kept : (old new : Slotted) (es : Named) (id : ℕ) (s : Stored) → is_some (slot_at old id) ≡ true → IsFilledAt id (Some s) old new → AreFilled es old → AreFilled es new
kept old new es id s some h filled k = ap is_some (h k) ∙ by (nat_eq k id) refl
  where
    by : (b : Bool) → nat_eq k id ≡ b → is_some (cond b (Some s) (slot_at old k)) ≡ has es k
    by true p = sym some ∙ ap (λ (n : ℕ). is_some (slot_at old n)) (sym (eqb-true k id p)) ∙ filled k
    by false p = filled k

set_here : (slots : Slotted) (id : ℕ) (o : Option Stored) → is_some (slot_at slots id) ≡ true → slot_at (set slots id o) id ≡ o
set_here [] id o h = absurd (cc)
set_here (x ∷ xs) zero o h = refl
set_here (x ∷ xs) (suc id) o h = set_here xs id o h

set_elsewhere : (slots : Slotted) (id k : ℕ) (o : Option Stored) → (k ≡ id → ⊥) → slot_at (set slots id o) k ≡ slot_at slots k
set_elsewhere [] id k o h = refl
set_elsewhere (x ∷ xs) zero zero o h = absurd (h refl)
set_elsewhere (x ∷ xs) zero (suc k) o h = refl
set_elsewhere (x ∷ xs) (suc id) zero o h = refl
set_elsewhere (x ∷ xs) (suc id) (suc k) o h = set_elsewhere xs id k o (λ e. h (ap suc e))

-- a slot that is there is written in place
pub filled_at : (slots : Slotted) (id : ℕ) (o : Option Stored) → is_some (slot_at slots id) ≡ true → IsFilledAt id o slots (set slots id o)
filled_at slots id o some k = by (nat_eq k id) refl
  where
    by : (b : Bool) → nat_eq k id ≡ b → slot_at (set slots id o) k ≡ cond b o (slot_at slots k)
    by true p = ap (slot_at (set slots id o)) (eqb-true k id p) ∙ set_here slots id o some
    by false p = set_elsewhere slots id k o (eqb-false k id p)

-- where a number's slot is none of the names', the names don't see what is put there
pub others_held : (old new : Slotted) (es : Named) (id : ℕ) (o : Option Stored) → has es id ≡ false → IsFilledAt id o old new → map (held_in new) es ≡ map (held_in old) es
others_held old new [] id o none h = refl
others_held old new (e ∷ es) id o none h =
    let other : nat_eq e.1 id ≡ false = (or_parts (nat_eq e.1 id) (has es id) none).0 in
    λ i. record { id = e.1; name = e.0; stored = unwrap_or ((h e.1 ∙ ap (λ b. cond b o (slot_at old e.1)) other) i) (no_rows []) }
    ∷ others_held old new es id o (or_parts (nat_eq e.1 id) (has es id) none).1 h i

-- what a name shows is what is stored under its number
pub stays : (slots : Slotted) (es : Named) (id : ℕ) (s : Stored) → slot_at slots id ≡ Some s → map (held_in slots) es ≡ with_stored id s (map (held_in slots) es)
stays slots es id s e = written slots slots es id s same
  where
    same : IsFilledAt id (Some s) slots slots
    same k = by (nat_eq k id) refl
      where
        by : (b : Bool) → nat_eq k id ≡ b → slot_at slots k ≡ cond b (Some s) (slot_at slots k)
        by true p = ap (slot_at slots) (eqb-true k id p) ∙ e
        by false p = refl

-- ---- one table more

pub has_none : (slots : Slotted) (es : Named) (id : ℕ) → AreFilled es slots → slot_at slots id ≡ None → has es id ≡ false
has_none slots es id h e = sym (h id) ∙ ap is_some e

any_push : (es : Named) (name : List ℕ) (id k : ℕ) → has (es ++ (name, id) ∷ []) k ≡ (has es k || nat_eq id k)
any_push [] name id k = by (nat_eq id k)
  where
    by : (b : Bool) → (b || false) ≡ b
    by true = refl
    by false = refl
any_push (e ∷ es) name id k = ap (λ (b : Bool). nat_eq e.1 k || b) (any_push es name id k) ∙ sym (assoc (nat_eq e.1 k))
  where
    assoc : (b : Bool) → ((b || has es k) || nat_eq id k) ≡ (b || (has es k || nat_eq id k))
    assoc true = refl
    assoc false = refl

pub kept_with : (old new : Slotted) (es : Named) (name : List ℕ) (id : ℕ) (s : Stored) → IsFilledAt id (Some s) old new → AreFilled es old → AreFilled (es ++ (name, id) ∷ []) new
kept_with old new es name id s h filled k = ap is_some (h k) ∙ by (nat_eq k id) refl ∙ sym (any_push es name id k)
  where
    both : (b : Bool) → (b || true) ≡ true
    both true = refl
    both false = refl

    none : (b : Bool) → (b || false) ≡ b
    none true = refl
    none false = refl

    by : (b : Bool) → nat_eq k id ≡ b → is_some (cond b (Some s) (slot_at old k)) ≡ (has es k || nat_eq id k)
    by true p = sym (both (has es k)) ∙ ap (λ (b : Bool). has es k || b) (sym (eq-eqb id k (sym (eqb-true k id p))))
    by false p = filled k ∙ sym (none (has es k)) ∙ ap (λ (b : Bool). has es k || b) (sym (ne_eqb id k (λ e. eqb-false k id p (sym e))))

pub view_with : (old new : Slotted) (es : Named) (name : List ℕ) (id : ℕ) (columns : List ColumnDefinition) → IsFilledAt id (Some (no_rows columns)) old new → AreFilled es old → slot_at old id ≡ None →
    map (held_in new) (es ++ (name, id) ∷ []) ≡ with_table (map (held_in old) es) id name columns
view_with old new es name id columns h filled none =
    map-append (held_in new) es ((name, id) ∷ [])
    ∙ (λ i. others_held old new es id (Some (no_rows columns)) (has_none old es id filled none) h i
    ++ record { id = id; name = name; stored = unwrap_or ((h id ∙ ap (λ b. cond b (Some (no_rows columns)) (slot_at old id)) (eq-eqb id id refl)) i) (no_rows []) } ∷ [])

-- the slot of a new number is emptied again
pub cleared : (old mid new : Slotted) (id : ℕ) (o : Option Stored) → slot_at old id ≡ None → IsFilledAt id o old mid → IsFilledAt id None mid new → (k : ℕ) → slot_at new k ≡ slot_at old k
cleared old mid new id o none h g k = g k ∙ by (nat_eq k id) refl
  where
    by : (b : Bool) → nat_eq k id ≡ b → cond b None (slot_at mid k) ≡ slot_at old k
    by true p = sym none ∙ ap (slot_at old) (sym (eqb-true k id p))
    by false p = h k ∙ ap (λ (b : Bool). cond b o (slot_at old k)) p

pub kept_same : (old new : Slotted) (es : Named) → ((k : ℕ) → slot_at new k ≡ slot_at old k) → AreFilled es old → AreFilled es new
kept_same old new es h filled k = ap is_some (h k) ∙ filled k

-- ---- one table less

abbrev pub without : ℕ → Named → Named
without id es = filter (λ e. not (nat_eq e.1 id)) es

has_without : (es : Named) (id k : ℕ) → has (without id es) k ≡ cond (nat_eq k id) false (has es k)
has_without [] id k = by (nat_eq k id)
  where
    by : (b : Bool) → false ≡ cond b false false
    by true = refl
    by false = refl
has_without (e ∷ es) id k = without_by e es id k (nat_eq e.1 id) (nat_eq e.1 k) (nat_eq k id) refl refl refl (has_without es id k)
  where
    without_by : (e : List ℕ × ℕ) (es : Named) (id k : ℕ) (a b d : Bool) → nat_eq e.1 id ≡ a → nat_eq e.1 k ≡ b → nat_eq k id ≡ d → has (without id es) k ≡ cond d false (has es k) →
        has (cond (not a) (e ∷ without id es) (without id es)) k ≡ cond d false (b || has es k)
    without_by e es id k true true true p q r h = h
    without_by e es id k true true false p q r h = absurd (eqb-false k id r (sym (eqb-true e.1 k q) ∙ eqb-true e.1 id p))
    without_by e es id k true false d p q r h = h
    without_by e es id k false true true p q r h = absurd (eqb-false e.1 id p (eqb-true e.1 k q ∙ eqb-true k id r))
    without_by e es id k false true false p q r h = ap (λ (b : Bool). b || has (without id es) k) q
    without_by e es id k false false d p q r h = ap (λ (b : Bool). b || has (without id es) k) q ∙ h

pub kept_without : (old new : Slotted) (es : Named) (id : ℕ) → IsFilledAt id None old new → AreFilled es old → AreFilled (without id es) new
kept_without old new es id h filled k = ap is_some (h k) ∙ by (nat_eq k id) ∙ sym (has_without es id k)
  where
    by : (b : Bool) → is_some (cond b None (slot_at old k)) ≡ cond b false (has es k)
    by true = refl
    by false = filled k

view_by : (old new : Slotted) (e : List ℕ × ℕ) (es : Named) (id : ℕ) (b : Bool) → nat_eq e.1 id ≡ b → IsFilledAt id None old new →
    map (held_in new) (without id es) ≡ without_table id (map (held_in old) es) →
    map (held_in new) (cond (not b) (e ∷ without id es) (without id es)) ≡ cond (not b) (held_in old e ∷ without_table id (map (held_in old) es)) (without_table id (map (held_in old) es))
view_by old new e es id true p h rest = rest
view_by old new e es id false p h rest =
    λ i. record { id = e.1; name = e.0; stored = unwrap_or ((h e.1 ∙ ap (λ (b : Bool). cond b None (slot_at old e.1)) p) i) (no_rows []) } ∷ rest i

pub view_without : (old new : Slotted) (es : Named) (id : ℕ) → IsFilledAt id None old new → map (held_in new) (without id es) ≡ without_table id (map (held_in old) es)
view_without old new [] id h = refl
view_without old new (e ∷ es) id h = view_by old new e es id (nat_eq e.1 id) refl h (view_without old new es id h)

-- ---- names

pub lookup_named : (slots : Slotted) (es : Named) (name : List ℕ) → lookup (same_name name) es ≡ option_map (λ (h : Held). h.id) (named (map (held_in slots) es) name)
lookup_named slots [] name = refl
lookup_named slots (e ∷ es) name =
    (λ i. cond ((eq_by_cmp_equiv nat_list_cmp_total).symm name e.0 i) (Some e.1) (lookup_named slots es name i)) ∙ by (same_name e.0 name)
  where
    by : (b : Bool) → cond b (Some e.1) (option_map (λ (h : Held). h.id) (named (map (held_in slots) es) name)) ≡ option_map (λ (h : Held). h.id) (cond b (Some (held_in slots e)) (named (map (held_in slots) es) name))
    by true = refl
    by false = refl

-- a table under a name is what is stored under its number
by_number : (slots : Slotted) (es : Named) (name : List ℕ)
    → option_map (λ (h : Held). h.stored) (named (map (held_in slots) es) name) ≡ option_map (λ (id : ℕ). unwrap_or (slot_at slots id) (no_rows [])) (option_map (λ (h : Held). h.id) (named (map (held_in slots) es) name))
by_number slots [] name = refl
by_number slots (e ∷ es) name = by (same_name e.0 name) (by_number slots es name)
  where
    by : (b : Bool)
        → option_map (λ (h : Held). h.stored) (named (map (held_in slots) es) name) ≡ option_map (λ (id : ℕ). unwrap_or (slot_at slots id) (no_rows [])) (option_map (λ (h : Held). h.id) (named (map (held_in slots) es) name))
        → option_map (λ (h : Held). h.stored) (cond b (Some (held_in slots e)) (named (map (held_in slots) es) name))
        ≡ option_map (λ (id : ℕ). unwrap_or (slot_at slots id) (no_rows [])) (option_map (λ (h : Held). h.id) (cond b (Some (held_in slots e)) (named (map (held_in slots) es) name)))
    by true rest = refl
    by false rest = rest

-- what a name finds is what its number finds
pub names_agree : (slots : Slotted) (es : Named) → AreFilled es slots → NamesAgreeWithNumbers (map (held_in slots) es)
names_agree slots es filled name h is =
    same_Some h.stored (unwrap_or (slot_at slots h.id) (no_rows []))
    (subst (λ (o : Option Held). option_map (λ (x : Held). x.stored) o ≡ option_map (λ (id : ℕ). unwrap_or (slot_at slots id) (no_rows [])) (option_map (λ (x : Held). x.id) o)) is (by_number slots es name))
    ∙ sym (ap (λ (o : Option Stored). unwrap_or o (no_rows [])) (found slots es h.id (filled h.id)))

has_found : (test : List ℕ → Bool) (es : Named) (id : ℕ) → lookup test es ≡ Some id → has es id ≡ true
has_found test [] id h = absurd (cc)
has_found test (e ∷ es) id h = by (test e.0) h (has_found test es id)
  where
    by : (b : Bool) → cond b (Some e.1) (lookup test es) ≡ Some id → (lookup test es ≡ Some id → has es id ≡ true) → (nat_eq e.1 id || has es id) ≡ true
    by true h rest = ap (λ (b : Bool). b || has es id) (eq-eqb e.1 id (same_Some e.1 id h))
    by false h rest = ap (λ (b : Bool). nat_eq e.1 id || b) (rest h) ∙ or-true (nat_eq e.1 id)

-- the slot that a name leads to holds the table of that name
pub slot_named : (slots : Slotted) (es : Named) (name : List ℕ) (id : ℕ) → AreFilled es slots → lookup (same_name name) es ≡ Some id
    → slot_at slots id ≡ option_map (λ (h : Held). h.stored) (named (map (held_in slots) es) name)
slot_named slots es name id filled h =
    sym (some_there (slot_at slots id) (no_rows []) (filled id ∙ has_found (same_name name) es id h))
    ∙ ap (option_map (λ (k : ℕ). unwrap_or (slot_at slots k) (no_rows []))) (sym h ∙ lookup_named slots es name)
    ∙ sym (by_number slots es name)

pub none_named : (slots : Slotted) (es : Named) (name : List ℕ) → lookup (same_name name) es ≡ None → None ≡ option_map (λ (h : Held). h.stored) (named (map (held_in slots) es) name)
none_named slots es name h =
    ap (option_map (λ (k : ℕ). unwrap_or (slot_at slots k) (no_rows []))) (sym h ∙ lookup_named slots es name) ∙ sym (by_number slots es name)

pub some_named : (tables : List Held) (name : List ℕ) → is_some (named tables name) ≡ has_name tables name
some_named [] name = refl
some_named (h ∷ tables) name = by (same_name h.name name) (some_named tables name)
  where
    by : (b : Bool) → is_some (named tables name) ≡ has_name tables name → is_some (cond b (Some h) (named tables name)) ≡ (b || has_name tables name)
    by true e = refl
    by false e = e

no_name : (o : Option Held) → is_some o ≡ false → option_map (λ (h : Held). h.id) o ≡ None
no_name None e = refl
no_name (Some h) e = absurd (cc)

-- a name that no table has isn't there
pub not_named : (slots : Slotted) (es : Named) (name : List ℕ) → has_name (map (held_in slots) es) name ≡ false → lookup (same_name name) es ≡ None
not_named slots es name e =
    lookup_named slots es name ∙ no_name (named (map (held_in slots) es) name) (some_named (map (held_in slots) es) name ∙ e)

-- ---- the name of a number

abbrev pub name_of : Slotted → Named → ℕ → Option (List ℕ)
name_of slots es id = option_map (λ (h : Held). h.name) (numbered (map (held_in slots) es) id)

one_more : (slots : Slotted) (e : List ℕ × ℕ) (es : Named) (id : ℕ) (b : Bool) →
    option_map (λ (h : Held). h.name) (cond b (Some (held_in slots e)) (numbered (map (held_in slots) es) id)) ≡ cond b (Some e.0) (name_of slots es id)
one_more slots e es id true = refl
one_more slots e es id false = refl

-- the name from a place on
pub name_from : (slots : Slotted) (es : Named) (id i : ℕ) (e : List ℕ × ℕ) → slice_get es i ≡ Some e →
    name_of slots (drop i es) id ≡ cond (nat_eq e.1 id) (Some e.0) (name_of slots (drop (suc i) es) id)
name_from slots [] id i e h = absurd (none-some e h)
name_from slots (d ∷ es) id zero e h = one_more slots d es id (nat_eq d.1 id) ∙ ap (λ (x : List ℕ × ℕ). cond (nat_eq x.1 id) (Some x.0) (name_of slots es id)) (same_Some d e h)
name_from slots (d ∷ es) id (suc i) e h = name_from slots es id i e h

-- ---- by place

has_placed : (es : Named) (k : ℕ) (e : List ℕ × ℕ) → slice_get es k ≡ Some e → has es e.1 ≡ true
has_placed [] k e h = absurd (none-some e h)
has_placed (d ∷ es) zero e h = ap (λ (b : Bool). b || has es e.1) (eq-eqb d.1 e.1 (ap (λ (p : List ℕ × ℕ). p.1) (same_Some d e h)))
has_placed (d ∷ es) (suc k) e h = ap (λ (b : Bool). nat_eq d.1 e.1 || b) (has_placed es k e h) ∙ or-true (nat_eq d.1 e.1)

pub placed : (slots : Slotted) (es : Named) (k : ℕ) (e : List ℕ × ℕ) → AreFilled es slots → slice_get es k ≡ Some e
    → slot_at slots e.1 ≡ option_map (λ (h : Held). h.stored) (slice_get (map (held_in slots) es) k)
placed slots es k e filled h =
    sym (some_there (slot_at slots e.1) (no_rows []) (filled e.1 ∙ has_placed es k e h))
    ∙ sym (ap (option_map (λ (h : Held). h.stored)) (slice_get-map (held_in slots) es k ∙ ap (option_map (held_in slots)) h))

pub none_placed : (slots : Slotted) (es : Named) (k : ℕ) → slice_get es k ≡ None → None ≡ option_map (λ (h : Held). h.stored) (slice_get (map (held_in slots) es) k)
none_placed slots es k h = sym (ap (option_map (λ (h : Held). h.stored)) (slice_get-map (held_in slots) es k ∙ ap (option_map (held_in slots)) h))
