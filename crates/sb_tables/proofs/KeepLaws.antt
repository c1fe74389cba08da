-- A change keeps a stored table stored, and only one table can be before it.
use Rattle.std.proofs.Common.{◌≡◌, ℕ, suc, ◌+◌, ◌<◌, ◌≤◌, true, false, cond, not, ◌==◌, List, [], ◌∷◌, ◌++◌, map, length, Option, Some, None, IsSome, IsTrue, inl, inr, refl, sym, ◌∙◌, ap, subst, arith}
use Rattle.std.specs.Prelude.{find, option_map, Contains}
use Rattle.std.specs.List.{list_any}
use Rattle.std.proofs.lemmas.Bool.{eqb-true, eq-eqb, false≢true, or_cases, or_left, or_right}
use Rattle.std.proofs.lemmas.List.{map_push, same_from_push}
use Rattle.std.proofs.lemmas.List.Folds.{list_any-append}
use Rattle.sb_value.specs.declared.value.Value.{Value}
use Rattle.sb_value.specs.declared.change.Change.{Change}
use Rattle.sb_value.specs.declared.change.ChangeKind.{ChangeKind}
use Rattle.sb_value.specs.declared.change.ChangeKind.TheVariants.{Inserted, Deleted, Updated}
use Rattle.sb_value.specs.Table.{Table, IsTable, new_row, after_kind, fits_kind}
use Rattle.sb_tables.specs.Rising.{Rises}
use Rattle.sb_tables.specs.Stored.{Stored, IsStored, HavePlaces, numbers_of}
use Rattle.sb_tables.specs.Undo.{IsBefore, places_after}
use Rattle.sb_tables.specs.Laws.{ChangesKeepPlaces, TablesBeforeAreOne}
use Rattle.sb_tables.proofs.RisingLaws.{rises_push, rises_lower}
use Rattle.sb_tables.proofs.RowLaws.{Numbered, row_of, others, replaced, table_rises, rises_below, rises_rising}
use Rattle.sb_tables.proofs.UndoLaws.{undo-deleted, undo-updated}

is_table : (t : Table) → Rises 0 (numbers_of t.rows) t.next → IsTable t
is_table t h = (rises_below 0 t.rows t.next h, rises_rising 0 t.rows t.next h)

rises-others : (n low : ℕ) (rows : List Numbered) (high : ℕ) → Rises low (numbers_of rows) high → Rises low (numbers_of (others n rows)) high
rises-others n low [] high h = h
rises-others n low (r ∷ rows) high h =
    let a : low ≤ r.0 = h.0 in let rest = rises-others n (r.0 + 1) rows high h.1 in
    elim (r.0 == n) as (λ b. Rises low (numbers_of (cond (not b) (r ∷ others n rows) (others n rows))) high) [
      | true ↦ rises_lower (r.0 + 1) low (numbers_of (others n rows)) high (omega arith) rest
      | false ↦ (a, rest)
    ]

replaced-number : (n : ℕ) (row : List Value) (r : Numbered) → (replaced n row r).0 ≡ r.0
replaced-number n row r =
    elim (r.0 == n) as (λ b. (r.0 == n) ≡ b → (let q : Numbered = cond b (n, row) r in q).0 ≡ r.0) [ true ↦ λ e. sym (eqb-true r.0 n e) | false ↦ λ _. refl ] refl

numbers-replaced : (n : ℕ) (row : List Value) (rows : List Numbered) → numbers_of (map (replaced n row) rows) ≡ numbers_of rows
numbers-replaced n row [] = refl
numbers-replaced n row (r ∷ rows) = λ i. replaced-number n row r i ∷ numbers-replaced n row rows i

-- ---- places

have_more : (ns places more : List ℕ) → HavePlaces ns places → HavePlaces ns (places ++ more)
have_more [] places more h = tt
have_more (n ∷ ns) places more h =
    (list_any-append (λ m. m == n) places more ∙ or_left (list_any (λ m. m == n) places) (list_any (λ m. m == n) more) h.0, have_more ns places more h.1)

have_last : (n : ℕ) (places : List ℕ) → IsTrue (list_any (λ m. m == n) (places ++ n ∷ []))
have_last n places =
    list_any-append (λ m. m == n) places (n ∷ [])
    ∙ or_right (list_any (λ m. m == n) places) (list_any (λ m. m == n) (n ∷ [])) (or_left (n == n) false (eq-eqb n n refl))

have_push : (ns : List ℕ) (n : ℕ) (places : List ℕ) → HavePlaces ns places → HavePlaces (ns ++ n ∷ []) (places ++ n ∷ [])
have_push [] n places h = (have_last n places, tt)
have_push (m ∷ ns) n places h =
    (list_any-append (λ k. k == m) places (n ∷ []) ∙ or_left (list_any (λ k. k == m) places) (list_any (λ k. k == m) (n ∷ [])) h.0, have_push ns n places h.1)

have_others : (n : ℕ) (rows : List Numbered) (places : List ℕ) → HavePlaces (numbers_of rows) places → HavePlaces (numbers_of (others n rows)) places
have_others n [] places h = tt
have_others n (r ∷ rows) places h =
    let rest = have_others n rows places h.1 in
    elim (r.0 == n) as (λ b. HavePlaces (numbers_of (cond (not b) (r ∷ others n rows) (others n rows))) places) [ true ↦ rest | false ↦ (h.0, rest) ]

contains : (places : List ℕ) (n : ℕ) → IsTrue (list_any (λ m. m == n) places) → Contains places n
contains [] n h = absurd (false≢true h)
contains (m ∷ places) n h =
    elim (or_cases (m == n) (list_any (λ k. k == n) places) h) [
      | inl here ↦ (0, omega arith, eqb-true m n here)
      | inr there ↦ let rest = contains places n there in let lt : rest.0 < length places = rest.1 in (suc rest.0, omega arith, rest.2)
    ]

row_place : (n : ℕ) (rows : List Numbered) (places : List ℕ) → HavePlaces (numbers_of rows) places → IsSome (row_of n rows) → IsTrue (list_any (λ m. m == n) places)
row_place n [] places h s = absurd (false≢true s)
row_place n (r ∷ rows) places h s =
    elim (r.0 == n) as (λ b. (r.0 == n) ≡ b → IsSome (option_map (λ q. q.1) (cond b (Some r) (find (λ q. q.0 == n) rows))) → IsTrue (list_any (λ m. m == n) places)) [
      | true ↦ λ e _. subst (λ k. IsTrue (list_any (λ m. m == k) places)) (eqb-true r.0 n e) h.0
      | false ↦ λ _ s. row_place n rows places h.1 s
    ] refl s

-- ---- the laws

keeps : (k : ChangeKind) (c : Change) (s : Stored) → IsStored s → fits_kind k c s.table → IsStored (record { table = after_kind k c s.table; places = places_after k c.tuple s.places; room = s.room }) × Contains (places_after k c.tuple s.places) c.tuple
keeps Inserted c s is fits =
    let rises = rises_push 0 (numbers_of s.table.rows) s.table.next (table_rises s.table is.0) in
    let numbers : numbers_of (s.table.rows ++ (s.table.next, new_row c) ∷ []) ≡ numbers_of s.table.rows ++ s.table.next ∷ [] = map_push (λ r. r.0) s.table.rows (s.table.next, new_row c) in (
      (
        is_table (after_kind Inserted c s.table) (subst (λ ns. Rises 0 ns (s.table.next + 1)) (sym numbers) rises),
        subst (λ ns. HavePlaces ns (s.places ++ c.tuple ∷ [])) (sym numbers)
            (subst (λ n. HavePlaces (numbers_of s.table.rows ++ n ∷ []) (s.places ++ c.tuple ∷ [])) fits.0 (have_push (numbers_of s.table.rows) c.tuple s.places is.1)),
      ),
      contains (s.places ++ c.tuple ∷ []) c.tuple (have_last c.tuple s.places),
    )
keeps Deleted c s is fits = (
  (is_table (after_kind Deleted c s.table) (rises-others c.tuple 0 s.table.rows s.table.next (table_rises s.table is.0)), have_others c.tuple s.table.rows s.places is.1),
  contains s.places c.tuple (row_place c.tuple s.table.rows s.places is.1 (subst IsSome (sym fits.0) fits.1)),
)
keeps Updated c s is fits =
    let numbers = numbers-replaced c.tuple (new_row c) s.table.rows in (
      (
        is_table (after_kind Updated c s.table) (subst (λ ns. Rises 0 ns s.table.next) (sym numbers) (table_rises s.table is.0)),
        subst (λ ns. HavePlaces ns s.places) (sym numbers) is.1,
      ),
      contains s.places c.tuple (row_place c.tuple s.table.rows s.places is.1 (subst IsSome (sym fits.0) fits.1)),
    )

pub changes_keep_places : ChangesKeepPlaces
changes_keep_places c s is fits = keeps c.kind c s is fits

there : {A : Type 0} (o : Option A) → IsSome o → (x : A) × (o ≡ Some x)
there None h = absurd (false≢true h)
there (Some x) h = (x, refl)

inserted_one : (c : Change) (now one other : Table) → after_kind Inserted c one ≡ now → after_kind Inserted c other ≡ now → one ≡ other
inserted_one c now one other a b =
    let rows = same_from_push one.rows other.rows (one.next, new_row c) (other.next, new_row c) (ap (λ t. t.rows) a ∙ sym (ap (λ t. t.rows) b)) in
    let columns : one.columns ≡ other.columns = ap (λ t. t.columns) a ∙ sym (ap (λ t. t.columns) b) in
    let next : one.next ≡ other.next = ap (λ r. r.0) rows.1 in
    λ i. record { columns = columns i; rows = rows.0 i; next = next i }

one_before : (k : ChangeKind) (c : Change) (now one other : Table) → c.kind ≡ k → IsBefore c now one → IsBefore c now other → one ≡ other
one_before Inserted c now one other kind a b = inserted_one c now one other (subst (λ k. after_kind k c one ≡ now) kind a.made) (subst (λ k. after_kind k c other ≡ now) kind b.made)
one_before Deleted c now one other kind a b =
    let fits : fits_kind Deleted c one = subst (λ k. fits_kind k c one) kind a.fits in let old = there c.old fits.1 in
    sym (undo-deleted c old.0 now one a old.1 kind) ∙ undo-deleted c old.0 now other b old.1 kind
one_before Updated c now one other kind a b =
    let fits : fits_kind Updated c one = subst (λ k. fits_kind k c one) kind a.fits in let old = there c.old fits.1 in
    sym (undo-updated c old.0 now one a old.1 kind) ∙ undo-updated c old.0 now other b old.1 kind

pub tables_before_are_one : TablesBeforeAreOne
tables_before_are_one c now one other a b = one_before c.kind c now one other refl a b
