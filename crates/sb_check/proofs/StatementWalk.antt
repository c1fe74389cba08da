-- The walk of statements, and of assignments one at a time.
use Rattle.std.proofs.Common.{ℕ, ◌+◌, ◌<◌, ◌≤◌, length, drop, get_or, ◌≡◌, refl, sym, ap, ◌∙◌, Bool, true, false, List, [], ◌∷◌, ◌++◌, map, append_assoc, append-nil}
use Rattle.std.proofs.lemmas.List.{map-append, drop_more, drop_all, length-map, get_or-map}
use Rattle.std.proofs.lemmas.List.Folds.{list_any-append}
use Rattle.std.specs.Prelude.{None, Some, not, ◌==◌, ◌||◌, Result, Ok, Err}
use Rattle.std.specs.List.{list_any}
use Rattle.sb_value.specs.declared.refusal.Refusal.{Refusal}
use Rattle.sb_value.specs.declared.refusal.Refusal.TheVariants as refusal
use Rattle.sb_value.specs.declared.value.Value.{Value}
use Rattle.sb_value.specs.declared.value.ColumnType.{ColumnType}
use Rattle.sb_value.specs.declared.value.ColumnDefinition.{ColumnDefinition}
use Rattle.sb_value.specs.Table.{Entry}
use Rattle.sb_syntax.specs.Tree.{Name}
use Rattle.sb_syntax.specs.Tree as text
use Rattle.sb_check.specs.declared.fault.CheckFault.{CheckFault}
use Rattle.sb_check.specs.declared.fault.CheckFault.TheVariants.{Refused, NoMemory}
use Rattle.sb_check.specs.declared.schema.TableEntry.{TableEntry}
use Rattle.sb_check.specs.declared.tree.Assignment.{Assignment}
use Rattle.sb_check.specs.declared.tree.Statement.TheVariants.{InsertRows, Update}
use Rattle.sb_check.specs.Answer.{Gives, refusal_of}
use Rattle.sb_check.specs.Condition.{Operand}
use Rattle.sb_check.specs.Statements.{entry_of, table_scope, rows_fitting, assignments_walk, rows_into, query_into, delete_of, update_of}
use Rattle.sb_check.specs.Lent.{LendsTable}
use Rattle.sb_check.specs.Names.{and_then, in_order, required, some_or, same_type, column_in}
use Rattle.sb_check.specs.Parts.{operand_walk, filter_walk, query_walk}
use Rattle.sb_check.specs.Walk.{Schema, type_of, fitting, table_named, walk_operand, walk_assignments, walk_statement}

-- ---- rows

pub rows_none : (columns : List ColumnDefinition) → rows_fitting columns [] ≡ Ok true
unfolding rows_fitting
rows_none columns = refl

fits_first : (a : Result Bool Refusal) (b : Result (List Bool) Refusal)
    → and_then {B = Bool} (and_then a (λ y. and_then b (λ ys. Ok (y ∷ ys)))) (λ _. Ok true) ≡ and_then a (λ _. and_then {B = Bool} b (λ _. Ok true))
fits_first (Ok a) (Ok b) = refl
fits_first (Ok a) (Err e) = refl
fits_first (Err e) b = refl

pub rows_more : (columns : List ColumnDefinition) (row : List Value) (rows : List (List Value))
    → rows_fitting columns (row ∷ rows) ≡ and_then (fitting (map type_of row) columns) (λ _. rows_fitting columns rows)
unfolding rows_fitting
rows_more columns row rows = fits_first (fitting (map type_of row) columns) (in_order (λ row. fitting (map type_of row) columns) rows)

pub rows_step : {A : Type 0} (columns : List ColumnDefinition) (f : A → List Value) (rows : List A) (i : ℕ) (row : A) → i < length rows → row ≡ get_or rows i row
    → rows_fitting columns (map f (drop i rows)) ≡ and_then (fitting (map type_of (f row)) columns) (λ _. rows_fitting columns (map f (drop (i + 1) rows)))
rows_step columns f rows i row lt item =
    ap (λ r. rows_fitting columns (map f r)) (drop_more rows i row lt ∙ ap (λ y. y ∷ drop (i + 1) rows) (sym item)) ∙ rows_more columns (f row) (map f (drop (i + 1) rows))

pub rows_end : {A : Type 0} (columns : List ColumnDefinition) (f : A → List Value) (rows : List A) (i : ℕ) → length rows ≤ i → rows_fitting columns (map f (drop i rows)) ≡ Ok true
rows_end columns f rows i h = ap (λ r. rows_fitting columns (map f r)) (drop_all i rows h) ∙ rows_none columns

pub rows_fail : {X Y : Type 0} (v : X → Bool) (w : Y → Bool) (columns : List ColumnDefinition) (a : Result Bool Refusal) (e : CheckFault) (whole : Result Bool Refusal) (next : Bool → Result Bool Refusal)
    → whole ≡ and_then a next → Gives v a (Err e) → Gives w whole (Err e)
rows_fail v w columns a (Refused r) whole next is h = is ∙ ap (λ x. and_then x next) h
rows_fail v w columns a NoMemory whole next is h = tt

-- ---- assignments

abbrev pub SameTaken : List ℕ → List ℕ → Type 0
SameTaken a b = (n : ℕ) → list_any (λ k. k == n) a ≡ list_any (λ k. k == n) b

more_taken : (m : ℕ) (a b : List ℕ) → SameTaken a b → SameTaken (m ∷ a) (m ∷ b)
more_taken m a b same n = ap (λ rest. (m == n) || rest) (same n)

or_last : (b c : Bool) → (b || c) ≡ (c || (b || false))
or_last true true = refl
or_last true false = refl
or_last false true = refl
or_last false false = refl

taken_last : (m : ℕ) (a : List ℕ) → SameTaken (m ∷ a) (a ++ m ∷ [])
taken_last m a n = or_last (m == n) (list_any (λ k. k == n) a) ∙ sym (list_any-append (λ k. k == n) a (m ∷ []))

abbrev one_assigned : Schema → Entry → text.Assignment → (ℕ × ColumnType → Bool) → (ℕ → Result (List Assignment) Refusal) → Result (List Assignment) Refusal
one_assigned schema e a was rest =
    and_then (some_or refusal.NoColumn (column_in e.table.columns a.column)) (λ c.
    required (not (was c)) refusal.Ambiguous
    (and_then (walk_operand schema a.operand (table_scope e.name e.table.columns)) (λ x.
    required (same_type x.1 c.1) refusal.BadType
    (and_then (rest c.0) (λ others. Ok (record { place = c.0; operand = x.0 } ∷ others))))))

-- the walk asks of the places taken only which they are
assignments-same : (schema : Schema) (e : Entry) (xs : List text.Assignment) (a b : List ℕ) → SameTaken a b → walk_assignments schema e a xs ≡ walk_assignments schema e b xs
assignments-same schema e [] a b same = refl
assignments-same schema e (x ∷ xs) a b same = λ i. one_assigned schema e x (λ c. same c.0 i) (λ k. assignments-same schema e xs (k ∷ a) (k ∷ b) (more_taken k a b same) i)

-- and of the table only its name and its columns
pub assignments-seen : (schema : Schema) (e f : Entry) → e.name ≡ f.name → e.table.columns ≡ f.table.columns → (xs : List text.Assignment) (taken : List ℕ)
    → walk_assignments schema e taken xs ≡ walk_assignments schema f taken xs
assignments-seen schema e f n c [] taken = refl
assignments-seen schema e f n c (x ∷ xs) taken = λ i.
    and_then (some_or refusal.NoColumn (column_in (c i) x.column)) (λ p.
    required (not (list_any (λ k. k == p.0) taken)) refusal.Ambiguous
    (and_then (walk_operand schema x.operand (table_scope (n i) (c i))) (λ o.
    required (same_type o.1 p.1) refusal.BadType
    (and_then (assignments-seen schema e f n c xs (p.0 ∷ taken) i) (λ others. Ok (record { place = p.0; operand = o.0 } ∷ others))))))

abbrev pub places_of : List Assignment → List ℕ
places_of done = map (λ a. a.place) done

-- the assignments so far stand before the others
abbrev pub after : List Assignment → Result (List Assignment) Refusal → Result (List Assignment) Refusal
after done rest = and_then rest (λ others. Ok (done ++ others))

pub assignments_none : (schema : Schema) (name : Name) (columns : List ColumnDefinition) (taken : List ℕ) → assignments_walk schema name columns taken [] ≡ Ok []
unfolding assignments_walk
assignments_none schema name columns taken = refl

pub assignments_end : {A : Type 0} (schema : Schema) (name : Name) (columns : List ColumnDefinition) (f : A → text.Assignment) (list : List A) (i : ℕ) (done : List Assignment) → length list ≤ i
    → after done (assignments_walk schema name columns (places_of done) (drop i (map f list))) ≡ Ok done
assignments_end schema name columns f list i done h =
    ap (λ r. after done (assignments_walk schema name columns (places_of done) r)) (drop_all i (map f list) (rw length-map h))
    ∙ ap (after done) (assignments_none schema name columns (places_of done)) ∙ ap (λ l. Ok l) (append-nil done)

stands_before : (done : List Assignment) (a : Assignment) (r : Result (List Assignment) Refusal) → after done (and_then r (λ others. Ok (a ∷ others))) ≡ after (done ++ a ∷ []) r
stands_before done a (Ok others) = simp append_assoc
stands_before done a (Err e) = refl

flat : {A C : Type 0} (end : C) (r : Result A Refusal) → and_then r (λ _. Ok end) ≡ and_then {B = C} (and_then {B = Bool} r (λ _. Ok true)) (λ _. Ok end)
flat end (Ok a) = refl
flat end (Err e) = refl

-- a place of a list and of its image
image_lt : {A B : Type 0} (f : A → B) (list : List A) (i : ℕ) → i < length list → i < length (map f list)
image_lt f list i h = rw length-map h

image_item : {A B : Type 0} (f : A → B) (list : List A) (i : ℕ) (x : A) → i < length list → x ≡ get_or list i x → f x ≡ get_or (map f list) i (f x)
image_item f list i x h item = ap f item ∙ sym (get_or-map f list i x (f x) h)

module _ (schema : Schema) (name : Name) (columns : List ColumnDefinition) (whole : Result (List Assignment) Refusal) {A : Type 0} (f : A → text.Assignment) (list : List A) (i : ℕ) (x0 : A) (done : List Assignment)
    (lt0 : i < length list) (item0 : x0 ≡ get_or list i x0) (inv : whole ≡ after done (assignments_walk schema name columns (places_of done) (drop i (map f list)))) where
  abbrev xs : List text.Assignment
  xs = map f list

  abbrev x : text.Assignment
  x = f x0

  lt : i < length xs
  lt = image_lt f list i lt0

  item : x ≡ get_or xs i x
  item = image_item f list i x0 lt0 item0

  abbrev Next : Type 0
  Next = whole ≡ after done (one_assigned schema (entry_of 0 name columns) x (λ c. list_any (λ k. k == c.0) (places_of done)) (λ k. walk_assignments schema (entry_of 0 name columns) (k ∷ places_of done) (drop (i + 1) xs)))

  here : Next
  unfolding assignments_walk
  here = inv ∙ ap (λ r. after done (walk_assignments schema (entry_of 0 name columns) (places_of done) r)) (drop_more xs i x lt ∙ ap (λ y. y ∷ drop (i + 1) xs) (sym item))

  pub no_column : column_in columns x.column ≡ None → whole ≡ Err refusal.NoColumn
  no_column n = here ∙ rw n refl

  pub was_assigned : (c : ℕ × ColumnType) → column_in columns x.column ≡ Some c → list_any (λ k. k == c.0) (places_of done) ≡ true → whole ≡ Err refusal.Ambiguous
  was_assigned c is was = here ∙ rw (is, was) refl

  module _ (c : ℕ × ColumnType) (is : column_in columns x.column ≡ Some c) (free : list_any (λ k. k == c.0) (places_of done) ≡ false) where
    pub operand_refused : (e : Refusal) → operand_walk schema x.operand (table_scope name columns) ≡ Err e → whole ≡ Err e
    unfolding operand_walk
    operand_refused e h = here ∙ rw (is, free, h) refl

    pub operand_fails : {X : Type 0} (v : X → Operand × ColumnType) (e : CheckFault) → Gives v (operand_walk schema x.operand (table_scope name columns)) (Err e) → Gives {X = List Assignment} (λ y. y) whole (Err e)
    operand_fails v (Refused r) h = operand_refused (refusal_of r) h
    operand_fails v NoMemory h = tt

    module _ (o : Operand × ColumnType) (walks : operand_walk schema x.operand (table_scope name columns) ≡ Ok o) where
      pub wrong_type : same_type o.1 c.1 ≡ false → whole ≡ Err refusal.BadType
      unfolding operand_walk
      wrong_type ty = here ∙ rw (is, free, walks, ty) refl

      pub one_more : same_type o.1 c.1 ≡ true
          → whole ≡ after (done ++ record { place = c.0; operand = o.0 } ∷ []) (assignments_walk schema name columns (places_of (done ++ record { place = c.0; operand = o.0 } ∷ [])) (drop (i + 1) xs))
      unfolding operand_walk assignments_walk
      one_more ty =
          let e = entry_of 0 name columns in
          let a : Assignment = record { place = c.0; operand = o.0 } in
          let first : whole ≡ after done (and_then (walk_assignments schema e (c.0 ∷ places_of done) (drop (i + 1) xs)) (λ others. Ok (a ∷ others))) = here ∙ rw (is, free, walks, ty) refl in
          first ∙ stands_before done a (walk_assignments schema e (c.0 ∷ places_of done) (drop (i + 1) xs))
          ∙ ap (after (done ++ a ∷ [])) (assignments-same schema e (drop (i + 1) xs) (c.0 ∷ places_of done) (places_of done ++ c.0 ∷ []) (taken_last c.0 (places_of done)) ∙ ap (λ t. walk_assignments schema e t (drop (i + 1) xs)) (sym (map-append (λ (a : Assignment). a.place) done (a ∷ []))))

-- ---- statements

module _ (schema : Schema) (t : TableEntry) (name : Name) (lends : LendsTable (table_named schema name) (Ok t)) where
  -- what follows the look-up asks of the table only what is lent
  lent : {B : Type 0} (F : ℕ → Name → List ColumnDefinition → Result B Refusal) (walk : Entry → Result B Refusal)
      → ((e : Entry) → walk e ≡ F e.id e.name e.table.columns) → and_then (table_named schema name) walk ≡ F t.id t.name t.columns.now
  lent F walk same =
      ap (λ r. and_then r walk) lends.1 ∙ same lends.0 ∙ sym (ap (λ (s : ℕ × List ℕ × List ColumnDefinition). F s.0 s.1 s.2) lends.2)

  pub walk_rows : (rows : List (List Value)) → walk_statement schema (text.insert_rows name rows) ≡ rows_into t.id t.columns.now rows
  unfolding rows_into rows_fitting
  walk_rows rows = lent (λ id name columns. rows_into id columns rows) _ (λ e. flat (InsertRows e.id rows) (in_order (λ row. fitting (map type_of row) e.table.columns) rows))

  pub walk_rows_of : (q : text.Query) → walk_statement schema (text.insert_query name q) ≡ query_into schema t.id t.columns.now q
  unfolding query_into query_walk
  walk_rows_of q = lent (λ id name columns. query_into schema id columns q) _ (λ e. refl)

  pub walk_delete : (f : text.Filter) → walk_statement schema (text.delete name f) ≡ delete_of schema t.id t.name t.columns.now f
  unfolding delete_of filter_walk
  walk_delete f = lent (λ id name columns. delete_of schema id name columns f) _ (λ e. refl)

  pub walk_update : (xs : List text.Assignment) (f : text.Filter) → walk_statement schema (text.update name xs f) ≡ update_of schema t.id t.name t.columns.now xs f
  unfolding update_of filter_walk assignments_walk
  walk_update xs f =
      lent (λ id name columns. update_of schema id name columns xs f) _
      (λ e. ap (λ r. and_then r (λ places. and_then (filter_walk schema f (table_scope e.name e.table.columns)) (λ c. Ok (Update e.id places c))))
      (assignments-seen schema e (entry_of 0 e.name e.table.columns) refl refl xs []))

-- a table that isn't found refuses each statement
module _ (schema : Schema) (name : Name) (r : Refusal) (none : table_named schema name ≡ Err r) where
  pub no_rows : (rows : List (List Value)) → walk_statement schema (text.insert_rows name rows) ≡ Err r
  no_rows rows = rw none refl

  pub no_rows_of : (q : text.Query) → walk_statement schema (text.insert_query name q) ≡ Err r
  no_rows_of q = rw none refl

  pub no_delete : (f : text.Filter) → walk_statement schema (text.delete name f) ≡ Err r
  no_delete f = rw none refl

  pub no_update : (xs : List text.Assignment) (f : text.Filter) → walk_statement schema (text.update name xs f) ≡ Err r
  no_update xs f = rw none refl
