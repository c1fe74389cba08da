-- The changes of one statement can be made one after another.
use Rattle.std.proofs.Common.{◌≡◌, ◌∙◌, ℕ, ◌+◌, ◌<◌, ◌≤◌, Bool, true, false, not, ◌||◌, cond, nat_eq, List, [], ◌∷◌, map, filter, length, Option, Some, None, IsSome, IsNone, refl, sym, ap, subst, arith, eqb-true, eq-eqb, ne_eqb, ltb-false}
use Rattle.std.proofs.lemmas.Option.{none-some, same_Some}
use Rattle.std.specs.Prelude.{find, nat_lt, option_map, option_and_then, Ok, Err}
use Rattle.sb_value.specs.declared.value.Value.{Value}
use Rattle.sb_value.specs.declared.refusal.Refusal.TheVariants.{TooBig, TooManyRows}
use Rattle.sb_value.specs.Columns.{set_of}
use Rattle.sb_value.specs.declared.change.Change.{Change}
use Rattle.sb_value.specs.declared.change.ChangeKind.{ChangeKind}
use Rattle.sb_value.specs.declared.change.ChangeKind.TheVariants.{Inserted, Deleted, Updated}
use Rattle.sb_value.specs.Table.{Table, Entry, new_row, after_kind, after_change, fits_kind, table_at, has_table, after, row_at, IsProper, AreRising, IsTable}
use Rattle.sb_check.specs.Condition.{Condition}
use Rattle.sb_check.specs.declared.tree.Assignment.{Assignment}
use Rattle.sb_check.specs.declared.tree.Statement.{Statement}
use Rattle.sb_check.specs.declared.tree.Statement.TheVariants.{InsertRows, InsertQuery, Delete, Update}
use Rattle.sb_plan.specs.Seen.{Seen, rows_in}
use Rattle.sb_plan.specs.Meaning.{both, each, passing, holds, rows_of}
use Rattle.sb_eval.specs.Statement.{scope_of, found, assigned, update_change, update_of, places_of, delete_change, insert_change, insert_changes, changes_by, rows_after, row_limit, cost_limit, statement_cost, within_rows, or_overflow}
use Rattle.sb_eval.specs.Target.{target}
use Rattle.sb_eval.specs.Laws.{inserts, counted_with, IsChangeOf, AreChangesOf, AreMakeable, ChangesAreProper}

abbrev Numbered : Type 0
Numbered = ℕ × List Value

-- the row of a number
abbrev row_in : List Numbered → ℕ → Option (List Value)
row_in rows n = option_map (λ (r : Numbered). r.1) (find (λ (r : Numbered). nat_eq r.0 n) rows)

-- ---- rows of a table, each with a number of its own

abbrev AreOther : ℕ → List Numbered → Type 0
AreOther n [] = Unit {0}
AreOther n (r ∷ rs) = (nat_eq n r.0 ≡ false) × AreOther n rs

abbrev AreDistinct : List Numbered → Type 0
AreDistinct [] = Unit {0}
AreDistinct (r ∷ rs) = AreOther r.0 rs × AreDistinct rs

abbrev AreIn : List Numbered → List Numbered → Type 0
AreIn rows [] = Unit {0}
AreIn rows (f ∷ fs) = (row_in rows f.0 ≡ Some f.1) × AreIn rows fs

not_same : (n m : ℕ) → n < m → nat_eq n m ≡ false
not_same n m h = ne_eqb n m (λ e. omega (arith, e, h))

others : (n : ℕ) (r : Numbered) (rs : List Numbered) → n ≤ r.0 → AreRising (r ∷ rs) → AreOther n rs
others n r [] le h = tt
others n r (s ∷ rs) le h = let q : r.0 < s.0 = h.0 in (not_same n s.0 (omega (arith, q, le)), others n s rs (omega (arith, q, le)) h.1)

distinct : (rows : List Numbered) → AreRising rows → AreDistinct rows
distinct [] h = tt
distinct (r ∷ []) h = (tt, tt)
distinct (r ∷ s ∷ rs) h = (others r.0 r (s ∷ rs) (omega arith) h, distinct (s ∷ rs) h.1)

in_more : (r : Numbered) (rows fs : List Numbered) → AreOther r.0 fs → AreIn rows fs → AreIn (r ∷ rows) fs
in_more r rows [] o h = tt
in_more r rows (f ∷ fs) o h =
    (ap (λ (b : Bool). option_map (λ (q : Numbered). q.1) (cond b (Some r) (find (λ (q : Numbered). nat_eq q.0 f.0) rows))) o.0 ∙ h.0, in_more r rows fs o.1 h.1)

all_in : (rows : List Numbered) → AreDistinct rows → AreIn rows rows
all_in [] d = tt
all_in (r ∷ rows) d = (
  ap (λ (b : Bool). option_map (λ (q : Numbered). q.1) (cond b (Some r) (find (λ (q : Numbered). nat_eq q.0 r.0) rows))) (eq-eqb r.0 r.0 refl),
  in_more r rows rows d.0 (all_in rows d.1),
)

-- ---- those that pass

abbrev Accumulator : List Numbered → List Numbered → List Numbered → Type 0
Accumulator whole rows found = AreDistinct found × AreIn whole found × ((n : ℕ) → AreOther n rows → AreOther n found)

kept_first : (whole : List Numbered) (r : Numbered) (rows found : List Numbered) (b : Option Bool) (rest : Option (List Numbered)) →
    AreDistinct (r ∷ rows) → row_in whole r.0 ≡ Some r.1 →
    both (λ b ys. Some (cond b (r ∷ ys) ys)) b rest ≡ Some found → ((ys : List Numbered) → rest ≡ Some ys → Accumulator whole rows ys) → Accumulator whole (r ∷ rows) found
kept_first whole r rows found None rest d here e more = absurd (none-some found e)
kept_first whole r rows found (Some b) None d here e more = absurd (none-some found e)
kept_first whole r rows found (Some true) (Some ys) d here e more =
    let k = more ys refl in
    subst (Accumulator whole (r ∷ rows)) (same_Some (r ∷ ys) found e) ((k.2 r.0 d.0, k.0), (here, k.1), λ n o. (o.0, k.2 n o.1))
kept_first whole r rows found (Some false) (Some ys) d here e more =
    let k = more ys refl in
    subst (Accumulator whole (r ∷ rows)) (same_Some ys found e) (k.0, k.1, λ n o. k.2 n o.1)

kept : (test : Numbered → Option Bool) (whole rows found : List Numbered) → AreDistinct rows → AreIn whole rows → passing test rows ≡ Some found → Accumulator whole rows found
kept test whole [] found d i e = subst (Accumulator whole []) (same_Some [] found e) (tt, tt, λ n o. tt)
kept test whole (r ∷ rows) found d i e =
    kept_first whole r rows found (test r) (passing test rows) d i.0 e (λ ys. kept test whole rows ys d.1 i.1)

-- ---- deletes and updates of them

abbrev KeepsNumber : ChangeKind → Change → Type 0
KeepsNumber Inserted c = ⊥
KeepsNumber Deleted c = IsNone c.new
KeepsNumber Updated c = IsSome c.new

record IsFor (seen : Seen) (t : ℕ) (f : Numbered) (c : Change) : Type 0 where
  own : IsChangeOf seen.who t c
  tuple : c.tuple ≡ f.0
  old : c.old ≡ Some f.1
  keeps : KeepsNumber c.kind c

abbrev AreFor : Seen → ℕ → List Numbered → List Change → Type 0
AreFor seen t [] [] = Unit {0}
AreFor seen t [] (c ∷ cs) = ⊥
AreFor seen t (f ∷ fs) [] = ⊥
AreFor seen t (f ∷ fs) (c ∷ cs) = IsFor seen t f c × AreFor seen t fs cs

fits_of : (k : ChangeKind) (c : Change) (table : Table) → KeepsNumber k c → row_at table c.tuple ≡ c.old → IsSome c.old → fits_kind k c table
fits_of Inserted c table keeps e s = absurd keeps
fits_of Deleted c table keeps e s = (e, s, keeps)
fits_of Updated c table keeps e s = (e, s, keeps)

-- a row in front of rows that have the same row of a number
behind : (r : Numbered) (n : ℕ) (left rows : List Numbered) (b : Bool) → row_in left n ≡ row_in rows n →
    option_map (λ (q : Numbered). q.1) (cond b (Some r) (find (λ (q : Numbered). nat_eq q.0 n) left))
    ≡ option_map (λ (q : Numbered). q.1) (cond b (Some r) (find (λ (q : Numbered). nat_eq q.0 n) rows))
behind r n left rows true e = refl
behind r n left rows false e = e

without_other : (x n : ℕ) (rows : List Numbered) → nat_eq x n ≡ false → row_in (filter (λ (r : Numbered). not (nat_eq r.0 x)) rows) n ≡ row_in rows n
without_other x n [] h = refl
without_other x n (r ∷ rows) h = by (nat_eq r.0 x) refl (without_other x n rows h)
  where
    left : List Numbered
    left = filter (λ (q : Numbered). not (nat_eq q.0 x)) rows

    by : (b : Bool) → nat_eq r.0 x ≡ b → row_in left n ≡ row_in rows n → row_in (cond (not b) (r ∷ left) left) n ≡ row_in (r ∷ rows) n
    by true p rest =
        rest ∙ ap (λ (b : Bool). option_map (λ (q : Numbered). q.1) (cond b (Some r) (find (λ (q : Numbered). nat_eq q.0 n) rows))) (sym (ap (λ m. nat_eq m n) (eqb-true r.0 x p) ∙ h))
    by false p rest = behind r n left rows (nat_eq r.0 n) rest

replaced_other : (x n : ℕ) (row : List Value) (rows : List Numbered) → nat_eq x n ≡ false → row_in (map (λ (r : Numbered). cond (nat_eq r.0 x) (x, row) r) rows) n ≡ row_in rows n
replaced_other x n row [] h = refl
replaced_other x n row (r ∷ rows) h = by (nat_eq r.0 x) refl (replaced_other x n row rows h)
  where
    left : List Numbered
    left = map (λ (q : Numbered). cond (nat_eq q.0 x) (x, row) q) rows

    by : (b : Bool) → nat_eq r.0 x ≡ b → row_in left n ≡ row_in rows n → row_in (cond b (x, row) r ∷ left) n ≡ row_in (r ∷ rows) n
    by true p rest =
        ap (λ (b : Bool). option_map (λ (q : Numbered). q.1) (cond b (Some (x, row)) (find (λ (q : Numbered). nat_eq q.0 n) left))) h
        ∙ rest
        ∙ ap (λ (b : Bool). option_map (λ (q : Numbered). q.1) (cond b (Some r) (find (λ (q : Numbered). nat_eq q.0 n) rows))) (sym (ap (λ m. nat_eq m n) (eqb-true r.0 x p) ∙ h))
    by false p rest = behind r n left rows (nat_eq r.0 n) rest

row_stays : (k : ChangeKind) (c : Change) (table : Table) (n : ℕ) → KeepsNumber k c → nat_eq c.tuple n ≡ false → row_in (after_kind k c table).rows n ≡ row_in table.rows n
row_stays Inserted c table n keeps h = absurd keeps
row_stays Deleted c table n keeps h = without_other c.tuple n table.rows h
row_stays Updated c table n keeps h = replaced_other c.tuple n (new_row c) table.rows h

stay_in : (c : Change) (table : Table) (fs : List Numbered) → KeepsNumber c.kind c → AreOther c.tuple fs → AreIn table.rows fs → AreIn (after_change c table).rows fs
stay_in c table [] keeps o h = tt
stay_in c table (f ∷ fs) keeps o h = (row_stays c.kind c table f.0 keeps o.0 ∙ h.0, stay_in c table fs keeps o.1 h.1)

-- ---- a table among the tables

table_after : (c : Change) (tables : List Entry) → has_table tables c.table ≡ true → table_at (after c tables) c.table ≡ after_change c (table_at tables c.table)
table_after c [] h = absurd (cc)
table_after c (e ∷ es) h = by (nat_eq e.id c.table) refl h (table_after c es)
  where
    by : (b : Bool) → nat_eq e.id c.table ≡ b → (b || has_table es c.table) ≡ true → (has_table es c.table ≡ true → table_at (after c es) c.table ≡ after_change c (table_at es c.table)) →
        cond (nat_eq (cond b (record e { table = after_change c e.table }) e).id c.table) (cond b (record e { table = after_change c e.table }) e).table (table_at (after c es) c.table)
        ≡ after_change c (cond b e.table (table_at es c.table))
    by true p h' rest = ap (λ (b : Bool). cond b (after_change c e.table) (table_at (after c es) c.table)) p
    by false p h' rest = ap (λ (b : Bool). cond b e.table (table_at (after c es) c.table)) p ∙ rest h'

has-after : (c : Change) (tables : List Entry) (id : ℕ) → has_table (after c tables) id ≡ has_table tables id
has-after c [] id = refl
has-after c (e ∷ es) id = λ i. by (nat_eq e.id c.table) i || has-after c es id i
  where
    by : (b : Bool) → nat_eq (cond b (record e { table = after_change c e.table }) e).id id ≡ nat_eq e.id id
    by true = refl
    by false = refl

abbrev IsAfter : List Entry → ℕ → Change → Type 0
IsAfter tables t c = table_at (after c tables) t ≡ after_change c (table_at tables t)

of_target : (tables : List Entry) (t : ℕ) (c : Change) → c.table ≡ t → has_table tables t ≡ true → IsAfter tables t c
of_target tables t c is there = subst (λ n. IsAfter tables n c) is (table_after c tables (ap (has_table tables) is ∙ there))

proper_for : (seen : Seen) (t : ℕ) (fs : List Numbered) (cs : List Change) (tables : List Entry) → AreFor seen t fs cs → has_table tables t ≡ true → AreDistinct fs → AreIn (table_at tables t).rows fs → IsProper tables cs
proper_for seen t [] [] tables a there d i = tt
proper_for seen t [] (c ∷ cs) tables a there d i = absurd a
proper_for seen t (f ∷ fs) [] tables a there d i = absurd a
proper_for seen t (f ∷ fs) (c ∷ cs) tables a there d i =
    let is : c.table ≡ t = a.0.own.table in
    let row : row_at (table_at tables t) c.tuple ≡ c.old = ap (row_in (table_at tables t).rows) a.0.tuple ∙ i.0 ∙ sym a.0.old in
    let fits : fits_kind c.kind c (table_at tables t) = fits_of c.kind c (table_at tables t) a.0.keeps row (subst IsSome (sym a.0.old) refl) in (
      ap (has_table tables) is ∙ there,
      subst (λ n. fits_kind c.kind c (table_at tables n)) (sym is) fits,
      proper_for seen t fs cs (after c tables) a.1 (has-after c tables t ∙ there) d.1
          (subst (λ (u : Table). AreIn u.rows fs) (sym (of_target tables t c is there))
          (stay_in c (table_at tables t) fs a.0.keeps (subst (λ n. AreOther n fs) (sym a.0.tuple) d.0) i.1)),
    )

own_for : (seen : Seen) (t : ℕ) (fs : List Numbered) (cs : List Change) → AreFor seen t fs cs → AreChangesOf seen.who t cs
own_for seen t [] [] a = tt
own_for seen t [] (c ∷ cs) a = absurd a
own_for seen t (f ∷ fs) [] a = absurd a
own_for seen t (f ∷ fs) (c ∷ cs) a = (a.0.own, own_for seen t fs cs a.1)

no_insert : (k : ChangeKind) (c : Change) (n : ℕ) → KeepsNumber k c → n ≡ 0 → counted_with k n ≡ 0
no_insert Inserted c n keeps e = absurd keeps
no_insert Deleted c n keeps e = e
no_insert Updated c n keeps e = e

no_inserts : (seen : Seen) (t : ℕ) (fs : List Numbered) (cs : List Change) → AreFor seen t fs cs → inserts cs ≡ 0
no_inserts seen t [] [] a = refl
no_inserts seen t [] (c ∷ cs) a = absurd a
no_inserts seen t (f ∷ fs) [] a = absurd a
no_inserts seen t (f ∷ fs) (c ∷ cs) a = no_insert c.kind c (inserts cs) a.0.keeps (no_inserts seen t fs cs a.1)

eight : (places : List ℕ) → length (set_of places) ≤ 8
eight places = omega arith

deletes : (seen : Seen) (t : ℕ) (fs : List Numbered) → AreFor seen t fs (map (delete_change seen t) fs)
deletes seen t [] = tt
deletes seen t (f ∷ fs) = (record { own = record { tenant = refl; session = refl; table = refl; columns = eight [] }; tuple = refl; old = refl; keeps = refl }, deletes seen t fs)

one_update : (seen : Seen) (t : ℕ) (list : List Assignment) (f : Numbered) (c : Change) (new : Option (List Value)) → option_map (update_change seen t (places_of list) f) new ≡ Some c → IsFor seen t f c
one_update seen t list f c None e = absurd (none-some c e)
one_update seen t list f c (Some row) e =
    subst (IsFor seen t f) (same_Some (update_change seen t (places_of list) f row) c e)
    record { own = record { tenant = refl; session = refl; table = refl; columns = eight (map (λ (a : Assignment). a.place) list) }; tuple = refl; old = refl; keeps = refl }

first_update : (seen : Seen) (t : ℕ) (list : List Assignment) (f : Numbered) (fs : List Numbered) (cs : List Change) (o : Option Change) (rest : Option (List Change)) →
    both (λ y ys. Some (y ∷ ys)) o rest ≡ Some cs → ((c : Change) → o ≡ Some c → IsFor seen t f c) → ((ds : List Change) → rest ≡ Some ds → AreFor seen t fs ds) → AreFor seen t (f ∷ fs) cs
first_update seen t list f fs cs None rest e one more = absurd (none-some cs e)
first_update seen t list f fs cs (Some c) None e one more = absurd (none-some cs e)
first_update seen t list f fs cs (Some c) (Some ds) e one more = subst (AreFor seen t (f ∷ fs)) (same_Some (c ∷ ds) cs e) (one c refl, more ds refl)

updates : (seen : Seen) (t : ℕ) (list : List Assignment) (fs : List Numbered) (cs : List Change) → each (update_of seen t list) fs ≡ Some cs → AreFor seen t fs cs
updates seen t list [] cs e = subst (AreFor seen t []) (same_Some [] cs e) tt
updates seen t list (f ∷ fs) cs e =
    first_update seen t list f fs cs (update_of seen t list f) (each (update_of seen t list) fs) e
    (λ c. one_update seen t list f c (assigned seen (scope_of f) list f.1)) (λ ds. updates seen t list fs ds)

-- the changes of rows that were found
of_found : (seen : Seen) (t : ℕ) (filter : Condition) (fs : List Numbered) (cs : List Change) → has_table seen.tables t ≡ true → IsTable (table_at seen.tables t) →
    found seen t filter ≡ Some fs → AreFor seen t fs cs → AreMakeable seen.tables seen.who t cs
of_found seen t filter fs cs there is e a =
    let rows : List Numbered = (table_at seen.tables t).rows in
    let d : AreDistinct rows = distinct rows is.1 in
    let k : Accumulator rows rows fs = kept (λ r. holds (rows_in seen) filter (scope_of r)) rows rows fs d (all_in rows d) e in
    let none : inserts cs ≡ 0 = no_inserts seen t fs cs a in
    record { proper = proper_for seen t fs cs seen.tables a there k.0 k.1; own = own_for seen t fs cs a; few = λ some. absurd (omega (arith, none, some)) }

-- ---- inserts

proper_inserts : (seen : Seen) (t n : ℕ) (rows : List (List Value)) (tables : List Entry) → has_table tables t ≡ true → n ≡ (table_at tables t).next → IsProper tables (insert_changes seen t n rows)
proper_inserts seen t n [] tables there e = tt
proper_inserts seen t n (row ∷ rows) tables there e =
    let c : Change = insert_change seen t n row in
    (there, (e, refl, refl), proper_inserts seen t (n + 1) rows (after c tables) (has-after c tables t ∙ there) (ap (λ (m : ℕ). m + 1) e ∙ sym (ap (λ (u : Table). u.next) (table_after c tables there))))

own_inserts : (seen : Seen) (t n : ℕ) (rows : List (List Value)) → AreChangesOf seen.who t (insert_changes seen t n rows)
own_inserts seen t n [] = tt
own_inserts seen t n (row ∷ rows) = (record { tenant = refl; session = refl; table = refl; columns = eight [] }, own_inserts seen t (n + 1) rows)

all_inserts : (seen : Seen) (t n : ℕ) (rows : List (List Value)) → inserts (insert_changes seen t n rows) ≡ length (insert_changes seen t n rows)
all_inserts seen t n [] = refl
all_inserts seen t n (row ∷ rows) = omega (arith, all_inserts seen t (n + 1) rows)

of_inserts : (seen : Seen) (t : ℕ) (rows : List (List Value)) (cs : List Change) → has_table seen.tables t ≡ true → insert_changes seen t (table_at seen.tables t).next rows ≡ cs →
    length (table_at seen.tables t).rows + length cs ≤ 4096 → AreMakeable seen.tables seen.who t cs
of_inserts seen t rows cs there e few =
    let n : ℕ = (table_at seen.tables t).next in
    let all : inserts cs ≡ length cs = subst (λ ds. inserts ds ≡ length ds) e (all_inserts seen t n rows) in
    record {
      proper = subst (IsProper seen.tables) e (proper_inserts seen t n rows seen.tables there refl);
      own = subst (AreChangesOf seen.who t) e (own_inserts seen t n rows);
      few = λ some. omega (arith, all, few);
    }

-- ---- statements

abbrev IsGiven : Seen → Statement → List Change → Type 0
IsGiven seen statement cs = (changes_by seen statement ≡ Some cs) × (rows_after seen statement cs ≤ 4096)

given_by : (count : List Change → ℕ) (b : Bool) (given : Option (List Change)) (cs : List Change) → within_rows count (cond b (Err TooBig) (or_overflow given)) ≡ Ok cs → (given ≡ Some cs) × (count cs ≤ 4096)
given_by count true given cs e = absurd (cc)
given_by count false None cs e = absurd (cc)
given_by count false (Some a) cs e = by (nat_lt row_limit (count a)) refl e
  where
    by : (b : Bool) → nat_lt row_limit (count a) ≡ b → cond b (Err TooManyRows) (Ok a) ≡ Ok cs → (Some a ≡ Some cs) × (count cs ≤ 4096)
    by true p e' = absurd (cc)
    by false p e' = let same : a ≡ cs = cc in (ap Some same, subst (λ (x : List Change). count x ≤ 4096) same (ltb-false row_limit (count a) p))

deletes_of : (seen : Seen) (t : ℕ) (filter : Condition) (cs : List Change) (o : Option (List Numbered)) → has_table seen.tables t ≡ true → IsTable (table_at seen.tables t) → found seen t filter ≡ o →
    option_map (map (delete_change seen t)) o ≡ Some cs → AreMakeable seen.tables seen.who t cs
deletes_of seen t filter cs None there is e g = absurd (none-some cs g)
deletes_of seen t filter cs (Some fs) there is e g =
    of_found seen t filter fs cs there is e (subst (AreFor seen t fs) (same_Some (map (delete_change seen t) fs) cs g) (deletes seen t fs))

updates_of : (seen : Seen) (t : ℕ) (list : List Assignment) (filter : Condition) (cs : List Change) (o : Option (List Numbered)) → has_table seen.tables t ≡ true → IsTable (table_at seen.tables t) →
    found seen t filter ≡ o → option_and_then (each (update_of seen t list)) o ≡ Some cs → AreMakeable seen.tables seen.who t cs
updates_of seen t list filter cs None there is e g = absurd (none-some cs g)
updates_of seen t list filter cs (Some fs) there is e g = of_found seen t filter fs cs there is e (updates seen t list fs cs g)

query_inserts : (seen : Seen) (t : ℕ) (cs : List Change) (o : Option (List (List Value))) → has_table seen.tables t ≡ true → option_map (insert_changes seen t (table_at seen.tables t).next) o ≡ Some cs →
    length (table_at seen.tables t).rows + length cs ≤ 4096 → AreMakeable seen.tables seen.who t cs
query_inserts seen t cs None there g few = absurd (none-some cs g)
query_inserts seen t cs (Some rows) there g few = of_inserts seen t rows cs there (same_Some (insert_changes seen t (table_at seen.tables t).next rows) cs g) few

of_statement : (seen : Seen) (statement : Statement) (cs : List Change) → has_table seen.tables (target statement) ≡ true → IsTable (table_at seen.tables (target statement)) → IsGiven seen statement cs →
    AreMakeable seen.tables seen.who (target statement) cs
of_statement seen (InsertRows t rows) cs there is g = of_inserts seen t rows cs there (same_Some (insert_changes seen t (table_at seen.tables t).next rows) cs g.0) g.1
of_statement seen (InsertQuery t q) cs there is g = query_inserts seen t cs (rows_of (rows_in seen) q []) there g.0 g.1
of_statement seen (Delete t filter) cs there is g = deletes_of seen t filter cs (found seen t filter) there is refl g.0
of_statement seen (Update t list filter) cs there is g = updates_of seen t list filter cs (found seen t filter) there is refl g.0

pub changes_are_proper : ChangesAreProper
changes_are_proper seen statement cs there is e =
    of_statement seen statement cs there is (given_by (rows_after seen statement) (nat_lt cost_limit (statement_cost seen statement)) (changes_by seen statement) cs e)
