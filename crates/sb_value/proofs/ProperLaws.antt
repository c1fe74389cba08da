-- In a proper list the changes of one tuple are: its insert first, then updates, its delete last, each of the row before it.
use Rattle.std.proofs.Math.Bool.{or-false}
use Rattle.std.proofs.Common.{◌≡◌, ℕ, ◌+◌, ◌<◌, ◌≤◌, Bool, true, false, cond, not, ◌&&◌, ◌||◌, ◌==◌, List, [], ◌∷◌, ◌++◌, map, filter, Option, Some, None, IsSome, refl, sym, ◌∙◌, inl, inr, subst, ap, arith}
use Rattle.std.specs.Prelude.{find, option_map, unwrap_or}
use Rattle.std.specs.List.{list_any}
use Rattle.std.proofs.lemmas.Bool.{true≢false, eqb-true, eq-eqb, false≢true, or_cases}
use Rattle.std.proofs.lemmas.List.Folds.{list_any-append}
use Rattle.sb_value.specs.declared.value.Value.{Value}
use Rattle.sb_value.specs.declared.change.Change.{Change}
use Rattle.sb_value.specs.declared.change.ChangeKind.{ChangeKind}
use Rattle.sb_value.specs.declared.change.ChangeKind.TheVariants.{Inserted, Deleted, Updated}
use Rattle.sb_value.specs.Table.{Table, Entry, new_row, old_row, after_kind, after_change, fits_kind, table_at, has_table, after, IsProper, AreBelow}
use Rattle.sb_value.specs.NetEffect.{history}
use Rattle.sb_value.specs.Laws.{may_follow, Follows, IsLife, ProperListsHaveLives}

abbrev Numbered : Type 0
Numbered = ℕ × List Value

abbrev has_row : ℕ → List Numbered → Bool
has_row k rows = list_any (λ r. r.0 == k) rows

below_has : (n k : ℕ) (rows : List Numbered) → AreBelow n rows → has_row k rows ≡ true → k < n
below_has n k [] b h = absurd (false≢true h)
below_has n k (r ∷ rows) b h =
    elim (or_cases (r.0 == k) (has_row k rows) h) [
      | inl here ↦ subst (λ x. x < n) (eqb-true r.0 k here) b.0
      | inr there ↦ below_has n k rows b.1 there
    ]

has_found : (k : ℕ) (rows : List Numbered) → IsSome (option_map (λ r. r.1) (find (λ r. r.0 == k) rows)) → has_row k rows ≡ true
has_found k [] s = absurd (false≢true s)
has_found k (r ∷ rows) s =
    elim (r.0 == k) as (λ b. IsSome (option_map (λ q. q.1) (cond b (Some r) (find (λ q. q.0 == k) rows))) → (b || has_row k rows) ≡ true) [
      | true ↦ λ _. refl
      | false ↦ λ s. has_found k rows s
    ] s

-- the row of a number
abbrev row_of : ℕ → List Numbered → Option (List Value)
row_of k rows = option_map (λ r. r.1) (find (λ r. r.0 == k) rows)

has_row_of : (k : ℕ) (rows : List Numbered) (row : List Value) → row_of k rows ≡ Some row → has_row k rows ≡ true
has_row_of k rows row e = has_found k rows (subst IsSome (sym e) refl)

-- ---- a change and the numbers of the rows

below_more : (n m : ℕ) (rows : List Numbered) → n ≤ m → AreBelow n rows → AreBelow m rows
below_more n m [] h b = tt
below_more n m (r ∷ rows) h b = (let q : r.0 < n = b.0 in omega (arith, q, h), below_more n m rows h b.1)

below-append : (n : ℕ) (rows : List Numbered) (r : Numbered) → AreBelow n rows → r.0 < n → AreBelow n (rows ++ r ∷ [])
below-append n [] r b h = (h, tt)
below-append n (q ∷ rows) r b h = (b.0, below-append n rows r b.1 h)

below-filter : (n : ℕ) (p : Numbered → Bool) (rows : List Numbered) → AreBelow n rows → AreBelow n (filter p rows)
below-filter n p [] b = tt
below-filter n p (r ∷ rows) b =
    elim (p r) as (λ x. AreBelow n (cond x (r ∷ filter p rows) (filter p rows))) [ true ↦ (b.0, below-filter n p rows b.1) | false ↦ below-filter n p rows b.1 ]

abbrev replaced : ℕ → List Value → Numbered → Numbered
replaced x row r = cond (r.0 == x) (x, row) r

replaced-number : (x : ℕ) (row : List Value) (r : Numbered) → (replaced x row r).0 ≡ r.0
replaced-number x row r =
    elim (r.0 == x) as (λ b. (r.0 == x) ≡ b → (let q : Numbered = cond b (x, row) r in q).0 ≡ r.0) [ true ↦ λ e. sym (eqb-true r.0 x e) | false ↦ λ _. refl ] refl

below-map : (n x : ℕ) (row : List Value) (rows : List Numbered) → AreBelow n rows → AreBelow n (map (replaced x row) rows)
below-map n x row [] b = tt
below-map n x row (r ∷ rows) b = (subst (λ y. y < n) (sym (replaced-number x row r)) b.0, below-map n x row rows b.1)

has-map : (k x : ℕ) (row : List Value) (rows : List Numbered) → has_row k (map (replaced x row) rows) ≡ has_row k rows
has-map k x row [] = refl
has-map k x row (r ∷ rows) = λ i. (replaced-number x row r i == k) || has-map k x row rows i

has-without : (x : ℕ) (rows : List Numbered) → has_row x (filter (λ r. not (r.0 == x)) rows) ≡ false
has-without x [] = refl
has-without x (r ∷ rows) =
    elim (r.0 == x) as (λ b. (r.0 == x) ≡ b → has_row x (cond (not b) (r ∷ filter (λ q. not (q.0 == x)) rows) (filter (λ q. not (q.0 == x)) rows)) ≡ false) [
      | true ↦ λ _. has-without x rows
      | false ↦ λ e. ap (λ b. b || has_row x (filter (λ q. not (q.0 == x)) rows)) e ∙ has-without x rows
    ] refl

has-without_other : (k x : ℕ) (rows : List Numbered) → (x == k) ≡ false → has_row k (filter (λ r. not (r.0 == x)) rows) ≡ has_row k rows
has-without_other k x [] h = refl
has-without_other k x (r ∷ rows) h =
    elim (r.0 == x) as (λ b. (r.0 == x) ≡ b → has_row k (cond (not b) (r ∷ filter (λ q. not (q.0 == x)) rows) (filter (λ q. not (q.0 == x)) rows)) ≡ ((r.0 == k) || has_row k rows)) [
      | true ↦ λ e. has-without_other k x rows h ∙ ap (λ b. b || has_row k rows) (sym (ap (λ n. n == k) (eqb-true r.0 x e) ∙ h))
      | false ↦ λ _. ap (λ b. (r.0 == k) || b) (has-without_other k x rows h)
    ] refl

-- the row of a number in a list with one more, with one less, with one replaced

row-last : (k : ℕ) (rows : List Numbered) (row : List Value) → has_row k rows ≡ false → row_of k (rows ++ (k, row) ∷ []) ≡ Some row
row-last k [] row h = ap (λ b. option_map (λ (r : Numbered). r.1) (cond b (Some (k, row)) None)) (eq-eqb k k refl)
row-last k (r ∷ rows) row h =
    elim (r.0 == k) as (λ b. (b || has_row k rows) ≡ false → option_map (λ (q : Numbered). q.1) (cond b (Some r) (find (λ q. q.0 == k) (rows ++ (k, row) ∷ []))) ≡ Some row) [
      | true ↦ λ h. absurd (true≢false h)
      | false ↦ λ h. row-last k rows row h
    ] h

row-more : (k : ℕ) (rows : List Numbered) (r : Numbered) → (r.0 == k) ≡ false → row_of k (rows ++ r ∷ []) ≡ row_of k rows
row-more k [] r h = ap (λ b. option_map (λ (q : Numbered). q.1) (cond b (Some r) None)) h
row-more k (q ∷ rows) r h =
    elim (q.0 == k) as (λ b. option_map (λ (p : Numbered). p.1) (cond b (Some q) (find (λ p. p.0 == k) (rows ++ r ∷ []))) ≡ option_map (λ (p : Numbered). p.1) (cond b (Some q) (find (λ p. p.0 == k) rows))) [
      | true ↦ refl
      | false ↦ row-more k rows r h
    ]

row-without_other : (k x : ℕ) (rows : List Numbered) → (x == k) ≡ false → row_of k (filter (λ r. not (r.0 == x)) rows) ≡ row_of k rows
row-without_other k x [] h = refl
row-without_other k x (r ∷ rows) h =
    elim (r.0 == x) as (λ b. (r.0 == x) ≡ b → row_of k (cond (not b) (r ∷ filter (λ q. not (q.0 == x)) rows) (filter (λ q. not (q.0 == x)) rows)) ≡ row_of k (r ∷ rows)) [
      | true ↦ λ e. row-without_other k x rows h ∙ ap (λ b. option_map (λ (q : Numbered). q.1) (cond b (Some r) (find (λ q. q.0 == k) rows))) (sym (ap (λ n. n == k) (eqb-true r.0 x e) ∙ h))
      | false ↦ λ _. elim (r.0 == k) as (λ b. option_map (λ (q : Numbered). q.1) (cond b (Some r) (find (λ q. q.0 == k) (filter (λ q. not (q.0 == x)) rows)))
          ≡ option_map (λ (q : Numbered). q.1) (cond b (Some r) (find (λ q. q.0 == k) rows))) [ true ↦ refl | false ↦ row-without_other k x rows h ]
    ] refl

row-map_other : (k x : ℕ) (row : List Value) (rows : List Numbered) → (x == k) ≡ false → row_of k (map (replaced x row) rows) ≡ row_of k rows
row-map_other k x row [] h = refl
row-map_other k x row (r ∷ rows) h =
    elim (r.0 == x) as (λ b. (r.0 == x) ≡ b → option_map (λ (q : Numbered). q.1) (find (λ q. q.0 == k) ((let y : Numbered = cond b (x, row) r in y) ∷ map (replaced x row) rows)) ≡ row_of k (r ∷ rows)) [
      | true ↦ λ e.
          ap (λ b. option_map (λ (q : Numbered). q.1) (cond b (Some (x, row)) (find (λ q. q.0 == k) (map (replaced x row) rows)))) h
          ∙ row-map_other k x row rows h
          ∙ ap (λ b. option_map (λ (q : Numbered). q.1) (cond b (Some r) (find (λ q. q.0 == k) rows))) (sym (ap (λ n. n == k) (eqb-true r.0 x e) ∙ h))
      | false ↦ λ _. elim (r.0 == k) as (λ b. option_map (λ (q : Numbered). q.1) (cond b (Some r) (find (λ q. q.0 == k) (map (replaced x row) rows)))
          ≡ option_map (λ (q : Numbered). q.1) (cond b (Some r) (find (λ q. q.0 == k) rows))) [ true ↦ refl | false ↦ row-map_other k x row rows h ]
    ] refl

row-map_own : (x : ℕ) (row : List Value) (rows : List Numbered) → has_row x rows ≡ true → row_of x (map (replaced x row) rows) ≡ Some row
row-map_own x row [] h = absurd (false≢true h)
row-map_own x row (r ∷ rows) h =
    elim (r.0 == x) as (λ b. (r.0 == x) ≡ b → (b || has_row x rows) ≡ true → option_map (λ (q : Numbered). q.1) (find (λ q. q.0 == x) ((let y : Numbered = cond b (x, row) r in y) ∷ map (replaced x row) rows)) ≡ Some row) [
      | true ↦ λ _ _. ap (λ b. option_map (λ (q : Numbered). q.1) (cond b (Some (x, row)) (find (λ q. q.0 == x) (map (replaced x row) rows)))) (eq-eqb x x refl)
      | false ↦ λ e h. ap (λ b. option_map (λ (q : Numbered). q.1) (cond b (Some r) (find (λ q. q.0 == x) (map (replaced x row) rows)))) e ∙ row-map_own x row rows h
    ] refl h

below_after : (kind : ChangeKind) (c : Change) (t : Table) → AreBelow t.next t.rows → AreBelow (after_kind kind c t).next (after_kind kind c t).rows
below_after Inserted c t b = below-append (t.next + 1) t.rows (t.next, new_row c) (below_more t.next (t.next + 1) t.rows (omega arith) b) (omega arith)
below_after Deleted c t b = below-filter t.next (λ r. not (r.0 == c.tuple)) t.rows b
below_after Updated c t b = below-map t.next c.tuple (new_row c) t.rows b

-- ---- how a tuple stands: after its insert or an update it has the new row, after its delete it is gone for good

abbrev Stands : ChangeKind → Change → Table → ℕ → Type 0
Stands Inserted c t k = row_of k t.rows ≡ Some (new_row c)
Stands Updated c t k = row_of k t.rows ≡ Some (new_row c)
Stands Deleted c t k = (has_row k t.rows ≡ false) × (k < t.next)

has_inserted : (k : ℕ) (c : Change) (t : Table) → has_row k (after_kind Inserted c t).rows ≡ (has_row k t.rows || (t.next == k))
has_inserted k c t = list_any-append (λ r. r.0 == k) t.rows ((t.next, new_row c) ∷ []) ∙ ap (λ b. has_row k t.rows || b) (or-false (t.next == k))

not_yet : (t : Table) → AreBelow t.next t.rows → has_row t.next t.rows ≡ false
not_yet t b = by (has_row t.next t.rows) refl
  where
    by : (x : Bool) → has_row t.next t.rows ≡ x → x ≡ false
    by true e = absurd (let less = below_has t.next t.next t.rows b e in omega (arith, less))
    by false e = refl

stands_after : (kind : ChangeKind) (c : Change) (t : Table) → AreBelow t.next t.rows → fits_kind kind c t → Stands kind c (after_kind kind c t) c.tuple
stands_after Inserted c t b f = subst (λ n. row_of n (t.rows ++ (t.next, new_row c) ∷ []) ≡ Some (new_row c)) (sym f.0) (row-last t.next t.rows (new_row c) (not_yet t b))
stands_after Deleted c t b f =
    (has-without c.tuple t.rows, below_has t.next c.tuple t.rows b (has_found c.tuple t.rows (subst IsSome (sym f.0) f.1)))
stands_after Updated c t b f = row-map_own c.tuple (new_row c) t.rows (has_found c.tuple t.rows (subst IsSome (sym f.0) f.1))

-- a tuple that another change leaves alone
kept_number : (kind : ChangeKind) (c : Change) (t : Table) (k : ℕ) → (c.tuple == k) ≡ false → fits_kind kind c t → has_row k (after_kind kind c t).rows ≡ has_row k t.rows
kept_number Inserted c t k h f = has_inserted k c t ∙ ap (λ b. has_row k t.rows || b) (subst (λ n. (n == k) ≡ false) f.0 h) ∙ or-false (has_row k t.rows)
kept_number Deleted c t k h f = has-without_other k c.tuple t.rows h
kept_number Updated c t k h f = has-map k c.tuple (new_row c) t.rows

kept_row : (kind : ChangeKind) (c : Change) (t : Table) (k : ℕ) → (c.tuple == k) ≡ false → fits_kind kind c t → row_of k (after_kind kind c t).rows ≡ row_of k t.rows
kept_row Inserted c t k h f = row-more k t.rows (t.next, new_row c) (subst (λ n. (n == k) ≡ false) f.0 h)
kept_row Deleted c t k h f = row-without_other k c.tuple t.rows h
kept_row Updated c t k h f = row-map_other k c.tuple (new_row c) t.rows h

next_more : (kind : ChangeKind) (c : Change) (t : Table) → t.next ≤ (after_kind kind c t).next
next_more Inserted c t = omega arith
next_more Deleted c t = omega arith
next_more Updated c t = omega arith

stays : (k : ℕ) (s : ChangeKind) (b : Change) (t u : Table) → row_of k u.rows ≡ row_of k t.rows → has_row k u.rows ≡ has_row k t.rows → t.next ≤ u.next → Stands s b t k → Stands s b u k
stays k Inserted b t u row e n h = row ∙ h
stays k Updated b t u row e n h = row ∙ h
stays k Deleted b t u row e n h = (e ∙ h.0, let q : k < t.next = h.1 in omega (arith, q, n))

not_next : {A : Type 0} (k : ℕ) (t : Table) → k ≡ t.next → k < t.next → A
not_next k t e h = absurd (omega (arith, e, h))

-- the change takes the row that stands
takes : (b c : Change) (t : Table) → row_of c.tuple t.rows ≡ c.old → row_of c.tuple t.rows ≡ Some (new_row b) → old_row c ≡ new_row b
takes b c t f h = ap (λ o. unwrap_or o []) (sym f ∙ h)

follows : (s kind : ChangeKind) (a c : Change) (t : Table) → AreBelow t.next t.rows → fits_kind kind c t → Stands s a t c.tuple → (may_follow s kind ≡ true) × (old_row c ≡ new_row a)
follows Inserted Inserted a c t b f h = not_next c.tuple t f.0 (below_has t.next c.tuple t.rows b (has_row_of c.tuple t.rows (new_row a) h))
follows Inserted Updated a c t b f h = (refl, takes a c t f.0 h)
follows Inserted Deleted a c t b f h = (refl, takes a c t f.0 h)
follows Updated Inserted a c t b f h = not_next c.tuple t f.0 (below_has t.next c.tuple t.rows b (has_row_of c.tuple t.rows (new_row a) h))
follows Updated Updated a c t b f h = (refl, takes a c t f.0 h)
follows Updated Deleted a c t b f h = (refl, takes a c t f.0 h)
follows Deleted Inserted a c t b f h = not_next c.tuple t f.0 h.1
follows Deleted Updated a c t b f h = absurd (true≢false (sym (has_found c.tuple t.rows (subst IsSome (sym f.0) f.1)) ∙ h.0))
follows Deleted Deleted a c t b f h = absurd (true≢false (sym (has_found c.tuple t.rows (subst IsSome (sym f.0) f.1)) ∙ h.0))

-- ---- a table among the tables

table_after : (c : Change) (tables : List Entry) → has_table tables c.table ≡ true → table_at (after c tables) c.table ≡ after_change c (table_at tables c.table)
table_after c [] h = absurd (false≢true h)
table_after c (e ∷ es) h =
    elim (e.id == c.table) as (λ b. (e.id == c.table) ≡ b → (b || has_table es c.table) ≡ true
    → table_at ((let q : Entry = cond b (record e { table = after_change c e.table }) e in q) ∷ after c es) c.table ≡ after_change c (cond b e.table (table_at es c.table))) [
      | true ↦ λ same _. ap (λ b. cond b (after_change c e.table) (table_at (after c es) c.table)) same
      | false ↦ λ other h. ap (λ b. cond b e.table (table_at (after c es) c.table)) other ∙ table_after c es h
    ] refl h

other_table : (c : Change) (t : ℕ) → (c.table == t) ≡ false → (tables : List Entry) → table_at (after c tables) t ≡ table_at tables t
other_table c t h [] = refl
other_table c t h (e ∷ es) =
    elim (e.id == c.table) as (λ b. (e.id == c.table) ≡ b
    → table_at ((let q : Entry = cond b (record e { table = after_change c e.table }) e in q) ∷ after c es) t ≡ cond (e.id == t) e.table (table_at es t)) [
      | true ↦ λ same.
          let no : (e.id == t) ≡ false = ap (λ n. n == t) (eqb-true e.id c.table same) ∙ h in
          ap (λ b. cond b (after_change c e.table) (table_at (after c es) t)) no ∙ other_table c t h es ∙ sym (ap (λ b. cond b e.table (table_at es t)) no)
      | false ↦ λ _. ap (cond (e.id == t) e.table) (other_table c t h es)
    ] refl

-- ---- lives

-- the list may come next after the change
abbrev MayBegin : Change → List Change → Type 0
MayBegin c [] = Unit {0}
MayBegin c (d ∷ ds) = Follows c d

life_on : (c : Change) (h : List Change) → MayBegin c h → IsLife h → IsLife (c ∷ h)
life_on c [] m l = tt
life_on c (d ∷ ds) m l = (m, l)

-- the rest of the list, from the table that the first change leaves
abbrev Goes : Table → ℕ → List Change → Type 0
Goes u k h = IsLife h × ((b : Change) → Stands b.kind b u k → MayBegin b h)

of_table : (c : Change) (t u : Table) (k : ℕ) (h : List Change) → AreBelow t.next t.rows → fits_kind c.kind c t → u ≡ after_change c t → Goes u k h → Goes t k (cond (c.tuple == k) (c ∷ h) h)
of_table c t u k h b f e g =
    elim (c.tuple == k) as (λ x. (c.tuple == k) ≡ x → Goes t k (cond x (c ∷ h) h)) [
      | true ↦ λ same.
          let at : c.tuple ≡ k = eqb-true c.tuple k same in
          let standing : Stands c.kind c u k = subst (λ n. Stands c.kind c u n) at (subst (λ v. Stands c.kind c v c.tuple) (sym e) (stands_after c.kind c t b f)) in
          (life_on c h (g.1 c standing) g.0, λ a p. follows a.kind c.kind a c t b f (subst (λ n. Stands a.kind a t n) (sym at) p))
      | false ↦ λ other. (
        g.0,
        λ a p. g.1 a (subst (λ v. Stands a.kind a v k) (sym e) (stays k a.kind a t (after_change c t) (kept_row c.kind c t k other f) (kept_number c.kind c t k other f) (next_more c.kind c t) p)),
      )
    ] refl

goes : (table k : ℕ) (changes : List Change) (tables : List Entry) → AreBelow (table_at tables table).next (table_at tables table).rows → IsProper tables changes → Goes (table_at tables table) k (history changes table k)
goes table k [] tables b p = (tt, λ a h. tt)
goes table k (c ∷ cs) tables b p =
    elim (c.table == table) as (λ x. (c.table == table) ≡ x → Goes (table_at tables table) k (cond (x && (c.tuple == k)) (c ∷ history cs table k) (history cs table k))) [
      | true ↦ λ same.
          let at : c.table ≡ table = eqb-true c.table table same in
          let is : table_at (after c tables) table ≡ after_change c (table_at tables table) =
          subst (λ n. table_at (after c tables) n ≡ after_change c (table_at tables n)) at (table_after c tables p.0) in
          let below : AreBelow (table_at (after c tables) table).next (table_at (after c tables) table).rows =
          subst (λ u. AreBelow u.next u.rows) (sym is) (below_after c.kind c (table_at tables table) b) in
          of_table c (table_at tables table) (table_at (after c tables) table) k (history cs table k) b
          (subst (λ n. fits_kind c.kind c (table_at tables n)) at p.1) is (goes table k cs (after c tables) below p.2)
      | false ↦ λ other.
          let is : table_at (after c tables) table ≡ table_at tables table = other_table c table other tables in
          subst (λ u. Goes u k (history cs table k)) is (goes table k cs (after c tables) (subst (λ u. AreBelow u.next u.rows) (sym is) b) p.2)
    ] refl

pub proper_lists_have_lives : ProperListsHaveLives
proper_lists_have_lives tables changes table tuple is_table proper = (goes table tuple changes tables is_table.0 proper).0
