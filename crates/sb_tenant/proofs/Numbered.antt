-- Renumbered tables: renumbered changes make of them what the changes make of the tables.
use Rattle.std.proofs.Common.{◌≡◌, ◌∙◌, ℕ, ◌+◌, ◌<◌, ◌⊎◌, ◌||◌, Bool, true, false, not, cond, nat_eq, nat_lt, List, [], ◌∷◌, map, filter, All, refl, sym, ap, arith, eqb-true, eq-eqb, ne_eqb, lt-ltb, le-ltb, inl, inr}
use Rattle.std.proofs.lemmas.Bool.{cases_order}
use Rattle.std.proofs.lemmas.List.{map-append}
use Rattle.std.proofs.lemmas.List.Elements.{All-head, All-tail, All-map, All-weaker}
use Rattle.sb_value.specs.declared.value.Value.{Value}
use Rattle.sb_value.specs.declared.change.Change.{Change}
use Rattle.sb_value.specs.declared.change.ChangeKind.{ChangeKind}
use Rattle.sb_value.specs.declared.change.ChangeKind.TheVariants.{Inserted, Deleted, Updated}
use Rattle.sb_value.specs.Table.{Table, Entry, new_row, after_kind, entry_after, after, after_all, has_table, name_at}
use Rattle.sb_tenant.specs.AlikeTenants.{Numbering, IsNumbering, renumbered_table, renumbered_entry, renumbered_change}

-- ---- numbers

module _ (n : Numbering) (rising : (table a b : ℕ) → a < b → n table a < n table b) (t a b : ℕ) where
  pub same_number : nat_eq (n t a) (n t b) ≡ nat_eq a b
  same_number = by (cases_order a b)
    where
      by : (a ≡ b) ⊎ ((a < b) ⊎ (b < a)) → nat_eq (n t a) (n t b) ≡ nat_eq a b
      by (inl e) = eq-eqb (n t a) (n t b) (ap (n t) e) ∙ sym (eq-eqb a b e)
      by (inr (inl l)) = ne_eqb (n t a) (n t b) (λ e. omega (arith, e, rising t a b l)) ∙ sym (ne_eqb a b (λ e. omega (arith, e, l)))
      by (inr (inr l)) = ne_eqb (n t a) (n t b) (λ e. omega (arith, e, rising t b a l)) ∙ sym (ne_eqb a b (λ e. omega (arith, e, l)))

  pub less_number : nat_lt (n t a) (n t b) ≡ nat_lt a b
  less_number = by (cases_order a b)
    where
      by : (a ≡ b) ⊎ ((a < b) ⊎ (b < a)) → nat_lt (n t a) (n t b) ≡ nat_lt a b
      by (inl e) = le-ltb (n t a) (n t b) (let p : n t a ≡ n t b = ap (n t) e in omega (arith, p)) ∙ sym (le-ltb a b (omega (arith, e)))
      by (inr (inl l)) = lt-ltb (n t a) (n t b) (rising t a b l) ∙ sym (lt-ltb a b l)
      by (inr (inr l)) = le-ltb (n t a) (n t b) (let p : n t b < n t a = rising t b a l in omega (arith, p)) ∙ sym (le-ltb a b (omega (arith, l)))

-- what counts on from a number counts on from the next one
pub steady_on : (f : ℕ → ℕ) (m : ℕ) → ((k : ℕ) → f (m + k) ≡ f m + k) → (k : ℕ) → f (m + 1 + k) ≡ f (m + 1) + k
steady_on f m steady k =
    ap f (let p : m + 1 + k ≡ m + (1 + k) = omega arith in p)
    ∙ steady (1 + k)
    ∙ (let p : f (m + 1) ≡ f m + 1 = steady 1 in let q : f m + (1 + k) ≡ f (m + 1) + k = omega (arith, p) in q)

-- ---- a table

abbrev pub Row : Type 0
Row = ℕ × List Value

abbrev pub renumbered_row : (ℕ → ℕ) → Row → Row
renumbered_row number r = (number r.0, r.1)

filter-map : {A B : Type 0} (f : A → B) (p : A → Bool) (q : B → Bool) → ((a : A) → q (f a) ≡ p a) → (xs : List A) → filter q (map f xs) ≡ map f (filter p xs)
filter-map f p q e [] = refl
filter-map f p q e (x ∷ xs) = (λ i. cond (e x i) (f x ∷ filter-map f p q e xs i) (filter-map f p q e xs i)) ∙ by (p x)
  where
    by : (b : Bool) → cond b (f x ∷ map f (filter p xs)) (map f (filter p xs)) ≡ map f (cond b (x ∷ filter p xs) (filter p xs))
    by true = refl
    by false = refl

pub map-map : {A B C D : Type 0} (f : A → B) (g : B → D) (h : A → C) (k : C → D) → ((a : A) → g (f a) ≡ k (h a)) → (xs : List A) → map g (map f xs) ≡ map k (map h xs)
map-map f g h k e [] = refl
map-map f g h k e (x ∷ xs) = λ i. e x i ∷ map-map f g h k e xs i

module _ (n : Numbering) (rising : (table a b : ℕ) → a < b → n table a < n table b) (tenant t : ℕ) (c : Change) (table : Table) (next : n t (table.next + 1) ≡ n t table.next + 1) where
  abbrev renumbered : Change
  renumbered = record c { tenant = tenant; tuple = n t c.tuple }

  put : (b : Bool) (r : Row) → cond b (n t c.tuple, new_row c) (renumbered_row (n t) r) ≡ renumbered_row (n t) (cond b (c.tuple, new_row c) r)
  put true r = refl
  put false r = refl

  table_after : (k : ChangeKind) → after_kind k renumbered (renumbered_table (n t) table) ≡ renumbered_table (n t) (after_kind k c table)
  table_after Inserted = λ i. record {
    columns = table.columns;
    rows = sym (map-append (renumbered_row (n t)) table.rows ((table.next, new_row c) ∷ [])) i;
    next = sym next i;
  }
  table_after Deleted = λ i. record {
    columns = table.columns;
    rows = filter-map (renumbered_row (n t)) (λ (r : Row). not (nat_eq r.0 c.tuple)) (λ (r : Row). not (nat_eq r.0 (n t c.tuple)))
        (λ r. ap not (same_number n rising t r.0 c.tuple)) table.rows i;
    next = n t table.next;
  }
  table_after Updated = λ i. record {
    columns = table.columns;
    rows = map-map (renumbered_row (n t)) (λ (r : Row). cond (nat_eq r.0 (n t c.tuple)) (n t c.tuple, new_row c) r) (λ (r : Row). cond (nat_eq r.0 c.tuple) (c.tuple, new_row c) r) (renumbered_row (n t))
        (λ r. ap (λ (b : Bool). cond b (n t c.tuple, new_row c) (renumbered_row (n t) r)) (same_number n rising t r.0 c.tuple) ∙ put (nat_eq r.0 c.tuple) r) table.rows i;
    next = n t table.next;
  }

-- ---- tables

abbrev pub IsSteady : Numbering → Entry → Type 0
IsSteady n e = (k : ℕ) → n e.id (e.table.next + k) ≡ n e.id e.table.next + k

module _ (tenant : ℕ) (n : Numbering) (rising : (table a b : ℕ) → a < b → n table a < n table b) (c : Change) where
  entry_same : (e : Entry) → IsSteady n e → entry_after (renumbered_change tenant n c) (renumbered_entry n e) ≡ renumbered_entry n (entry_after c e)
  entry_same e steady = by (nat_eq e.id c.table) refl
    where
      by : (b : Bool) → nat_eq e.id c.table ≡ b →
          cond b (record (renumbered_entry n e) { table = after_kind c.kind (renumbered_change tenant n c) (renumbered_table (n e.id) e.table) }) (renumbered_entry n e)
          ≡ renumbered_entry n (cond b (record e { table = after_kind c.kind c e.table }) e)
      by false p = refl
      by true p = λ i. record {
        id = e.id;
        name = e.name;
        table = (ap (λ (t : ℕ). after_kind c.kind (record c { tenant = tenant; tuple = n t c.tuple }) (renumbered_table (n e.id) e.table)) (sym (eqb-true e.id c.table p))
            ∙ table_after n rising tenant e.id c e.table (steady 1) c.kind) i;
      }

  steady_after : (e : Entry) → IsSteady n e → IsSteady n (entry_after c e)
  steady_after e steady = by (nat_eq e.id c.table)
    where
      of : (kind : ChangeKind) → (k : ℕ) → n e.id ((after_kind kind c e.table).next + k) ≡ n e.id (after_kind kind c e.table).next + k
      of Inserted = steady_on (n e.id) e.table.next steady
      of Deleted = steady
      of Updated = steady

      by : (b : Bool) → IsSteady n (cond b (record e { table = after_kind c.kind c e.table }) e)
      by true = of c.kind
      by false = steady

  entries_same : (tables : List Entry) → All (IsSteady n) tables → after (renumbered_change tenant n c) (map (renumbered_entry n) tables) ≡ map (renumbered_entry n) (after c tables)
  entries_same [] h = refl
  entries_same (e ∷ tables) h = λ i. entry_same e (All-head (IsSteady n) e tables h) i ∷ entries_same tables (All-tail (IsSteady n) e tables h) i

  has_after : (tables : List Entry) (id : ℕ) → has_table (after c tables) id ≡ has_table tables id
  has_after [] id = refl
  has_after (e ∷ tables) id = λ i. by (nat_eq e.id c.table) i || has_after tables id i
    where
      by : (b : Bool) → nat_eq (cond b (record e { table = after_kind c.kind c e.table }) e).id id ≡ nat_eq e.id id
      by true = refl
      by false = refl

  numbering_after_one : (tables : List Entry) → IsNumbering n tables → IsNumbering n (after c tables)
  numbering_after_one tables h = record {
    rising = rising;
    steady = All-map (IsSteady n) (entry_after c) tables (All-weaker (IsSteady n) (λ e. IsSteady n (entry_after c e)) steady_after tables h.steady);
    elsewhere = λ t k none. h.elsewhere t k (sym (has_after tables t) ∙ none);
  }

-- ---- lists of changes

pub tables_after : (tenant : ℕ) (n : Numbering) (cs : List Change) (tables : List Entry) → IsNumbering n tables →
    after_all (map (renumbered_change tenant n) cs) (map (renumbered_entry n) tables) ≡ map (renumbered_entry n) (after_all cs tables)
tables_after tenant n [] tables h = refl
tables_after tenant n (c ∷ cs) tables h =
    ap (after_all (map (renumbered_change tenant n) cs)) (entries_same tenant n h.rising c tables h.steady)
    ∙ tables_after tenant n cs (after c tables) (numbering_after_one tenant n h.rising c tables h)

pub numbering_after : (n : Numbering) (cs : List Change) (tables : List Entry) → IsNumbering n tables → IsNumbering n (after_all cs tables)
numbering_after n [] tables h = h
numbering_after n (c ∷ cs) tables h = numbering_after n cs (after c tables) (numbering_after_one 0 n h.rising c tables h)

pub name_after : (n : Numbering) (tables : List Entry) (t : ℕ) → name_at (map (renumbered_entry n) tables) t ≡ name_at tables t
name_after n [] t = refl
name_after n (e ∷ tables) t = ap (cond (nat_eq e.id t) e.name) (name_after n tables t)
