-- Proper lists of changes: what they make of a table, one after another, and where other tables change.
use Rattle.std.proofs.Common.{◌≡◌, ◌∙◌, ℕ, ◌+◌, ◌<◌, Bool, true, false, not, ◌||◌, cond, nat_eq, List, [], ◌∷◌, ◌++◌, map, filter, refl, sym, ap, subst, eqb-true, true≢false, arith, IsTrue}
use Rattle.std.proofs.lemmas.Bool.{eq-eqb}
use Rattle.sb_value.specs.declared.value.Value.{Value}
use Rattle.sb_value.specs.declared.change.Change.{Change}
use Rattle.sb_value.specs.declared.change.ChangeKind.{ChangeKind}
use Rattle.sb_value.specs.declared.change.ChangeKind.TheVariants.{Inserted, Deleted, Updated}
use Rattle.sb_value.specs.Table.{Table, Entry, new_row, after_kind, after_change, fits_kind, table_at, after, after_all, has_table, IsProper, AreBelow, AreRising, IsTable}

-- ---- a table after a change

abbrev Row : Type 0
Row = ℕ × List Value

below-last : (n : ℕ) (row : List Value) (rows : List Row) → AreBelow n rows → AreBelow (n + 1) (rows ++ (n, row) ∷ [])
below-last n row [] h = (omega arith, tt)
below-last n row (r ∷ rows) h = let p : r.0 < n = h.0 in (omega arith, below-last n row rows h.1)

rising-last : (n : ℕ) (row : List Value) (rows : List Row) → AreBelow n rows → AreRising rows → AreRising (rows ++ (n, row) ∷ [])
rising-last n row [] h k = tt
rising-last n row (r ∷ []) h k = (h.0, tt)
rising-last n row (r ∷ q ∷ rows) h k = (k.0, rising-last n row (q ∷ rows) h.1 k.1)

-- the numbers of the rows are what counts
below-map : (f : Row → Row) → ((r : Row) → (f r).0 ≡ r.0) → (n : ℕ) (rows : List Row) → AreBelow n rows → AreBelow n (map f rows)
below-map f e n [] h = tt
below-map f e n (r ∷ rows) h = (subst (λ (k : ℕ). k < n) (sym (e r)) h.0, below-map f e n rows h.1)

rising-map : (f : Row → Row) → ((r : Row) → (f r).0 ≡ r.0) → (rows : List Row) → AreRising rows → AreRising (map f rows)
rising-map f e [] k = tt
rising-map f e (r ∷ []) k = tt
rising-map f e (r ∷ q ∷ rows) k = (subst (λ (x : ℕ). x < (f q).0) (sym (e r)) (subst (λ (x : ℕ). r.0 < x) (sym (e q)) k.0), rising-map f e (q ∷ rows) k.1)

-- what holds of each row holds of those that are left
each-filter : (Each : List Row → Type 0) (One : Row → Type 0) → ((r : Row) (rows : List Row) → Each (r ∷ rows) → One r × Each rows) → ((r : Row) (rows : List Row) → One r → Each rows → Each (r ∷ rows)) →
    (p : Row → Bool) (rows : List Row) → Each rows → Each (filter p rows)
each-filter Each One parts both p [] h = h
each-filter Each One parts both p (r ∷ rows) h =
    let k = parts r rows h in
    let rest = each-filter Each One parts both p rows k.1 in
    elim (p r) as (λ b. Each (cond b (r ∷ filter p rows) (filter p rows))) [ true ↦ both r (filter p rows) k.0 rest | false ↦ rest ]

below-filter : (p : Row → Bool) (n : ℕ) (rows : List Row) → AreBelow n rows → AreBelow n (filter p rows)
below-filter p n = each-filter (AreBelow n) (λ r. r.0 < n) (λ r rows h. h) (λ r rows one each. (one, each)) p

-- a row stands before all that are left of the later ones
abbrev AreAbove : ℕ → List Row → Type 0
AreAbove n [] = Unit {0}
AreAbove n (r ∷ rows) = (n < r.0) × AreAbove n rows

above-rising : (r : Row) (rows : List Row) → AreRising (r ∷ rows) → AreAbove r.0 rows
above-rising r [] k = tt
above-rising r (q ∷ rows) k = let p : r.0 < q.0 = k.0 in (k.0, lower rows (above-rising q rows k.1))
  where
    lower : (rows : List Row) → AreAbove q.0 rows → AreAbove r.0 rows
    lower [] h = tt
    lower (x ∷ rows) h = let p : r.0 < q.0 = k.0 in let o : q.0 < x.0 = h.0 in (omega arith, lower rows h.1)

rising-first : (r : Row) (rows : List Row) → AreAbove r.0 rows → AreRising rows → AreRising (r ∷ rows)
rising-first r [] h k = tt
rising-first r (q ∷ rows) h k = (h.0, k)

rising-rest : (r : Row) (rows : List Row) → AreRising (r ∷ rows) → AreRising rows
rising-rest r [] k = tt
rising-rest r (q ∷ rows) k = k.1

above-filter : (p : Row → Bool) (n : ℕ) (rows : List Row) → AreAbove n rows → AreAbove n (filter p rows)
above-filter p n = each-filter (AreAbove n) (λ r. n < r.0) (λ r rows h. h) (λ r rows one each. (one, each)) p

rising-filter : (p : Row → Bool) (rows : List Row) → AreRising rows → AreRising (filter p rows)
rising-filter p [] k = tt
rising-filter p (r ∷ rows) k = by (p r) (rising-filter p rows (rising-rest r rows k))
  where
    by : (b : Bool) → AreRising (filter p rows) → AreRising (cond b (r ∷ filter p rows) (filter p rows))
    by true rest = rising-first r (filter p rows) (above-filter p r.0 rows (above-rising r rows k)) rest
    by false rest = rest

sound-after : (c : Change) (table : Table) → IsTable table → IsTable (after_change c table)
sound-after c table h = by c.kind
  where
    same : (r : Row) (b : Bool) → nat_eq r.0 c.tuple ≡ b → (cond b (c.tuple, new_row c) r).0 ≡ r.0
    same r true e = sym (eqb-true r.0 c.tuple e)
    same r false e = refl

    by : (k : ChangeKind) → IsTable (after_kind k c table)
    by Inserted = (below-last table.next (new_row c) table.rows h.0, rising-last table.next (new_row c) table.rows h.0 h.1)
    by Deleted = (below-filter (λ r. not (nat_eq r.0 c.tuple)) table.next table.rows h.0, rising-filter (λ r. not (nat_eq r.0 c.tuple)) table.rows h.1)
    by Updated = (
      below-map (λ r. cond (nat_eq r.0 c.tuple) (c.tuple, new_row c) r) (λ r. same r (nat_eq r.0 c.tuple) refl) table.next table.rows h.0,
      rising-map (λ r. cond (nat_eq r.0 c.tuple) (c.tuple, new_row c) r) (λ r. same r (nat_eq r.0 c.tuple) refl) table.rows h.1,
    )

-- ---- the tables after a change

pub has-after : (c : Change) (es : List Entry) (t : ℕ) → has_table (after c es) t ≡ has_table es t
has-after c [] t = refl
has-after c (e ∷ es) t = λ i. nat_eq (same (nat_eq e.id c.table) i) t || has-after c es t i
  where
    same : (b : Bool) → (cond b (record e { table = after_change c e.table }) e).id ≡ e.id
    same true = refl
    same false = refl

other-after : (c : Change) (es : List Entry) (t : ℕ) → nat_eq c.table t ≡ false → table_at (after c es) t ≡ table_at es t
other-after c [] t o = refl
other-after c (e ∷ es) t o = by (nat_eq e.id c.table) refl (nat_eq e.id t) refl (other-after c es t o)
  where
    by : (a : Bool) → nat_eq e.id c.table ≡ a → (b : Bool) → nat_eq e.id t ≡ b → table_at (after c es) t ≡ table_at es t →
        (let f : Entry = cond a (record e { table = after_change c e.table }) e in cond (nat_eq f.id t) f.table (table_at (after c es) t)) ≡ cond b e.table (table_at es t)
    by true p true q rest = absurd (true≢false (sym (eq-eqb c.table t (sym (eqb-true e.id c.table p) ∙ eqb-true e.id t q)) ∙ o))
    by true p false q rest = ap (λ (b : Bool). cond b (after_change c e.table) (table_at (after c es) t)) q ∙ rest
    by false p true q rest = ap (λ (b : Bool). cond b e.table (table_at (after c es) t)) q
    by false p false q rest = ap (λ (b : Bool). cond b e.table (table_at (after c es) t)) q ∙ rest

own-after : (c : Change) (es : List Entry) → IsTrue (has_table es c.table) → table_at (after c es) c.table ≡ after_change c (table_at es c.table)
own-after c [] h = absurd (true≢false (sym h))
own-after c (e ∷ es) h = by (nat_eq e.id c.table) refl h (own-after c es)
  where
    by : (a : Bool) → nat_eq e.id c.table ≡ a → IsTrue (a || has_table es c.table) → (IsTrue (has_table es c.table) → table_at (after c es) c.table ≡ after_change c (table_at es c.table)) →
        (let f : Entry = cond a (record e { table = after_change c e.table }) e in cond (nat_eq f.id c.table) f.table (table_at (after c es) c.table)) ≡ after_change c (cond a e.table (table_at es c.table))
    by true p k rest = ap (λ (b : Bool). cond b (after_change c e.table) (table_at (after c es) c.table)) p
    by false p k rest = ap (λ (b : Bool). cond b e.table (table_at (after c es) c.table)) p ∙ rest k

-- ---- lists

pub has-after_all : (cs : List Change) (es : List Entry) (t : ℕ) → has_table (after_all cs es) t ≡ has_table es t
has-after_all [] es t = refl
has-after_all (c ∷ cs) es t = has-after_all cs (after c es) t ∙ has-after c es t

pub proper-and : (es : List Entry) (cs ds : List Change) → IsProper es cs → IsProper (after_all cs es) ds → IsProper es (cs ++ ds)
proper-and es [] ds h k = k
proper-and es (c ∷ cs) ds h k = (h.0, h.1, proper-and (after c es) cs ds h.2 k)

-- a sound table stays sound
pub sound-after_all : (cs : List Change) (es : List Entry) (t : ℕ) → IsProper es cs → IsTable (table_at es t) → IsTable (table_at (after_all cs es) t)
sound-after_all [] es t h k = k
sound-after_all (c ∷ cs) es t h k = sound-after_all cs (after c es) t h.2 (by (nat_eq c.table t) refl)
  where
    by : (b : Bool) → nat_eq c.table t ≡ b → IsTable (table_at (after c es) t)
    by true e = subst (λ (n : ℕ). IsTable (table_at (after c es) n)) (eqb-true c.table t e)
        (subst IsTable (sym (own-after c es h.0)) (sound-after c (table_at es c.table) (subst (λ (n : ℕ). IsTable (table_at es n)) (sym (eqb-true c.table t e)) k)))
    by false e = subst IsTable (sym (other-after c es t e)) k

-- ---- tables that agree where a test passes

abbrev pub Agree : (ℕ → Bool) → List Entry → List Entry → Type 0
Agree test es fs = (t : ℕ) → IsTrue (test t) → IsTrue (has_table es t) → IsTrue (has_table fs t) × (table_at fs t ≡ table_at es t)

abbrev pub AreOn : (ℕ → Bool) → List Change → Type 0
AreOn test [] = Unit {0}
AreOn test (c ∷ cs) = IsTrue (test c.table) × AreOn test cs

agree-after : (test : ℕ → Bool) (c : Change) (es fs : List Entry) → IsTrue (test c.table) → IsTrue (has_table es c.table) → Agree test es fs → Agree test (after c es) (after c fs)
agree-after test c es fs on has agree t p q = by (nat_eq c.table t) refl
  where
    here : IsTrue (has_table es t)
    here = sym (has-after c es t) ∙ q

    by : (b : Bool) → nat_eq c.table t ≡ b → IsTrue (has_table (after c fs) t) × (table_at (after c fs) t ≡ table_at (after c es) t)
    by true e = subst (λ (n : ℕ). IsTrue (has_table (after c fs) n) × (table_at (after c fs) n ≡ table_at (after c es) n)) (eqb-true c.table t e)
        (let a = agree c.table on has in (has-after c fs c.table ∙ a.0, own-after c fs a.0 ∙ ap (after_change c) a.1 ∙ sym (own-after c es has)))
    by false e = let a = agree t p here in (has-after c fs t ∙ a.0, other-after c fs t e ∙ a.1 ∙ sym (other-after c es t e))

pub proper-on : (test : ℕ → Bool) (cs : List Change) (es fs : List Entry) → AreOn test cs → Agree test es fs → IsProper es cs → IsProper fs cs
proper-on test [] es fs on agree h = tt
proper-on test (c ∷ cs) es fs on agree h =
    let a = agree c.table on.0 h.0 in
    (a.0, subst (fits_kind c.kind c) (sym a.1) h.1, proper-on test cs (after c es) (after c fs) on.1 (agree-after test c es fs on.0 h.0 agree) h.2)

-- changes elsewhere leave them alike
pub agree-elsewhere : (test : ℕ → Bool) (cs : List Change) (es : List Entry) → AreOn (λ t. not (test t)) cs → Agree test es (after_all cs es)
agree-elsewhere test [] es off t p q = (q, refl)
agree-elsewhere test (c ∷ cs) es off t p q =
    let k = agree-elsewhere test cs (after c es) off.1 t p (has-after c es t ∙ q) in (k.0, k.1 ∙ other-after c es t (differs (nat_eq c.table t) refl))
  where
    differs : (b : Bool) → nat_eq c.table t ≡ b → b ≡ false
    differs true e = absurd (true≢false (sym (sym (ap (λ (n : ℕ). not (test n)) (eqb-true c.table t e)) ∙ off.0) ∙ ap not p))
    differs false e = refl
