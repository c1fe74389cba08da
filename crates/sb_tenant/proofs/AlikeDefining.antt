-- What the commands on tables leave of renumbered tables: a new table is numbered as it is, and so is a place whose table goes.
use Rattle.std.proofs.Common.{◌≡◌, ◌∙◌, ℕ, ◌+◌, ◌<◌, ◌⊎◌, inl, inr, Bool, true, false, not, ◌||◌, cond, nat_eq, List, [], ◌∷◌, ◌++◌, map, filter, refl, sym, ap, arith, eqb-true, eq-eqb, ne_eqb}
use Rattle.std.specs.List.{list_any}
use Rattle.std.proofs.lemmas.Bool.{cases_eq, or_parts}
use Rattle.std.proofs.lemmas.List.{map-append}
use Rattle.std.proofs.lemmas.List.Elements.{All-cons, All-append, All-weaker, All-filter}
use Rattle.std.proofs.lemmas.List.Folds.{list_any-append}
use Rattle.sb_value.specs.declared.value.ColumnDefinition.{ColumnDefinition}
use Rattle.sb_value.specs.Table.{Entry, empty_table, has_table}
use Rattle.sb_catalog.specs.Rules.{IsLeastFree, least_free}
use Rattle.sb_tenant.specs.AlikeTenants.{Numbering, IsNumbering, renumbered_table, renumbered_entry}

abbrev IsSteady : Numbering → Entry → Type 0
IsSteady n e = (k : ℕ) → n e.id (e.table.next + k) ≡ n e.id e.table.next + k

ids-same : (n : Numbering) (tables : List Entry) → map (λ e. e.id) (map (renumbered_entry n) tables) ≡ map (λ e. e.id) tables
ids-same n [] = refl
ids-same n (e ∷ tables) = λ i. e.id ∷ ids-same n tables i

-- ---- a new table

abbrev pub new_entry : List Entry → List ℕ → List ColumnDefinition → Entry
new_entry tables name columns = record { id = least_free (map (λ e. e.id) tables); name = name; table = empty_table columns }

among : (tables : List Entry) (id : ℕ) → list_any (λ k. nat_eq k id) (map (λ e. e.id) tables) ≡ has_table tables id
among [] id = refl
among (e ∷ tables) id = λ i. nat_eq e.id id || among tables id i

module _ (free : (used : List ℕ) → IsLeastFree used (least_free used)) (n : Numbering) (tables : List Entry) (h : IsNumbering n tables) (name : List ℕ) (columns : List ColumnDefinition) where
  abbrev new : Entry
  new = new_entry tables name columns

  fresh : has_table tables new.id ≡ false
  fresh = sym (among tables new.id) ∙ (free (map (λ e. e.id) tables)).free

  pub created-tables : map (renumbered_entry n) tables ++ new_entry (map (renumbered_entry n) tables) name columns ∷ [] ≡ map (renumbered_entry n) (tables ++ new ∷ [])
  created-tables = (λ i. map (renumbered_entry n) tables ++ entry i ∷ []) ∙ sym (map-append (renumbered_entry n) tables (new ∷ []))
    where
      entry : new_entry (map (renumbered_entry n) tables) name columns ≡ renumbered_entry n new
      entry = λ i. record {
        id = least_free (ids-same n tables i);
        name = name;
        table = record { columns = columns; rows = []; next = sym (h.elsewhere new.id 1 fresh) i };
      }

  pub created-numbered : IsNumbering n (tables ++ new ∷ [])
  created-numbered = record {
    rising = h.rising;
    steady =
        All-append (IsSteady n) tables (new ∷ []) h.steady
        (All-cons (IsSteady n) new [] (λ k. h.elsewhere new.id (1 + k) fresh ∙ (λ i. sym (h.elsewhere new.id 1 fresh) i + k)) (λ k d below. absurd (omega (arith, below))));
    elsewhere = λ t k none. h.elsewhere t k (or_parts (has_table tables t) (has_table (new ∷ []) t) (sym (list_any-append (λ e. nat_eq e.id t) tables (new ∷ [])) ∙ none)).0;
  }

-- ---- a table goes

eq-swap : (a b : ℕ) → nat_eq a b ≡ nat_eq b a
eq-swap a b = by (cases_eq a b)
  where
    by : (a ≡ b) ⊎ (a ≡ b → ⊥) → nat_eq a b ≡ nat_eq b a
    by (inl e) = eq-eqb a b e ∙ sym (eq-eqb b a (sym e))
    by (inr ne) = ne_eqb a b ne ∙ sym (ne_eqb b a (λ e. ne (sym e)))

abbrev pub numbered_without : ℕ → Numbering → Numbering
numbered_without id n t k = cond (nat_eq t id) k (n t k)

module _ (n : Numbering) (id : ℕ) where
  abbrev m : Numbering
  m = numbered_without id n

  abbrev less : List Entry → List Entry
  less tables = filter (λ e. not (nat_eq e.id id)) tables

  pub dropped-tables : (tables : List Entry) → less (map (renumbered_entry n) tables) ≡ map (renumbered_entry m) (less tables)
  dropped-tables [] = refl
  dropped-tables (e ∷ tables) = by (nat_eq e.id id) refl (dropped-tables tables)
    where
      by : (b : Bool) → nat_eq e.id id ≡ b → less (map (renumbered_entry n) tables) ≡ map (renumbered_entry m) (less tables) →
          cond (not b) (renumbered_entry n e ∷ less (map (renumbered_entry n) tables)) (less (map (renumbered_entry n) tables)) ≡ map (renumbered_entry m) (cond (not b) (e ∷ less tables) (less tables))
      by true p rest = rest
      by false p rest = λ i. record { id = e.id; name = e.name; table = renumbered_table (λ k. cond (sym p i) k (n e.id k)) e.table } ∷ rest i

  steady-without : (e : Entry) → IsSteady n e → IsSteady m e
  steady-without e s k = by (nat_eq e.id id)
    where
      by : (b : Bool) → cond b (e.table.next + k) (n e.id (e.table.next + k)) ≡ cond b e.table.next (n e.id e.table.next) + k
      by true = refl
      by false = s k

  has-less : (t : ℕ) → nat_eq t id ≡ false → (tables : List Entry) → has_table (less tables) t ≡ has_table tables t
  has-less t other [] = refl
  has-less t other (e ∷ tables) = by (nat_eq e.id id) refl (has-less t other tables)
    where
      by : (b : Bool) → nat_eq e.id id ≡ b → has_table (less tables) t ≡ has_table tables t → has_table (cond (not b) (e ∷ less tables) (less tables)) t ≡ (nat_eq e.id t || has_table tables t)
      by true p rest = rest ∙ (λ i. sym (ap (λ k. nat_eq k t) (eqb-true e.id id p) ∙ eq-swap id t ∙ other) i || has_table tables t)
      by false p rest = λ i. nat_eq e.id t || rest i

  pub dropped-numbered : (tables : List Entry) → IsNumbering n tables → IsNumbering m (less tables)
  dropped-numbered tables h = record {
    rising = λ t a b l. rises t a b l (nat_eq t id);
    steady = All-filter (λ e. not (nat_eq e.id id)) (IsSteady m) tables (All-weaker (IsSteady n) (IsSteady m) steady-without tables h.steady);
    elsewhere = λ t k. by t k (nat_eq t id) refl;
  }
    where
      rises : (t a b : ℕ) → a < b → (c : Bool) → cond c a (n t a) < cond c b (n t b)
      rises t a b l true = l
      rises t a b l false = h.rising t a b l

      by : (t k : ℕ) (b : Bool) → nat_eq t id ≡ b → has_table (less tables) t ≡ false → cond b k (n t k) ≡ k
      by t k true p none = refl
      by t k false p none = h.elsewhere t k (sym (has-less t p tables) ∙ none)
