-- The net effects of changes are the same by whatever rising numbers of their tuples.
use Rattle.std.proofs.Common.{◌≡◌, ◌∙◌, ℕ, ◌<◌, Bool, true, false, cond, ◌&&◌, ◌||◌, nat_eq, nat_lt, List, [], ◌∷◌, map, filter_map, Option, refl, ap, eqb-true}
use Rattle.std.specs.List.{list_any}
use Rattle.sb_value.specs.NetEffect.{is_of, history, last_of, net_between, net_of, net_effect, with_number, tuples_of, is_operation, is_triggered, inserted_row, deleted_row, old_updated_row, new_updated_row, nets_of, transition_tables}
use Rattle.sb_value.specs.declared.change.Change.{Change}
use Rattle.sb_value.specs.declared.change.ChangeKind.{ChangeKind}
use Rattle.sb_value.specs.declared.change.ChangeKind.TheVariants.{Inserted, Deleted, Updated}
use Rattle.sb_value.specs.declared.net.Net.{Net}
use Rattle.sb_value.specs.declared.net.Transition.{Transition}
use Rattle.sb_value.specs.declared.net.Triggers.{Triggers}
use Rattle.sb_tenant.specs.AlikeTenants.{Numbering, renumbered_change}
use Rattle.sb_tenant.proofs.Numbered.{same_number, less_number}

-- ---- the tuples that a list changes

module _ (tenant : ℕ) (n : Numbering) (rising : (table a b : ℕ) → a < b → n table a < n table b) where
  numbers : (t k : ℕ) (ks : List ℕ) → with_number (n t k) (map (n t) ks) ≡ map (n t) (with_number k ks)
  numbers t k [] = refl
  numbers t k (m ∷ ms) = by (nat_eq k m) (nat_lt k m) (same_number n rising t k m) (less_number n rising t k m) (numbers t k ms)
    where
      by : (e l : Bool) → nat_eq (n t k) (n t m) ≡ e → nat_lt (n t k) (n t m) ≡ l → with_number (n t k) (map (n t) ms) ≡ map (n t) (with_number k ms) →
          cond (nat_eq (n t k) (n t m)) (n t m ∷ map (n t) ms) (cond (nat_lt (n t k) (n t m)) (n t k ∷ n t m ∷ map (n t) ms) (n t m ∷ with_number (n t k) (map (n t) ms)))
          ≡ map (n t) (cond e (m ∷ ms) (cond l (k ∷ m ∷ ms) (m ∷ with_number k ms)))
      by true l p q rest = λ i. cond (p i) (n t m ∷ map (n t) ms) (cond (nat_lt (n t k) (n t m)) (n t k ∷ n t m ∷ map (n t) ms) (n t m ∷ with_number (n t k) (map (n t) ms)))
      by false true p q rest = λ i. cond (p i) (n t m ∷ map (n t) ms) (cond (q i) (n t k ∷ n t m ∷ map (n t) ms) (n t m ∷ with_number (n t k) (map (n t) ms)))
      by false false p q rest = λ i. cond (p i) (n t m ∷ map (n t) ms) (cond (q i) (n t k ∷ n t m ∷ map (n t) ms) (n t m ∷ rest i))

  abbrev r : Change → Change
  r = renumbered_change tenant n

  tuples : (cs : List Change) (table : ℕ) → tuples_of (map r cs) table ≡ map (n table) (tuples_of cs table)
  tuples [] table = refl
  tuples (c ∷ cs) table = by (nat_eq c.table table) refl (tuples cs table)
    where
      by : (b : Bool) → nat_eq c.table table ≡ b → tuples_of (map r cs) table ≡ map (n table) (tuples_of cs table) →
          cond b (with_number (n c.table c.tuple) (tuples_of (map r cs) table)) (tuples_of (map r cs) table)
          ≡ map (n table) (cond b (with_number c.tuple (tuples_of cs table)) (tuples_of cs table))
      by true e rest = (λ i. with_number (n (eqb-true c.table table e i) c.tuple) (rest i)) ∙ numbers table c.tuple (tuples_of cs table)
      by false e rest = rest

  -- ---- the changes of one tuple

  of : (table tuple : ℕ) (c : Change) → is_of table (n table tuple) (r c) ≡ is_of table tuple c
  of table tuple c = by (nat_eq c.table table) refl
    where
      by : (b : Bool) → nat_eq c.table table ≡ b → (b && nat_eq (n c.table c.tuple) (n table tuple)) ≡ (b && nat_eq c.tuple tuple)
      by true e = (λ i. nat_eq (n (eqb-true c.table table e i) c.tuple) (n table tuple)) ∙ same_number n rising table c.tuple tuple
      by false e = refl

  lives : (cs : List Change) (table tuple : ℕ) → history (map r cs) table (n table tuple) ≡ map r (history cs table tuple)
  lives [] table tuple = refl
  lives (c ∷ cs) table tuple = by (is_of table tuple c) (of table tuple c) (lives cs table tuple)
    where
      by : (b : Bool) → is_of table (n table tuple) (r c) ≡ b → history (map r cs) table (n table tuple) ≡ map r (history cs table tuple) →
          cond (is_of table (n table tuple) (r c)) (r c ∷ history (map r cs) table (n table tuple)) (history (map r cs) table (n table tuple))
          ≡ map r (cond b (c ∷ history cs table tuple) (history cs table tuple))
      by true e rest = λ i. cond (e i) (r c ∷ rest i) (rest i)
      by false e rest = λ i. cond (e i) (r c ∷ rest i) (rest i)

  lasts : (c : Change) (cs : List Change) → last_of (r c) (map r cs) ≡ r (last_of c cs)
  lasts c [] = refl
  lasts c (d ∷ ds) = lasts d ds

  between : (k m : ChangeKind) (first last : Change) → net_between k m (r first) (r last) ≡ net_between k m first last
  between Inserted Inserted first last = refl
  between Inserted Updated first last = refl
  between Inserted Deleted first last = refl
  between Updated Inserted first last = refl
  between Updated Updated first last = refl
  between Updated Deleted first last = refl
  between Deleted Inserted first last = refl
  between Deleted Updated first last = refl
  between Deleted Deleted first last = refl

  net : (cs : List Change) → net_of (map r cs) ≡ net_of cs
  net [] = refl
  net (c ∷ cs) = (λ i. net_between c.kind (lasts c cs i).kind (r c) (lasts c cs i)) ∙ between c.kind (last_of c cs).kind c (last_of c cs)

  effect : (cs : List Change) (table tuple : ℕ) → net_effect (map r cs) table (n table tuple) ≡ net_effect cs table tuple
  effect cs table tuple = ap net_of (lives cs table tuple) ∙ net (history cs table tuple)

  -- ---- whether they trigger a rule, and the transition tables

  operations : (triggers : Triggers) (cs : List Change) (table : ℕ) (ts : List ℕ) →
      list_any (λ tuple. is_operation triggers (net_effect (map r cs) table tuple)) (map (n table) ts) ≡ list_any (λ tuple. is_operation triggers (net_effect cs table tuple)) ts
  operations triggers cs table [] = refl
  operations triggers cs table (t ∷ ts) = λ i. is_operation triggers (effect cs table t i) || operations triggers cs table ts i

  pub triggered : (triggers : Triggers) (table : ℕ) (cs : List Change) → is_triggered triggers table (map r cs) ≡ is_triggered triggers table cs
  triggered triggers table cs =
      (λ i. list_any (λ tuple. is_operation triggers (net_effect (map r cs) table tuple)) (tuples cs table i))
      ∙ operations triggers cs table (tuples_of cs table)

  effects : (cs : List Change) (table : ℕ) (ts : List ℕ) → map (net_effect (map r cs) table) (map (n table) ts) ≡ map (net_effect cs table) ts
  effects cs table [] = refl
  effects cs table (t ∷ ts) = λ i. effect cs table t i ∷ effects cs table ts i

  nets : (cs : List Change) (table : ℕ) → nets_of (map r cs) table ≡ nets_of cs table
  nets cs table = (λ i. map (net_effect (map r cs) table) (tuples cs table i)) ∙ effects cs table (tuples_of cs table)

  pub same-tables : (triggers : Triggers) (table : ℕ) (cs : List Change) → transition_tables triggers table (map r cs) ≡ transition_tables triggers table cs
  same-tables triggers table cs = ap (λ ns. of-nets ns) (nets cs table)
    where
      of-nets : List (Option Net) → Transition
      of-nets ns = record {
        inserted = filter_map inserted_row ns;
        deleted = filter_map deleted_row ns;
        old_updated = filter_map (old_updated_row triggers) ns;
        new_updated = filter_map (new_updated_row triggers) ns;
      }
