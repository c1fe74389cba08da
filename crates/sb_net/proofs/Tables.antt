-- Transition tables grow net effect by net effect.
use Rattle.std.proofs.Common.{◌≡◌, ℕ, ◌+◌, ◌<◌, List, [], ◌∷◌, ◌++◌, map, take, length, get_or, append-nil, Option, Some, None, refl, sym, ap, ◌∙◌}
use Rattle.std.specs.Prelude.{filter_map, option_to_list}
use Rattle.std.specs.List.{cons_option}
use Rattle.std.proofs.lemmas.List.{map_more}
use Rattle.std.proofs.lemmas.List.Elements.{filter_map-append}
use Rattle.sb_value.specs.NetEffect.{inserted_row, deleted_row, old_updated_row, new_updated_row}
use Rattle.sb_value.specs.declared.net.Net.{Net}
use Rattle.sb_value.specs.declared.net.Transition.{Transition}
use Rattle.sb_value.specs.declared.net.Triggers.{Triggers}
use Rattle.sb_net.specs.Tables.{tables_of, with_net}

filter_map_one : {X Y : Type 0} (h : X → Option Y) (x : X) → filter_map h (x ∷ []) ≡ option_to_list (h x)
filter_map_one h x = elim (h x) as (λ o. cons_option o [] ≡ option_to_list o) [ None ↦ refl | Some y ↦ refl ]

filter_map_push : {X Y : Type 0} (h : X → Option Y) (xs : List X) (x : X) → filter_map h (xs ++ x ∷ []) ≡ filter_map h xs ++ option_to_list (h x)
filter_map_push h xs x = filter_map-append h xs (x ∷ []) ∙ ap (λ l. filter_map h xs ++ l) (filter_map_one h x)

tables-push : (triggers : Triggers) (nets : List (Option Net)) (n : Option Net) → tables_of triggers (nets ++ n ∷ []) ≡ with_net triggers (tables_of triggers nets) n
tables-push triggers nets n = λ i. record {
  inserted = filter_map_push inserted_row nets n i;
  deleted = filter_map_push deleted_row nets n i;
  old_updated = filter_map_push (old_updated_row triggers) nets n i;
  new_updated = filter_map_push (new_updated_row triggers) nets n i;
}

-- a tuple without a net effect adds nothing
pub with_none : (triggers : Triggers) (tables : Transition) → with_net triggers tables None ≡ tables
with_none triggers tables = λ i. record {
  inserted = append-nil tables.inserted i;
  deleted = append-nil tables.deleted i;
  old_updated = append-nil tables.old_updated i;
  new_updated = append-nil tables.new_updated i;
}

-- the tables of one tuple more
pub tables_more : (triggers : Triggers) (nets : ℕ → Option Net) (tuples : List ℕ) (i : ℕ) (tables more : Transition) → i < length tuples
    → tables ≡ tables_of triggers (map nets (take i tuples)) → more ≡ with_net triggers tables (nets (get_or tuples i 0)) → more ≡ tables_of triggers (map nets (take (i + 1) tuples))
tables_more triggers nets tuples i tables more lt so is =
    is ∙ ap (λ t. with_net triggers t (nets (get_or tuples i 0))) so ∙ sym (tables-push triggers (map nets (take i tuples)) (nets (get_or tuples i 0)))
    ∙ ap (tables_of triggers) (sym (map_more nets tuples i 0 lt))
