-- The triggers taken one at a time are those of the walk.
use Rattle.std.proofs.Math.Bool.{or-false, or-true}
use Rattle.std.proofs.Common.{ℕ, ◌≡◌, refl, sym, ap, ◌∙◌, Bool, true, false, List, [], ◌∷◌, ◌++◌, append_assoc, append-nil}
use Rattle.std.specs.Prelude.{◌||◌, Result, Ok, Err}
use Rattle.std.specs.List.{list_any}
use Rattle.sb_value.specs.declared.value.ColumnDefinition.{ColumnDefinition}
use Rattle.sb_value.specs.declared.refusal.Refusal.{Refusal}
use Rattle.sb_value.specs.declared.net.Triggers.{Triggers}
use Rattle.sb_value.specs.Columns.{set_of, with_place}
use Rattle.sb_value.specs.Laws.{SetsTakePlaces}
use Rattle.sb_syntax.specs.Tree.{Name, Trigger, on_insert, on_delete, on_update, on_update_of}
use Rattle.sb_check.specs.Names.{and_then, in_order}
use Rattle.sb_check.specs.Triggers.{place_named, trigger_places, is_insert, is_delete, is_update, joined, walk_triggers}
use Rattle.sb_check.specs.TriggerSteps.{with_names, with_triggers, no_trigger}

-- ---- the columns of one trigger

names_step : SetsTakePlaces → (columns : List ColumnDefinition) (ps : List ℕ) (ns : List Name) (one : Result ℕ Refusal) (rest : Result (List ℕ) Refusal)
    → ((qs : List ℕ) → with_names columns (set_of qs) ns ≡ and_then rest (λ more. Ok (set_of (qs ++ more))))
    → and_then one (λ p. with_names columns (with_place (set_of ps) p) ns) ≡ and_then {B = List Bool} (and_then one (λ p. and_then rest (λ more. Ok (p ∷ more)))) (λ qs. Ok (set_of (ps ++ qs)))
names_step law columns ps ns (Err e) rest ih = refl
names_step law columns ps ns (Ok p) (Err e) ih = ap (λ s. with_names columns s ns) (law ps p) ∙ ih (ps ++ p ∷ [])
names_step law columns ps ns (Ok p) (Ok more) ih = ap (λ s. with_names columns s ns) (law ps p) ∙ ih (ps ++ p ∷ []) ∙ ap (λ l. Ok (set_of l)) (append_assoc ps (p ∷ []) more)

names_walk : SetsTakePlaces → (columns : List ColumnDefinition) (ps : List ℕ) (names : List Name) → with_names columns (set_of ps) names ≡ and_then (in_order (place_named columns) names) (λ qs. Ok (set_of (ps ++ qs)))
names_walk law columns ps [] = ap (λ l. Ok (set_of l)) (sym (append-nil ps))
names_walk law columns ps (n ∷ ns) = names_step law columns ps ns (place_named columns n) (in_order (place_named columns) ns) (λ qs. names_walk law columns qs ns)

-- ---- all triggers

-- triggers of these operations and columns
abbrev With : Bool → Bool → Bool → List ℕ → Triggers
With a b c ps = record { inserted = a; deleted = b; updated = c; columns = set_of ps }

abbrev all_of : Bool → Bool → Bool → List ℕ → List Trigger → Result (List (List ℕ)) Refusal → Result Triggers Refusal
all_of a b c ps ts places = and_then places (λ pl. Ok (With (a || list_any is_insert ts) (b || list_any is_delete ts) (c || list_any is_update ts) (ps ++ joined pl)))

abbrev Rest : List ColumnDefinition → List Trigger → Result (List (List ℕ)) Refusal → Type 0
Rest columns ts places = (a b c : Bool) (ps : List ℕ) → with_triggers columns (With a b c ps) ts ≡ all_of a b c ps ts places

after_insert : (a b c : Bool) (ps : List ℕ) (ts : List Trigger) (places : Result (List (List ℕ)) Refusal) → all_of true b c ps ts places ≡ all_of a b c ps (on_insert ∷ ts) (and_then places (λ ys. Ok ([] ∷ ys)))
after_insert a b c ps ts (Ok pl) = ap (λ x. Ok (With x (b || list_any is_delete ts) (c || list_any is_update ts) (ps ++ joined pl))) (sym (or-true a))
after_insert a b c ps ts (Err e) = refl

after_delete : (a b c : Bool) (ps : List ℕ) (ts : List Trigger) (places : Result (List (List ℕ)) Refusal) → all_of a true c ps ts places ≡ all_of a b c ps (on_delete ∷ ts) (and_then places (λ ys. Ok ([] ∷ ys)))
after_delete a b c ps ts (Ok pl) = ap (λ x. Ok (With (a || list_any is_insert ts) x (c || list_any is_update ts) (ps ++ joined pl))) (sym (or-true b))
after_delete a b c ps ts (Err e) = refl

after_update : (a b c : Bool) (ps : List ℕ) (ts : List Trigger) (places : Result (List (List ℕ)) Refusal) → all_of a b true ps ts places ≡ all_of a b c ps (on_update ∷ ts) (and_then places (λ ys. Ok ([] ∷ ys)))
after_update a b c ps ts (Ok pl) = ap (λ x. Ok (With (a || list_any is_insert ts) (b || list_any is_delete ts) x (ps ++ joined pl))) (sym (or-true c))
after_update a b c ps ts (Err e) = refl

after_columns : (columns : List ColumnDefinition) (a b c : Bool) (ps : List ℕ) (names : List Name) (ts : List Trigger) (one : Result (List ℕ) Refusal) (places : Result (List (List ℕ)) Refusal) → Rest columns ts places
    → and_then {B = Triggers} (and_then {B = Triggers} (and_then {B = List Bool} one (λ qs. Ok (set_of (ps ++ qs)))) (λ set. Ok (record { inserted = a; deleted = b; updated = c; columns = set }))) (λ more. with_triggers columns more ts)
    ≡ all_of a b c ps (on_update_of names ∷ ts) (and_then one (λ y. and_then places (λ ys. Ok (y ∷ ys))))
after_columns columns a b c ps names ts (Err e) places ih = refl
after_columns columns a b c ps names ts (Ok qs) (Err e) ih = ih a b c (ps ++ qs)
after_columns columns a b c ps names ts (Ok qs) (Ok pl) ih =
    ih a b c (ps ++ qs) ∙ ap (λ l. Ok (With (a || list_any is_insert ts) (b || list_any is_delete ts) (c || list_any is_update ts) l)) (append_assoc ps qs (joined pl))

walk_rest : SetsTakePlaces → (columns : List ColumnDefinition) (ts : List Trigger) → Rest columns ts (in_order (trigger_places columns) ts)
walk_rest law columns [] a b c ps = λ i. Ok (With (sym (or-false a) i) (sym (or-false b) i) (sym (or-false c) i) (sym (append-nil ps) i))
walk_rest law columns (on_insert ∷ ts) a b c ps = walk_rest law columns ts true b c ps ∙ after_insert a b c ps ts (in_order (trigger_places columns) ts)
walk_rest law columns (on_delete ∷ ts) a b c ps = walk_rest law columns ts a true c ps ∙ after_delete a b c ps ts (in_order (trigger_places columns) ts)
walk_rest law columns (on_update ∷ ts) a b c ps = walk_rest law columns ts a b true ps ∙ after_update a b c ps ts (in_order (trigger_places columns) ts)
walk_rest law columns (on_update_of names ∷ ts) a b c ps =
    ap (λ r. and_then {B = Triggers} (and_then {A = List Bool} {B = Triggers} r (λ set. Ok (record { inserted = a; deleted = b; updated = c; columns = set }))) (λ more. with_triggers columns more ts)) (names_walk law columns ps names)
    ∙ after_columns columns a b c ps names ts (in_order (place_named columns) names) (in_order (trigger_places columns) ts) (walk_rest law columns ts)

pub triggers_walk : SetsTakePlaces → (columns : List ColumnDefinition) (ts : List Trigger) → with_triggers columns no_trigger ts ≡ walk_triggers columns ts
triggers_walk law columns ts = walk_rest law columns ts false false false []
