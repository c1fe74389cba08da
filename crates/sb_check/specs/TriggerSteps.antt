-- Machine: the walk of a rule's triggers, one at a time.
use Rattle.std.specs.Prelude.{Bool, true, false, List, [], ◌∷◌, Result, Ok}
use Rattle.sb_value.specs.declared.value.ColumnDefinition.{ColumnDefinition}
use Rattle.sb_value.specs.declared.refusal.Refusal.{Refusal}
use Rattle.sb_value.specs.declared.net.Triggers.{Triggers}
use Rattle.sb_value.specs.Columns.{with_place}
use Rattle.sb_value.specs.Flags.{no_flags}
use Rattle.sb_syntax.specs.Tree.{Name, Trigger, on_insert, on_delete, on_update, on_update_of}
use Rattle.sb_check.specs.Names.{and_then}
use Rattle.sb_check.specs.Triggers.{place_named}

-- the set with the places of columns
abbrev pub with_names : List ColumnDefinition → List Bool → List Name → Result (List Bool) Refusal
with_names columns set [] = Ok set
with_names columns set (n ∷ ns) =
    and_then (place_named columns n) (λ place. with_names columns (with_place set place) ns)

-- the triggers with one more
abbrev pub with_trigger : List ColumnDefinition → Triggers → Trigger → Result Triggers Refusal
with_trigger columns t on_insert = Ok (record t { inserted = true })
with_trigger columns t on_delete = Ok (record t { deleted = true })
with_trigger columns t on_update = Ok (record t { updated = true })
with_trigger columns t (on_update_of names) =
    and_then (with_names columns t.columns names) (λ set. Ok (record t { columns = set }))

-- the triggers with others in order
abbrev pub with_triggers : List ColumnDefinition → Triggers → List Trigger → Result Triggers Refusal
with_triggers columns t [] = Ok t
with_triggers columns t (x ∷ xs) = and_then (with_trigger columns t x) (λ more. with_triggers columns more xs)

-- no trigger
abbrev pub no_trigger : Triggers
no_trigger = record { inserted = false; deleted = false; updated = false; columns = no_flags 8 }
