-- Machine: the sources of a query, apart from what it sees of them.
use Rattle.std.specs.Prelude.{Bool, false, List, [], ◌∷◌, ◌++◌, map, Result, Ok}
use Rattle.sb_value.specs.declared.net.Triggers.{Triggers}
use Rattle.sb_value.specs.declared.refusal.Refusal.{Refusal}
use Rattle.sb_syntax.specs.declared.tree.SourceReference.{SourceReference}
use Rattle.sb_syntax.specs.declared.tree.TableReference.{TableReference}
use Rattle.sb_check.specs.declared.tree.Source.{Source}
use Rattle.sb_check.specs.declared.tree.Source.TheVariants.{Table, Inserted, Deleted, OldUpdated, NewUpdated}
use Rattle.sb_check.specs.Names.{and_then, Visible}
use Rattle.sb_check.specs.Walk.{Schema, has_updates, walk_sources}

-- true if a rule with these triggers has that transition table
abbrev pub has_trigger : Source → Triggers → Bool
has_trigger (Table id) triggers = false
has_trigger Inserted triggers = triggers.inserted
has_trigger Deleted triggers = triggers.deleted
has_trigger OldUpdated triggers = has_updates triggers
has_trigger NewUpdated triggers = has_updates triggers

-- the resolved sources, and what the query sees of them
abbrev pub seen_sources :
    Schema → List TableReference → List SourceReference → Result (List Source × List Visible) Refusal
seen_sources schema taken sources =
    and_then (walk_sources schema taken sources) (λ ss. Ok (map (λ s. s.0) ss, map (λ s. s.1) ss))

-- one more source, and what the query sees of it
abbrev pub with_source : List Source × List Visible → Source → Visible → List Source × List Visible
with_source seen source visible = (seen.0 ++ source ∷ [], seen.1 ++ visible ∷ [])
