-- The types of the columns of each source, where a table's number tells its columns.
use Rattle.std.proofs.Common.{◌≡◌, Bool, List, [], refl, ap, subst}
use Rattle.std.specs.Prelude.{Option, None, Some, Ok, find}
use Rattle.sb_value.specs.Name.{same_name}
use Rattle.sb_value.specs.Table.{Entry, table_at}
use Rattle.sb_value.specs.declared.net.Triggers.{Triggers}
use Rattle.sb_value.specs.declared.refusal.Refusal.TheVariants as refusal
use Rattle.sb_value.specs.declared.value.ColumnDefinition.{ColumnDefinition}
use Rattle.sb_value.specs.declared.value.ColumnType.{ColumnType}
use Rattle.sb_syntax.specs.declared.tree.TableReference.TheVariants.{Named, Inserted, Deleted, OldUpdated, NewUpdated}
use Rattle.sb_check.specs.declared.tree.Source.{Source}
use Rattle.sb_check.specs.declared.tree.Source.TheVariants as source
use Rattle.sb_check.specs.Fits.{AreTypesOf, HasTypes}
use Rattle.sb_check.specs.Lent.{NumbersTellColumns}
use Rattle.sb_check.specs.Walk.{Schema, table_named, has_updates, transition_source}
use Rattle.sb_check.proofs.Fitting.{then_ok, required_ok, some_ok, types_in}

module _ (tables : List Entry) (tell : NumbersTellColumns tables) where
  abbrev Rule : Type 0
  Rule = Option (List ColumnDefinition × Triggers)

  -- the types of a rule's columns
  abbrev rule_types : Rule → List ColumnType
  rule_types None = []
  rule_types (Some r) = types_in r.0

  abbrev types : Rule → Source → List ColumnType
  types rule (source.Table id) = types_in (table_at tables id).columns
  types rule source.Inserted = rule_types rule
  types rule source.Deleted = rule_types rule
  types rule source.OldUpdated = rule_types rule
  types rule source.NewUpdated = rule_types rule

  abbrev schema : Rule → Schema
  schema rule = record { tables = tables; rule = rule }

  transition : (rule : Rule) (has : Triggers → Bool) (form : Source) (s : Source × List ColumnDefinition)
      → types rule form ≡ rule_types rule → transition_source (schema rule) has form ≡ Ok s → types rule s.0 ≡ types_in s.1
  transition None has form s of h = absurd (cc h)
  transition (Some r) has form s of h =
      let is : (form, r.0) ≡ s = cc (required_ok (has r.1) refusal.BadTransition (Ok (form, r.0)) s h).1 in
      subst (λ (x : Source × List ColumnDefinition). types (Some r) x.0 ≡ types_in x.1) is of

  are_types : (rule : Rule) → AreTypesOf (schema rule) (types rule)
  are_types rule (Named name) s h =
      let e = then_ok (table_named (schema rule) name) (λ e. Ok (source.Table e.id, e.table.columns)) s h in
      let is : (source.Table e.0.id, e.0.table.columns) ≡ s = cc e.2 in
      subst (λ (x : Source × List ColumnDefinition). types rule x.0 ≡ types_in x.1) is
      (ap types_in (tell name e.0 (some_ok refusal.NoTable (find (λ t. same_name t.name name) tables) e.0 e.1)))
  are_types rule Inserted s h = transition rule (λ t. t.inserted) source.Inserted s refl h
  are_types rule Deleted s h = transition rule (λ t. t.deleted) source.Deleted s refl h
  are_types rule OldUpdated s h = transition rule has_updates source.OldUpdated s refl h
  are_types rule NewUpdated s h = transition rule has_updates source.NewUpdated s refl h

  pub has_types : (rule : Rule) → HasTypes (schema rule)
  has_types rule = (types rule, are_types rule)
