-- A change of a table, undone.
use Rattle.std.proofs.Common.{◌≡◌, List, Some, sym, ◌∙◌, ap, subst}
use Rattle.sb_value.specs.declared.value.Value.{Value}
use Rattle.sb_value.specs.declared.change.Change.{Change}
use Rattle.sb_value.specs.declared.change.ChangeKind.TheVariants.{Deleted, Updated}
use Rattle.sb_value.specs.Table.{Table, new_row, after_kind, fits_kind}
use Rattle.sb_tables.specs.Stored.{with_row_put}
use Rattle.sb_tables.specs.Undo.{IsBefore}
use Rattle.sb_tables.proofs.RowLaws.{table_rises, put-others, put-replaced}

module _ (c : Change) (old : List Value) (now before : Table) (is : IsBefore c now before) (had : c.old ≡ Some old) where
  pub undo-deleted : c.kind ≡ Deleted → with_row_put c.tuple old now ≡ before
  undo-deleted kind =
      let made : after_kind Deleted c before ≡ now = subst (λ k. after_kind k c before ≡ now) kind is.made in
      let fits : fits_kind Deleted c before = subst (λ k. fits_kind k c before) kind is.fits in
      ap (with_row_put c.tuple old) (sym made)
      ∙ (λ i. record before { rows = put-others c.tuple old old 0 before.rows before.next (table_rises before is.is_table) (fits.0 ∙ had) i })

  pub undo-updated : c.kind ≡ Updated → with_row_put c.tuple old now ≡ before
  undo-updated kind =
      let made : after_kind Updated c before ≡ now = subst (λ k. after_kind k c before ≡ now) kind is.made in
      let fits : fits_kind Updated c before = subst (λ k. fits_kind k c before) kind is.fits in
      ap (with_row_put c.tuple old) (sym made)
      ∙ (λ i. record before { rows = put-replaced c.tuple old (new_row c) 0 before.rows before.next (table_rises before is.is_table) (fits.0 ∙ had) i })
