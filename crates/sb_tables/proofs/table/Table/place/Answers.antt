use Rattle.std.proofs.Common.{IsSome, sym, ap, ◌∙◌, subst}
use Rattle.sb_value.specs.Table.{row_at}
use Rattle.sb_tables.specs.Rising.{IsPlace}
use Rattle.sb_tables.specs.Slots.{numbers}
use Rattle.sb_tables.proofs.SlotLaws.{has_slot, Has}
use Rattle.sb_tables.proofs.table.Table.place.Goals as goal

pub place_of-requires-clause-there : goal.place_of-requires-clause-there
place_of-requires-clause-there c =
    subst (λ ss. Has (numbers ss) c.args.tuple) (sym c.as_slice.ensures.value)
    (has_slot c.self.inside.slots.items c.args.tuple (subst (λ s. IsSome (row_at s.table c.args.tuple)) (sym c.self.view_is) c.requires))

pub returns : goal.returns
returns c = subst (λ l. IsPlace c.args.tuple l c.place_of.result) (ap numbers c.as_slice.ensures.value ∙ ap (λ s. s.places) c.self.view_is) c.place_of.ensures
