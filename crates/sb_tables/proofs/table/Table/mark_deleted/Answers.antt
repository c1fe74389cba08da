use Rattle.std.proofs.Common.{IsSome, false, refl, sym, subst}
use Rattle.sb_value.specs.Table.{row_at}
use Rattle.sb_tables.specs.declared.slot.Slot.{Slot}
use Rattle.sb_tables.specs.Rising.{IsPlace}
use Rattle.sb_tables.specs.Slots.{numbers}
use Rattle.sb_tables.proofs.TableLaws.{same_stored, numbered, rows-mark, sound-mark, numbers-write}
use Rattle.sb_tables.proofs.table.Table.mark_deleted.Goals as goal

pub invariant_of-self : goal.invariant_of-self
invariant_of-self c =
    let ss = c.self.inside.slots.items in
    let at : IsPlace c.args.tuple (numbers ss) c.place-place.result = subst (λ s. IsPlace c.args.tuple s.places c.place-place.result) (sym c.self.view_is) c.place-place.ensures in
    sound-mark ss c.self.inside.deleted c.self.inside.next c.self.inside.room _ c.args.tuple c.place-place.result c.self.invariant at _
    (numbered ss c.place-place.result c.index_mut.result.now at.within c.index_mut.ensures.value) refl
    (subst (λ s. IsSome (row_at s.table c.args.tuple)) (sym c.self.view_is) c.requires)

pub returns : goal.returns
returns c =
    let ss = c.self.inside.slots.items in
    let at : IsPlace c.args.tuple (numbers ss) c.place-place.result = subst (λ s. IsPlace c.args.tuple s.places c.place-place.result) (sym c.self.view_is) c.place-place.ensures in
    let slot : Slot = record { number = c.index_mut.result.now.number; row = c.index_mut.result.now.row; live = false } in
    rw (← c.self.view_is) (same_stored _ _ _ _ _ _ _
    (rows-mark ss c.self.inside.deleted c.self.inside.next c.self.inside.room _ c.args.tuple c.place-place.result c.self.invariant at slot refl)
    (numbers-write ss c.self.inside.deleted c.self.inside.next c.self.inside.room _ c.args.tuple c.place-place.result c.self.invariant at slot
    (numbered ss c.place-place.result c.index_mut.result.now at.within c.index_mut.ensures.value)))
