use Rattle.std.proofs.Common.{◌≡◌, true, List, get_or, IsSome, Some, refl, sym, ◌∙◌, ap, subst}
use Rattle.sb_value.specs.Table.{row_at}
use Rattle.sb_tables.specs.declared.slot.Slot.{Slot}
use Rattle.sb_tables.specs.Rising.{IsPlace}
use Rattle.sb_tables.specs.Slots.{live_rows, numbers}
use Rattle.sb_tables.proofs.RowLaws.{row_of}
use Rattle.sb_tables.proofs.TableLaws.{same_stored, numbered, live_here, rows-replace, sound-replace, numbers-write}
use Rattle.sb_tables.proofs.table.Table.replace.Goals as goal

module _ (c : goal.After-self-1) where
  abbrev ss : List Slot
  ss = c.self.inside.slots.items

  some : IsSome (row_of c.args.tuple (live_rows ss))
  some = subst (λ s. IsSome (row_at s.table c.args.tuple)) (sym c.self.view_is) c.requires

  at : IsPlace c.args.tuple (numbers ss) c.place-place.result
  at = subst (λ s. IsPlace c.args.tuple s.places c.place-place.result) (sym c.self.view_is) c.place-place.ensures

  live : (c.index_mut.result.now.live ≡ true) × (row_of c.args.tuple (live_rows ss) ≡ Some c.index_mut.result.now.row)
  live = live_here ss c.self.inside.next c.args.tuple c.place-place.result c.index_mut.result.now c.self.invariant.rises at.within at.is c.index_mut.ensures.value some

  named : c.index_mut.result.now.number ≡ get_or (numbers ss) c.place-place.result 0
  named = numbered ss c.place-place.result c.index_mut.result.now at.within c.index_mut.ensures.value

pub invariant_of-self : goal.invariant_of-self
invariant_of-self c =
    sound-replace (ss c) c.self.inside.deleted c.self.inside.next c.self.inside.room _ c.args.tuple c.place-place.result c.self.invariant (at c) _ c.replace.new.dest (live c).0 (named c ∙ (at c).is) refl (some c)

pub returns-clause-old : goal.returns-clause-old
returns-clause-old c = ap (λ s. row_at s.table c.args.tuple) (sym c.self.view_is) ∙ (live c).1 ∙ ap (λ r. Some r) (sym c.replace.ensures.value)

pub returns-clause-new : goal.returns-clause-new
returns-clause-new c =
    let slot : Slot = record { number = c.index_mut.result.now.number; row = c.replace.new.dest; live = c.index_mut.result.now.live } in
    rw (← c.self.view_is) (same_stored _ _ _ _ _ _ _
    (rows-replace (ss c) c.self.inside.deleted c.self.inside.next c.self.inside.room _ c.args.tuple c.place-place.result c.self.invariant (at c) slot c.args.row (live c).0 (named c ∙ (at c).is) c.replace.ensures.after (some c))
    (numbers-write (ss c) c.self.inside.deleted c.self.inside.next c.self.inside.room _ c.args.tuple c.place-place.result c.self.invariant (at c) slot (named c)))
