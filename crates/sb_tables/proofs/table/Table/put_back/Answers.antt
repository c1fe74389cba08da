use Rattle.std.proofs.Common.{◌≡◌, true, set, refl, sym, ap, ◌∙◌, subst}
use Rattle.sb_tables.specs.declared.slot.Slot.{Slot}
use Rattle.sb_tables.specs.declared.table.Table.TheInside.{Inside}
use Rattle.sb_tables.specs.Rising.{IsPlace}
use Rattle.sb_tables.specs.Slots.{live_rows, numbers, AreSound}
use Rattle.sb_tables.specs.Stored.{Stored, with_row_put}
use Rattle.sb_tables.proofs.TableLaws.{stored, same_stored, some_deleted, sound-put_live, sound-put_dead, rows-put, numbers-write}
use Rattle.sb_tables.proofs.table.Table.put_back.Goals as goal
use Rattle.sb_tables.proofs.table.Table.put_back.Goals.{then-not-index, else-not-index}

pub overflow_sub-self : goal.overflow_sub-self
overflow_sub-self c =
    let ss = c.self.inside.slots.items in let place = c.place_of-place.result in
    let at : IsPlace c.args.tuple (numbers ss) place = subst (λ l. IsPlace c.args.tuple (numbers l) place) c.as_slice.ensures.value c.place_of-place.ensures in
    let slot : Slot = record { number = c.args.tuple; row = c.args.row; live = true } in
    some_deleted ss c.self.inside.deleted c.self.inside.next c.self.inside.room _ c.args.tuple place c.self.invariant at slot c.index.result.now refl
    (ap (λ s. s.live) (sym c.index.ensures) ∙ c.if-not-index.true)

pub invariant_of-self : goal.invariant_of-self
invariant_of-self c =
    let ss = c.self.inside.slots.items in let place = c.place_of-place.result in
    let at : IsPlace c.args.tuple (numbers ss) place = subst (λ l. IsPlace c.args.tuple (numbers l) place) c.as_slice.ensures.value c.place_of-place.ensures in
    let slot : Slot = record { number = c.args.tuple; row = c.args.row; live = true } in
    let P : Inside → Type 0 = λ s. AreSound (set s.slots.items place slot) s.deleted s.next s.room s.slots.cap in
    elim c.if-not-index.branch [
      | then-not-index w ↦ subst P (sym w.self-inside-is)
          (sound-put_dead ss c.self.inside.deleted c.self.inside.next c.self.inside.room _ c.args.tuple place c.self.invariant at slot c.index.result.now refl refl
          (ap (λ s. s.live) (sym c.index.ensures) ∙ w.if-not-index.true))
      | else-not-index w ↦ subst P (sym w.self-inside-is)
          (sound-put_live ss c.self.inside.deleted c.self.inside.next c.self.inside.room _ c.args.tuple place c.self.invariant at slot c.index.result.now refl refl
          (ap (λ s. s.live) (sym c.index.ensures) ∙ w.if-not-index.false))
    ]

pub returns : goal.returns
returns c =
    let ss = c.self.inside.slots.items in let place = c.place_of-place.result in
    let at : IsPlace c.args.tuple (numbers ss) place = subst (λ l. IsPlace c.args.tuple (numbers l) place) c.as_slice.ensures.value c.place_of-place.ensures in
    let slot : Slot = record { number = c.args.tuple; row = c.args.row; live = true } in
    let P : Inside → Type 0 = λ s. stored s.columns.items (live_rows (set s.slots.items place slot)) s.next (numbers (set s.slots.items place slot)) s.room
    ≡ (let t : Stored = record { table = with_row_put c.args.tuple c.args.row c.args.self.now.table; places = c.args.self.now.places; room = c.args.self.now.room } in t) in
    let put : P c.self.inside = rw (← c.self.view_is) (same_stored _ _ _ _ _ _ _
    (rows-put ss c.self.inside.deleted c.self.inside.next c.self.inside.room _ c.args.tuple place c.self.invariant at slot c.args.row refl refl refl)
    (numbers-write ss c.self.inside.deleted c.self.inside.next c.self.inside.room _ c.args.tuple place c.self.invariant at slot (sym at.is))) in
    elim c.if-not-index.branch [
      | then-not-index w ↦ subst P (sym w.self-inside-is) put
      | else-not-index w ↦ subst P (sym w.self-inside-is) put
    ]
