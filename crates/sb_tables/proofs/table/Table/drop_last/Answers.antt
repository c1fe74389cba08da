use Rattle.std.proofs.Common.{List, ◌≡◌, ◌+◌, ◌-◌, ◌<◌, [], ◌∷◌, ◌++◌, length, sym, ap, ◌∙◌, subst, arith}
use Rattle.std.specs.Prelude.{vec_capacity}
use Rattle.std.proofs.lemmas.List.{length_push}
use Rattle.sb_value.specs.Table.{Table as Definition}
use Rattle.sb_value.specs.declared.value.Value.{Value}
use Rattle.sb_tables.specs.Stored.{with_row}
use Rattle.sb_tables.specs.declared.slot.Slot.{Slot}
use Rattle.sb_tables.specs.Slots.{live_rows, numbers, AreSound}
use Rattle.sb_tables.proofs.SlotLaws.{live_at_most}
use Rattle.sb_tables.proofs.TableLaws.{popped, rows-pop, numbers-pop, sound-pop}
use Rattle.sb_tables.proofs.table.Table.drop_last.Goals as goal

module _ (c : goal.After-self-2-1) (before : Definition) (row : List Value) (e : with_row row before ≡ c.args.self.now.table) where
  abbrev ss : List Slot
  ss = c.self.inside.slots.items

  rows : live_rows ss ≡ before.rows ++ (before.next, row) ∷ []
  rows = ap (λ s. s.table.rows) c.self.view_is ∙ sym (ap (λ t. t.rows) e)

  next : c.self.inside.next ≡ before.next + 1
  next = ap (λ s. s.table.next) c.self.view_is ∙ sym (ap (λ t. t.next) e)

  last : (s : Slot) × (ss ≡ c.pop.new.self.items ++ s ∷ [])
  last =
      let some : 0 < length ss = omega (arith, live_at_most ss, ap length rows ∙ length_push before.rows (before.next, row)) in
      popped ss c.pop.new.self.items c.pop.result c.pop.ensures.items (λ lt. c.pop.ensures.variant.1 (omega arith)) some

  sound : AreSound ss c.self.inside.deleted (before.next + 1) c.self.inside.room (vec_capacity c.self.inside.slots)
  sound = subst (λ n. AreSound ss c.self.inside.deleted n c.self.inside.room (vec_capacity c.self.inside.slots)) next c.self.invariant

  less : before.next ≡ c.self.inside.next - 1
  less = omega (arith, next)

  still_sound : AreSound c.pop.new.self.items c.self.inside.deleted (c.self.inside.next - 1) (c.self.inside.room + 1) (vec_capacity c.pop.new.self)
  still_sound =
      subst (λ n. AreSound c.pop.new.self.items c.self.inside.deleted n (c.self.inside.room + 1) (vec_capacity c.pop.new.self)) less
      (sound-pop ss c.pop.new.self.items last.0 last.1 before.rows before.next row c.self.inside.deleted c.self.inside.room _ _ sound rows c.pop.ensures.capacity)

  kept : live_rows c.pop.new.self.items ≡ before.rows
  kept = (rows-pop ss c.pop.new.self.items last.0 last.1 before.rows before.next row c.self.inside.deleted c.self.inside.room _ 0 sound rows).0

  places : numbers ss ≡ numbers c.pop.new.self.items ++ (c.self.inside.next - 1) ∷ []
  places =
      numbers-pop ss c.pop.new.self.items last.0 last.1 before.rows before.next row c.self.inside.deleted c.self.inside.room _ 0 sound rows
      ∙ ap (λ n. numbers c.pop.new.self.items ++ n ∷ []) less

pub invariant_of-self : goal.invariant_of-self
invariant_of-self c = let r = c.requires in still_sound c r.0 r.1 r.2

pub returns-clause-table : goal.returns-clause-table
returns-clause-table c = λ before row e.
    let columns : c.self.inside.columns.items ≡ before.columns = ap (λ s. s.table.columns) c.self.view_is ∙ sym (ap (λ t. t.columns) e) in
    λ i. record { columns = columns i; rows = kept c before row e i; next = sym (less c before row e) i }

pub returns-clause-places : goal.returns-clause-places
returns-clause-places c = let r = c.requires in sym (ap (λ s. s.places) c.self.view_is) ∙ places c r.0 r.1 r.2
