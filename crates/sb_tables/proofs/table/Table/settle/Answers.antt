use Rattle.std.proofs.Common.{◌≡◌, rules, length, refl, ◌∙◌, ap, arith}
use Rattle.std.proofs.lemmas.Fn.{filter_same}
use Rattle.sb_tables.specs.declared.slot.Slot.{Slot}
use Rattle.sb_tables.specs.Slots.{live_rows, numbers}
use Rattle.sb_tables.proofs.SlotLaws.{live_slots, live-live, numbers-live, numbers-all_live}
use Rattle.sb_tables.proofs.TableLaws.{same_stored, sound-settle}
use Rattle.sb_tables.proofs.table.Table.settle.Goals as goal

pub invariant_of-self : goal.invariant_of-self
invariant_of-self c =
    sound-settle c.self.inside.slots.items c.retain.new.self.items c.self.inside.deleted c.self.inside.next c.self.inside.room _ _
    (filter_same _ (λ (s : Slot). s.live) _ (λ x b f' k. search rules) _ _ c.retain.ensures.filtered) c.retain.ensures.capacity c.self.invariant

pub returns-then-self-gt0 : goal.returns-then-self-gt0
returns-then-self-gt0 c =
    let ss = c.self.inside.slots.items in
    let kept : c.retain.new.self.items ≡ live_slots ss = filter_same _ (λ (s : Slot). s.live) _ (λ x b f' k. search rules) _ _ c.retain.ensures.filtered in
    rw (← c.self.view_is) (same_stored _ _ _ _ _ _ _ (ap live_rows kept ∙ live-live ss) (ap numbers kept ∙ numbers-live ss))

pub returns-else-self-gt0 : goal.returns-else-self-gt0
returns-else-self-gt0 c =
    let ss = c.self.inside.slots.items in
    let all : length (live_rows ss) ≡ length ss = omega (arith, c.self.invariant.counted, c.if-self-gt0.false) in
    rw (← c.self.view_is) (same_stored _ _ _ _ _ _ _ refl (numbers-all_live ss all))
