use Rattle.std.proofs.Common.{◌≡◌, ◌+◌, ◌-◌, true, cond, List, [], ◌∷◌, ◌++◌, is_ok, refl, sym, ◌∙◌, ap, subst, arith}
use Rattle.std.specs.Prelude.{vec_capacity}
use Rattle.sb_tables.specs.declared.slot.Slot.{Slot}
use Rattle.sb_tables.specs.Slots.{live_rows, numbers, AreSound}
use Rattle.sb_tables.proofs.TableLaws.{same_stored, sound-push, rows-push, numbers-push}
use Rattle.sb_tables.proofs.table.Table.insert.Goals as goal

pub invariant_of-self : goal.invariant_of-self
invariant_of-self c =
    let ss = c.self.inside.slots.items in
    let slot : Slot = record { number = c.self.inside.next; row = c.args.row; live = true } in
    let good : is_ok c.push.result ≡ true = c.push.ensures.succeeds (omega (arith, c.self.invariant.reserved, c.requires.room, ap (λ s. s.room) c.self.view_is)) in
    let pushed : c.push.new.self.items ≡ ss ++ slot ∷ [] = c.push.ensures.items ∙ ap (λ b. cond b (ss ++ slot ∷ []) ss) good in
    subst (λ (l : List Slot). AreSound l c.self.inside.deleted (c.self.inside.next + 1) (c.self.inside.room - 1) (vec_capacity c.push.new.self)) (sym pushed)
    (sound-push ss c.self.inside.deleted c.self.inside.next c.self.inside.room _ _ slot c.self.invariant c.push.ensures.capacity (omega (arith, c.requires.room, ap (λ s. s.room) c.self.view_is)) refl refl)

pub returns-clause-ok : goal.returns-clause-ok
returns-clause-ok c =
    let ss = c.self.inside.slots.items in
    let slot : Slot = record { number = c.self.inside.next; row = c.args.row; live = true } in
    let good : is_ok c.push.result ≡ true = c.push.ensures.succeeds (omega (arith, c.self.invariant.reserved, c.requires.room, ap (λ s. s.room) c.self.view_is)) in
    let pushed : c.push.new.self.items ≡ ss ++ slot ∷ [] = c.push.ensures.items ∙ ap (λ b. cond b (ss ++ slot ∷ []) ss) good in (
      ap (λ s. s.table.next) c.self.view_is,
      rw (← c.self.view_is) (same_stored _ _ _ _ _ _ _ (ap live_rows pushed ∙ rows-push ss slot refl) (ap numbers pushed ∙ numbers-push ss slot)),
    )
