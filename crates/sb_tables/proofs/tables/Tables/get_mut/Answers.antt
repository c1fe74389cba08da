use Rattle.std.proofs.Common.{◌≡◌, ◌∙◌, true, ap, sym, refl, is_some}
use Rattle.sb_tables.specs.Held.{has_number, stored_at, with_stored}
use Rattle.sb_tables.specs.Filled.{slot_at}
use Rattle.sb_tables.proofs.TablesHeld.{there, found_stored, stays, written, kept, filled_at}
use Rattle.sb_tables.proofs.tables.Tables.get_mut.Goals as goal

-- the number has a table, so its slot holds one
pub get_mut-requires : goal.get_mut-requires
get_mut-requires c =
    there c.self.inside.slots c.self.inside.numbers.entries c.args.id c.self.invariant ∙ ap (λ ts. has_number ts c.args.id) c.self.view_is ∙ c.requires

pub invariant_of-self-lent : goal.invariant_of-self-lent
invariant_of-self-lent c = λ w.
    let slots = c.self.inside.slots in
    let some : is_some (slot_at slots c.args.id) ≡ true = ap is_some c.get_mut.ensures.value in
    kept slots _ c.self.inside.numbers.entries c.args.id w some (filled_at slots c.args.id _ some) c.self.invariant

pub returns : goal.returns
returns c =
    let slots = c.self.inside.slots in let es = c.self.inside.numbers.entries in
    let some : is_some (slot_at slots c.args.id) ≡ true = ap is_some c.get_mut.ensures.value in
    let is : c.get_mut.result.now ≡ stored_at c.args.self.now c.args.id =
    sym (found_stored slots es c.args.id c.get_mut.result.now c.self.invariant c.get_mut.ensures.value) ∙ ap (λ ts. stored_at ts c.args.id) c.self.view_is in (
      (refl, λ w. written slots _ es c.args.id w (filled_at slots c.args.id _ some) ∙ ap (with_stored c.args.id w) c.self.view_is),
      record {
        lends = tt;
        value = is;
        same = sym c.self.view_is ∙ stays slots es c.args.id c.get_mut.result.now c.get_mut.ensures.value ∙ ap (with_stored c.args.id c.get_mut.result.now) c.self.view_is
            ∙ ap (λ s. with_stored c.args.id s c.args.self.now) is;
      },
    )
