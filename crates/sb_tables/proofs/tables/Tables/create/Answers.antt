use Rattle.std.proofs.Common.{◌≡◌, ◌∙◌, ◌<◌, ◌≤◌, ap, subst, sym, [], ◌∷◌, ◌++◌, map, length, Some, None, arith}
use Rattle.std.proofs.lemmas.List.{length-map}
use Rattle.indexmap.proofs.CallerLemmas.{insert_entry-new}
use Rattle.sb_value.specs.Name.{same_name}
use Rattle.sb_tables.specs.Held.{no_rows, has_name, has_number, with_table}
use Rattle.sb_tables.specs.Filled.{slot_at, held_in, AreFilled}
use Rattle.sb_tables.proofs.TablesHeld.{IsFilledAt, any_held, there, not_named, kept_with, view_with, has_none}
use Rattle.sb_tables.proofs.Pigeons.{as_many}
use Rattle.sb_tables.proofs.tables.Tables.create.Goals as goal

-- the least number without a table is below 16
few : (c : goal.After-least_free) → c.least_free.result < 16
few c =
    let es = c.self.inside.numbers.entries in
    let many : c.least_free.result ≤ length es = as_many c.least_free.result es (λ k below. sym (c.self.invariant k) ∙ c.least_free.ensures.least k below) in
    let count : length c.args.self.now ≡ length es = ap length (sym c.self.view_is) ∙ length-map es (held_in c.self.inside.slots) in
    omega (arith, c.requires.room)

pub overflow_cast-least_free : goal.overflow_cast-least_free
overflow_cast-least_free c = omega (arith, few c)

pub new-id-requires : goal.new-id-requires
new-id-requires c = few c

none_at : (c : goal.In-Ok) → slot_at c.self.inside.slots c.new-id.result ≡ None
none_at c = ap (slot_at c.self.inside.slots) c.new-id.ensures ∙ c.least_free.ensures.none

-- the table is the last
last : (c : goal.In-Ok) → c.insert.new.self.entries ≡ c.self.inside.numbers.entries ++ (c.args.name, c.new-id.result) ∷ []
last c =
    c.in-Ok.ensures.entries
    ∙ insert_entry-new same_name c.self.inside.numbers c.args.name c.new-id.result
    (not_named c.self.inside.slots c.self.inside.numbers.entries c.args.name (ap (λ ts. has_name ts c.args.name) c.self.view_is ∙ c.requires.new_name))

-- its slot holds it, and the others what they held
filled : (c : goal.In-Ok) → IsFilledAt c.new-id.result (Some (no_rows c.args.columns.items)) c.self.inside.slots c.fill.new.self
filled c = subst (λ t. IsFilledAt c.new-id.result (Some t) c.self.inside.slots c.fill.new.self) c.new.ensures c.in_ok-fill.ensures.filled

pub invariant_of-self-in-Ok : goal.invariant_of-self-in-Ok
invariant_of-self-in-Ok c =
    subst (λ es. AreFilled es c.fill.new.self) (sym (last c))
    (kept_with c.self.inside.slots c.fill.new.self c.self.inside.numbers.entries c.args.name c.new-id.result (no_rows c.args.columns.items) (filled c) c.self.invariant)

pub returns-in-Ok-clause-added : goal.returns-in-Ok-clause-added
returns-in-Ok-clause-added c =
    ap (map (held_in c.fill.new.self)) (last c)
    ∙ view_with c.self.inside.slots c.fill.new.self c.self.inside.numbers.entries c.args.name c.new-id.result c.args.columns.items (filled c) c.self.invariant (none_at c)
    ∙ ap (λ ts. with_table ts c.new-id.result c.args.name c.args.columns.items) c.self.view_is

pub returns-in-Ok-clause-free : goal.returns-in-Ok-clause-free
returns-in-Ok-clause-free c =
    ap (λ ts. has_number ts c.new-id.result) (sym c.self.view_is) ∙ any_held c.self.inside.slots c.self.inside.numbers.entries c.new-id.result
    ∙ has_none c.self.inside.slots c.self.inside.numbers.entries c.new-id.result c.self.invariant (none_at c)

pub returns-in-Ok-clause-least : goal.returns-in-Ok-clause-least
returns-in-Ok-clause-least c = λ k below.
    ap (λ ts. has_number ts k) (sym c.self.view_is) ∙ sym (there c.self.inside.slots c.self.inside.numbers.entries k c.self.invariant)
    ∙ c.least_free.ensures.least k (subst (λ n. k < n) c.new-id.ensures below)
