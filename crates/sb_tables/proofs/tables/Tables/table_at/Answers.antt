use Rattle.std.proofs.Common.{◌∙◌, ap, sym, option_map, slice_get}
use Rattle.std.specs.Map.Iter.{deref_pair}
use Rattle.sb_tables.specs.Held.{Held}
use Rattle.sb_tables.proofs.TablesHeld.{placed, none_placed}
use Rattle.sb_tables.proofs.tables.Tables.table_at.Goals as goal

pub returns-in-Some : goal.returns-in-Some
returns-in-Some c =
    c.get.ensures
    ∙ placed c.self.inside.slots c.self.inside.numbers.entries c.args.place (deref_pair (c.in-Some.field-0-0, c.in-Some.id)) c.self.invariant (sym c.get_index.ensures.entry ∙ ap (option_map deref_pair) c.in-Some.is)
    ∙ ap (λ ts. option_map (λ (h : Held). h.stored) (slice_get ts c.args.place)) c.self.view_is

pub returns-in-None : goal.returns-in-None
returns-in-None c =
    none_placed c.self.inside.slots c.self.inside.numbers.entries c.args.place (sym c.get_index.ensures.entry ∙ ap (option_map deref_pair) c.in-None.is)
    ∙ ap (λ ts. option_map (λ (h : Held). h.stored) (slice_get ts c.args.place)) c.self.view_is
