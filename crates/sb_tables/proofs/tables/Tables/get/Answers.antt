use Rattle.std.proofs.Common.{◌∙◌, ap, sym, option_map}
use Rattle.sb_tables.specs.Held.{Held, numbered}
use Rattle.sb_tables.proofs.TablesHeld.{found}
use Rattle.sb_tables.proofs.tables.Tables.get.Goals as goal

pub returns : goal.returns
returns c =
    c.get.ensures ∙ sym (found c.self.inside.slots c.self.inside.numbers.entries c.args.id (c.self.invariant c.args.id))
    ∙ ap (λ ts. option_map (λ (h : Held). h.stored) (numbered ts c.args.id)) c.self.view_is
