use Rattle.std.proofs.Common.{◌∙◌, ap, option_map}
use Rattle.sb_tables.specs.Held.{Held, named}
use Rattle.sb_tables.proofs.TablesHeld.{lookup_named}
use Rattle.sb_tables.proofs.tables.Tables.find.Goals as goal

pub returns : goal.returns
returns c =
    c.copied.ensures ∙ c.get.ensures.value ∙ lookup_named c.self.inside.slots c.self.inside.numbers.entries c.args.name.now
    ∙ ap (λ ts. option_map (λ (h : Held). h.id) (named ts c.args.name.now)) c.self.view_is
