use Rattle.std.proofs.Common.{◌∙◌, ap, sym, option_map}
use Rattle.std.specs.Option.{option_copied}
use Rattle.sb_tables.specs.Held.{Held, named}
use Rattle.sb_tables.proofs.TablesHeld.{slot_named, none_named}
use Rattle.sb_tables.proofs.tables.Tables.by_name.Goals as goal

pub returns-in-Some : goal.returns-in-Some
returns-in-Some c =
    c.get-in-Some.ensures
    ∙ slot_named c.self.inside.slots c.self.inside.numbers.entries c.args.name.now c.in-Some.id.now c.self.invariant (sym c.get.ensures.value ∙ ap option_copied c.in-Some.is)
    ∙ ap (λ ts. option_map (λ (h : Held). h.stored) (named ts c.args.name.now)) c.self.view_is

pub returns-in-None : goal.returns-in-None
returns-in-None c =
    none_named c.self.inside.slots c.self.inside.numbers.entries c.args.name.now (sym c.get.ensures.value ∙ ap option_copied c.in-None.is)
    ∙ ap (λ ts. option_map (λ (h : Held). h.stored) (named ts c.args.name.now)) c.self.view_is
