use Rattle.std.proofs.Common.{sym, ◌∙◌}
use Rattle.sb_frontend.proofs.Naming.{is-full, is-stored, not-free}
use Rattle.sb_frontend.proofs.names.Names.store.Goals as goal

pub returns-then-not-is_free-clause-stored : goal.returns-then-not-is_free-clause-stored
returns-then-not-is_free-clause-stored g c = not-free c.args.name.now c.args.what c.args.exists c.args.self.now (sym c.is_free.ensures ∙ c.if-not-is_free.true)

pub returns-then-is_full-clause-stored : goal.returns-then-is_full-clause-stored
returns-then-is_full-clause-stored g c = is-full c.args.name.now c.args.what c.args.exists c.args.self.now (sym c.is_free.ensures ∙ c.if-not-is_free.false) (sym c.is_full.ensures ∙ c.if-is_full.true)

pub returns-in-Ok-clause-stored : goal.returns-in-Ok-clause-stored
returns-in-Ok-clause-stored g c =
    is-stored c.args.name.now c.args.what c.args.exists c.args.self.now c.put.new.self (sym c.is_free.ensures ∙ c.if-not-is_free.false) (sym c.is_full.ensures ∙ c.if-is_full.false) c.in-Ok.ensures
