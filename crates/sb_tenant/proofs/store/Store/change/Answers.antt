use Rattle.std.proofs.Common.{inl, sym, refl}
use Rattle.sb_tenant.specs.Perform.{perform}
use Rattle.sb_tenant.specs.Resolved.{change}
use Rattle.sb_tenant.proofs.Calls.{called, transaction-of, count-comes, count-aside}
use Rattle.sb_tenant.proofs.Leaving.{leaves_on, leaves_changed}
use Rattle.sb_tenant.proofs.store.Store.change.Goals as goal

pub change-requires-clause-transaction : goal.change-requires-clause-transaction
change-requires-clause-transaction g c = transaction-of c.tables_are_shared.ensures.laws c.tables_are_shared.ensures.in_range c.requires.stand.1

pub refuse-requires : goal.refuse-requires
refuse-requires g c =
    let l = c.change.ensures.leaves in
    let call = called c.args.self.now c.change.new.self c.args.self.now.phases l.id l.others l.times.0 l.sessions (λ o other. refl) in
    let w = count-aside c.tables_are_shared.ensures.laws c.tables_are_shared.ensures.in_range c.requires.stand.1 call c.requires.active c.requires.active c.args.statement.now c.in-Err.ensures.changed in (c.args.index.now, w.0, w.1)

pub returns-in-Ok-clause-performed : goal.returns-in-Ok-clause-performed
returns-in-Ok-clause-performed g c = λ state st bound left.
    let l = c.change.ensures.leaves in
    let call = called c.args.self.now c.change.new.self c.args.self.now.phases l.id l.others l.times.0 l.sessions (λ o other. refl) in
    let comes = count-comes c.tables_are_shared.ensures.laws c.tables_are_shared.ensures.in_range st call c.requires.active c.requires.active c.args.statement.now c.in-Ok.ensures.changed bound left in inl (sym comes.0, comes.1)

pub returns-in-Err-clause-performed : goal.returns-in-Err-clause-performed
returns-in-Err-clause-performed g c = λ state st bound left.
    let laws = c.tables_are_shared.ensures.laws in let is = c.tables_are_shared.ensures.in_range in
    let l = c.change.ensures.leaves in
    let call = called c.args.self.now c.change.new.self c.args.self.now.phases l.id l.others l.times.0 l.sessions (λ o other. refl) in
    c.refuse.ensures.refused c.args.index.now state (perform c.args.self.now.database.id bound state c.args.session (change c.args.statement.now))
    (count-aside laws is st call c.requires.active c.requires.active c.args.statement.now c.in-Err.ensures.changed) (count-comes laws is st call c.requires.active c.requires.active c.args.statement.now c.in-Err.ensures.changed bound left)

pub returns-in-Ok-clause-leaves : goal.returns-in-Ok-clause-leaves
returns-in-Ok-clause-leaves g c = let l = c.change.ensures.leaves in leaves_changed l.id l.others l.times l.numbers

pub returns-in-Err-clause-leaves : goal.returns-in-Err-clause-leaves
returns-in-Err-clause-leaves g c = let l = c.change.ensures.leaves in leaves_on (leaves_changed l.id l.others l.times l.numbers) c.refuse.ensures.leaves
