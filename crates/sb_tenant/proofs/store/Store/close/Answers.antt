use Rattle.std.proofs.Common.{refl, arith}
use Rattle.sb_tenant.specs.declared.phase.Phase.TheVariants.{Closed}
use Rattle.sb_tenant.specs.declared.store.Store.{Store}
use Rattle.sb_tenant.proofs.Calls.{set-other, set-own}
use Rattle.sb_tenant.proofs.Opening.{closes}
use Rattle.sb_tenant.proofs.store.Store.close.Goals as goal

pub returns-clause-closed : goal.returns-clause-closed
returns-clause-closed c = λ records clock index state st.
    let old : Store = c.args.self.now in let s = c.args.session in let is = c.tables_are_shared.ensures.in_range in
    let new : Store = record old { database = record old.database { locks = c.release.new.self }; phases = c.set.new.self } in
    closes c.tables_are_shared.ensures.laws s is old new records clock index state st.0.0 st.0.1 st.1
    (record {
      id = refl;
      records = λ other differs. refl;
      times = omega arith;
      transactions = λ o r other. (refl, refl, refl);
      phases = set-other old.phases new.phases s Closed c.set.ensures;
      definitions = refl;
    })
    c.requires (set-own old.phases new.phases s Closed c.set.ensures) refl refl c.release.ensures
