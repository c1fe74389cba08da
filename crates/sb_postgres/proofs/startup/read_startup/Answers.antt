use Rattle.std.proofs.Common.{◌≡◌, ap, sym, subst, ◌∙◌, Ok, arith}
use Rattle.sb_postgres.specs.Reading.{Gives}
use Rattle.sb_postgres.specs.Startup.{started}
use Rattle.sb_postgres.specs.StartupReading.{startup_at}
use Rattle.sb_postgres.proofs.Starts.{is_found, startup_again}
use Rattle.sb_postgres.proofs.startup.read_startup.Goals as goal

pub returns-clause-found : goal.returns-clause-found
returns-clause-found c = is_found c.args.body.now c.startup_of.result (λ i. omega (arith, c.type_inv.body i)) c.startup_of.ensures

pub returns-clause-only : goal.returns-clause-only
returns-clause-only c = λ p is b.
    let e : startup_at c.args.body.now ≡ Ok p = ap startup_at (sym b) ∙ startup_again p is in
    subst (λ f. Gives started c.startup_of.result f) e c.startup_of.ensures
