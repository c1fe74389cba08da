use Rattle.std.proofs.lemmas.Bool.Decides.{Decides-eqb}
use Rattle.std.proofs.lemmas.Slice.Eq.{strip_prefix_is}
use Rattle.std.specs.Prelude.{codes, Some}
use Rattle.sb_status.proofs.Targets.{names-by_rest}
use Rattle.sb_status.proofs.route.route_of.Goals as goal

-- what is behind the first part names the same page as the whole target
pub returns-in-Some : goal.returns-in-Some
returns-in-Some c =
    names-by_rest c.args.target.now c.in-Some.rest.now c.route_behind.result
    (strip_prefix_is Decides-eqb c.args.target.now (codes "/tenants/") (Some c.in-Some.rest) c.in-Some.ensures.cases) c.route_behind.ensures
