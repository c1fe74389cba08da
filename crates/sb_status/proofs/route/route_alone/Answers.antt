use Rattle.std.proofs.lemmas.Bool.Decides.{Decides-eqb}
use Rattle.std.proofs.lemmas.Slice.Eq.{strip_suffix_is}
use Rattle.std.specs.Prelude.{codes, Some}
use Rattle.sb_status.proofs.Targets.{no_renewal_number}
use Rattle.sb_status.proofs.route.route_alone.Goals as goal

pub returns-in-Some-number : goal.returns-in-Some-number
returns-in-Some-number c =
    (c.in-Some.digits.now, c.in-Some-number.ensures, strip_suffix_is Decides-eqb c.args.rest.now (codes "/renew") (Some c.in-Some.digits) c.in-Some.ensures.cases)

pub returns-in-None-number : goal.returns-in-None-number
returns-in-None-number c =
    no_renewal_number c.args.rest.now c.in-Some.digits.now (strip_suffix_is Decides-eqb c.args.rest.now (codes "/renew") (Some c.in-Some.digits) c.in-Some.ensures.cases)
    c.in-None-number.ensures
