use Rattle.std.proofs.lemmas.Bool.Decides.{Decides-eqb}
use Rattle.std.proofs.lemmas.Slice.Eq.{strip_suffix_is}
use Rattle.std.specs.Prelude.{codes, None, Some}
use Rattle.sb_status.proofs.Targets.{behind_without, no_dump_number}
use Rattle.sb_status.proofs.route.route_behind.Goals as goal

pub returns-in-Some-number : goal.returns-in-Some-number
returns-in-Some-number c =
    (c.in-Some.digits.now, c.in-Some-number.ensures, strip_suffix_is Decides-eqb c.args.rest.now (codes "/dump") (Some c.in-Some.digits) c.in-Some.ensures.cases)

pub returns-in-None-number : goal.returns-in-None-number
returns-in-None-number c =
    no_dump_number c.args.rest.now c.in-Some.digits.now (strip_suffix_is Decides-eqb c.args.rest.now (codes "/dump") (Some c.in-Some.digits) c.in-Some.ensures.cases)
    c.in-None-number.ensures

pub returns-in-None : goal.returns-in-None
returns-in-None c =
    behind_without c.args.rest.now c.route_without.result (strip_suffix_is Decides-eqb c.args.rest.now (codes "/dump") None c.in-None.ensures.cases)
    c.route_without.ensures
