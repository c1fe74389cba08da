use Rattle.std.proofs.lemmas.Bool.Decides.{Decides-eqb}
use Rattle.std.proofs.lemmas.Slice.Eq.{strip_suffix_is}
use Rattle.std.specs.Prelude.{codes, None, Some}
use Rattle.sb_status.proofs.Targets.{no_session, without_alone}
use Rattle.sb_status.proofs.route.route_without.Goals as goal

pub returns-in-Some-session_in : goal.returns-in-Some-session_in
returns-in-Some-session_in c = (c.in-Some.front.now, c.in-Some-session_in.ensures, strip_suffix_is Decides-eqb c.args.rest.now (codes "/end") (Some c.in-Some.front) c.in-Some.ensures.cases)

pub returns-in-None-session_in : goal.returns-in-None-session_in
returns-in-None-session_in c =
    no_session c.args.rest.now c.in-Some.front.now (strip_suffix_is Decides-eqb c.args.rest.now (codes "/end") (Some c.in-Some.front) c.in-Some.ensures.cases)
    c.in-None-session_in.ensures

pub returns-in-None : goal.returns-in-None
returns-in-None c =
    without_alone c.args.rest.now c.route_alone.result (strip_suffix_is Decides-eqb c.args.rest.now (codes "/end") None c.in-None.ensures.cases) c.route_alone.ensures
