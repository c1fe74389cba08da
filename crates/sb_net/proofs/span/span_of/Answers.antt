use Rattle.sb_net.proofs.Folds.{none_since, todo_is, span_of_all}
use Rattle.sb_rawlog.specs.Changes.{is_tuple}
use Rattle.sb_rawlog.specs.Records.{walk}
use Rattle.sb_rawlog.specs.Steps.{tuple_todo}
use Rattle.std.proofs.Common.{Some}
use Rattle.sb_net.proofs.span.span_of.Goals as goal

pub span_from-requires : goal.span_from-requires
span_from-requires g c = c.in-Some.ensures.stands

pub returns-in-None : goal.returns-in-None
returns-in-None g c = none_since c.args.who c.args.table c.args.tuple c.args.since (g.L.ChangeLog.records c.args.log.now) c.in-None.ensures

pub returns-in-Some : goal.returns-in-Some
returns-in-Some g c =
    let rs = g.L.ChangeLog.records c.args.log.now in
    span_of_all c.args.who c.args.table c.args.tuple c.args.since rs (tuple_todo rs (Some c.in-Some.newest)) c.span_from.result.first.now c.span_from.result.last.now
    (todo_is (g.L.ChangeLog.stands c.args.log.now) rs c.args.who c.args.table c.args.tuple c.args.since (walk (is_tuple c.args.who c.args.table c.args.tuple) c.args.since rs) c.in-Some.newest c.in-Some.ensures)
    c.span_from.ensures
