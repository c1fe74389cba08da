use Rattle.std.proofs.Common.{◌≡◌, true, Some, ap, ◌∙◌, arith, eq-eqb}
use Rattle.sb_value.specs.NetEffect.{net_effect}
use Rattle.sb_rawlog.specs.Changes.{is_tuple}
use Rattle.sb_rawlog.specs.Records.{walk}
use Rattle.sb_rawlog.specs.Sessions.{changes_since}
use Rattle.sb_rawlog.specs.Steps.{tuple_todo}
use Rattle.sb_net.specs.Newest.{begins_at, is_newest}
use Rattle.sb_net.proofs.Folds.{todo_is, span_of_all, net_of_span}
use Rattle.sb_net.proofs.Newest.{asked_here}
use Rattle.sb_net.proofs.effect.net_at.Goals as goal

pub returns : goal.returns
returns g c =
    let rs = g.L.ChangeLog.records c.args.log.now in
    let s = c.args.scope.now in
    let tuple = c.args.tuple in
    let newest = c.in-Some.newest in
    let st = c.in-Some.ensures in
    let all = todo_is (g.L.ChangeLog.stands c.args.log.now) rs s.who s.table tuple s.since (walk (is_tuple s.who s.table tuple) s.since rs) newest st in
    let same : newest.time ≡ c.args.time = omega (arith, c.if-newest-time.false) in
    let here : is_newest s rs tuple c.args.time ≡ true = ap (begins_at c.args.time) st.comes.first ∙ eq-eqb newest.time c.args.time same in
    let first = c.span_from-changes.result.first.now in
    let last = c.span_from-changes.result.last.now in
    c.between.ensures
    ∙ net_of_span first last _ (span_of_all s.who s.table tuple s.since rs (tuple_todo rs (Some newest)) first last all c.span_from-changes.ensures)
    ∙ asked_here (is_newest s rs tuple c.args.time) (net_effect (changes_since s.who s.since rs) s.table tuple) here
