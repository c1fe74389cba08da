use Rattle.std.proofs.Common.{◌≡◌, [], ◌∷◌, ◌++◌, Some, ap, ◌∙◌}
use Rattle.sb_rawlog.specs.Changes.{is_tuple}
use Rattle.sb_rawlog.specs.Records.{walk, before}
use Rattle.sb_rawlog.specs.Steps.{todo_from, tuple_todo}
use Rattle.sb_net.proofs.Folds.{span_is}
use Rattle.sb_net.proofs.span.span_from.Goals as goal

pub returns : goal.returns
returns g c =
    let rs = g.L.ChangeLog.records c.args.log.now in
    let newest = c.args.newest in
    let of = is_tuple newest.who newest.table newest.tuple in
    let o = c.oldest-oldest.ensures in
    let first : o.ends.change ≡ c.get-2.result.1.now = let a = o.ends.here in let b = c.get-2.ensures.change in cc in
    span_is (tuple_todo rs (Some newest)) o.passed (walk of newest.since (before newest.time rs)) newest.time c.oldest-oldest.result.time c.get-2.result.1.now c.get.result.1.now
    (o.left ∙ ap (λ l. o.passed ++ l) (o.ends.left ∙ (λ j. (c.oldest-oldest.result.time, first j) ∷ [])))
    (ap (todo_from of rs newest.since newest.time) c.get.ensures.change)
