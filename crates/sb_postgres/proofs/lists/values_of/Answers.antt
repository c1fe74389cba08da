use Rattle.std.proofs.Common.{◌≡◌, ◌++◌, ◌∷◌, [], map, option_copied}
use Rattle.std.proofs.lemmas.Result.{err_from_is_err_and}
use Rattle.std.proofs.lemmas.List.{map_push}
use Rattle.sb_postgres.specs.Reading.{items_at, value_at}
use Rattle.sb_postgres.proofs.Loop.{goes_on, ends, is_done}
use Rattle.sb_postgres.proofs.lists.values_of.Goals as goal

pub returns-in_err-one : goal.returns-in_err-one
returns-in_err-one c =
    let p = err_from_is_err_and c.from_residual.result c.from_residual.ensures.1 in
    rw (p.1, p.2) (ends value_at c.in_err-one.field-0.0 (map option_copied c.loop.found.items) c.args.count c.loop.counter c.loop.rest.now (items_at value_at c.args.count c.args.bytes.now) c.loop-test.true c.in_err-one.ensures c.loop.invariant)

pub loop-preserved : goal.loop-preserved
loop-preserved c =
    let n = c.in_ok-one.one in
    let e : map option_copied c.push.new.self.items ≡ map option_copied c.loop.found.items ++ option_copied n ∷ [] = rw c.in_ok-push.ensures.items (map_push _ c.loop.found.items n) in
    rw e (goes_on value_at (map option_copied c.loop.found.items) c.args.count c.loop.counter c.loop.rest.now (option_copied n) c.in_ok-one.behind.now (items_at value_at c.args.count c.args.bytes.now) c.loop-test.true c.in_ok-one.ensures c.loop.invariant)

pub returns : goal.returns
returns c = is_done value_at (map option_copied c.loop.found.items) c.args.count c.loop.counter c.loop.rest.now (items_at value_at c.args.count c.args.bytes.now) c.loop-test.false c.loop.invariant
