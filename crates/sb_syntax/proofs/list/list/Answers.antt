use Rattle.std.proofs.Common.{sym, ◌∙◌, arith}
use Rattle.std.proofs.lemmas.Result.{err_from_is_err_and}
use Rattle.sb_syntax.specs.Lists.{first, at_first, no_memory}
use Rattle.sb_syntax.proofs.Lists.{follows_falls, has_read-another, is_refused-behind}
use Rattle.sb_syntax.proofs.list.list.Goals as goal

pub returns-in_err-first-clause-refused : goal.returns-in_err-first-clause-refused
returns-in_err-first-clause-refused g c =
    let p = err_from_is_err_and c.from_residual.result c.from_residual.ensures.1 in
    rw (p.1, p.2) (at_first c.in_err-first.ensures.given)

pub returns-in_err-push-clause-refused : goal.returns-in_err-push-clause-refused
returns-in_err-push-clause-refused g c =
    let p = err_from_is_err_and c.from_residual-in_err-push.result c.from_residual-in_err-push.ensures.1 in
    rw (p.1, p.2) no_memory

pub more-init : goal.more-init
more-init g c = rw (c.in_ok-push.ensures.items, c.new-all.ensures.items) (first c.in_ok-first.ensures.given)

pub returns-in_err-item-clause-refused : goal.returns-in_err-item-clause-refused
returns-in_err-item-clause-refused g c =
    let p = err_from_is_err_and c.from_residual-in_err-item.result c.from_residual-in_err-item.ensures.1 in
    rw (p.1, p.2) (is_refused-behind c.args.separator c.args.most g.T.Item.gives c.args.tokens.now c.more.all.items c.len.result c.more.tokens c.skip.new.self _ _ c.more.invariant (sym c.follows.ensures ∙ c.more-test.true) (omega arith) c.skip.ensures.value c.in_err-item.ensures.given)

pub more-smaller : goal.more-smaller
more-smaller g c = follows_falls c.args.separator c.args.most _ c.more.tokens c.skip.new.self _ (sym c.follows.ensures ∙ c.more-test.true) c.skip.ensures.value c.in_ok-item.ensures.shorter

pub more-preserved : goal.more-preserved
more-preserved g c =
    rw c.in_ok-push-2.ensures.items
    (has_read-another c.args.separator c.args.most g.T.Item.gives c.args.tokens.now c.more.all.items c.len.result c.more.tokens c.skip.new.self _ _ c.more.invariant (sym c.follows.ensures ∙ c.more-test.true) (omega arith) c.skip.ensures.value c.in_ok-item.ensures.given)

pub returns-in_err-push-2-clause-refused : goal.returns-in_err-push-2-clause-refused
returns-in_err-push-2-clause-refused g c =
    let p = err_from_is_err_and c.from_residual-in_err-push-2.result c.from_residual-in_err-push-2.ensures.1 in
    rw (p.1, p.2) no_memory
