use Rattle.std.proofs.Common.{refl, ap, ◌∙◌}
use Rattle.std.proofs.lemmas.Result.{err_from_is_err_and}
use Rattle.sb_syntax.specs.declared.kind.TokenKind.TheVariants.{Comma}
use Rattle.sb_syntax.specs.Reading.{pushes, literal_value}
use Rattle.sb_syntax.proofs.Turns.{goes_on-next, goes_on-err, goes_on-end, seen_falls, pushes_yes, pushes_no}
use Rattle.sb_syntax.proofs.statement.literals.Goals as goal

pub returns-in_err-item : goal.returns-in_err-item
returns-in_err-item c =
    let p = err_from_is_err_and c.from_residual-in_err-item.result c.from_residual-in_err-item.ensures.1 in
    let read = goes_on-err (pushes Comma) literal_value _ _ _ c.more.tokens _ _ _ _ refl c.more.invariant.turns refl (pushes_yes Comma c.more.tokens c.sees.result c.sees.ensures c.more-test.true) c.skip.ensures.value c.in_err-item.ensures in
    rw (p.1, p.2) (record { read = read; closed = c.more.invariant.closed })

pub more-smaller : goal.more-smaller
more-smaller c = seen_falls Comma c.more.tokens c.skip.new.self _ c.sees.result c.sees.ensures c.more-test.true c.skip.ensures.value c.in_ok-item.ensures.1

pub more-preserved : goal.more-preserved
more-preserved c =
    record {
      turns = goes_on-next (pushes Comma) literal_value _ _ _ _ c.more.tokens c.skip.new.self _ _ _ _ refl c.more.invariant.turns refl (pushes_yes Comma c.more.tokens c.sees.result c.sees.ensures c.more-test.true) c.skip.ensures.value c.in_ok-item.ensures (ap (λ t. t.begun) c.in_ok-push-2.ensures.ok);
      closed = ap (λ t. t.closed) c.in_ok-push-2.ensures.ok ∙ c.more.invariant.closed;
    }

pub returns : goal.returns
returns c =
    record {
      read = goes_on-end (pushes Comma) literal_value _ _ _ c.more.tokens _ c.more.invariant.turns refl (pushes_no Comma c.more.tokens c.sees.result c.sees.ensures c.more-test.false);
      closed = c.more.invariant.closed;
    }
