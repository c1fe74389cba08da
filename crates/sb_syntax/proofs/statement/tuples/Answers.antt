use Rattle.std.proofs.Common.{refl, ap, ◌∙◌, ◌++◌, ◌∷◌, []}
use Rattle.std.proofs.lemmas.Result.{err_from_is_err_and}
use Rattle.sb_syntax.specs.declared.kind.TokenKind.TheVariants.{Comma}
use Rattle.sb_syntax.specs.Reading.{pushes, tuple}
use Rattle.sb_syntax.proofs.Turns.{goes_on-next, goes_on-err, goes_on-end, seen_falls, pushes_yes, pushes_no}
use Rattle.sb_syntax.proofs.statement.tuples.Goals as goal

pub returns-in_err-tuple-2 : goal.returns-in_err-tuple-2
returns-in_err-tuple-2 c =
    let p = err_from_is_err_and c.from_residual-in_err-tuple-2.result c.from_residual-in_err-tuple-2.ensures.1 in
    rw (p.1, p.2) (goes_on-err (pushes Comma) tuple _ _ _ c.more.tokens _ _ _ _ refl c.more.invariant.turns refl (pushes_yes Comma c.more.tokens c.sees.result c.sees.ensures c.more-test.true) c.skip.ensures.value c.in_err-tuple-2.ensures.read)

pub more-smaller : goal.more-smaller
more-smaller c = seen_falls Comma c.more.tokens c.skip.new.self _ c.sees.result c.sees.ensures c.more-test.true c.skip.ensures.value c.in_ok-tuple-2.ensures.read.1

pub more-preserved : goal.more-preserved
more-preserved c =
    let grown = ap (λ t. t.closed) c.in_ok-close-2.ensures.ok ∙ ap (λ ts. ts ++ c.tuple-in-more.new.all.begun ∷ []) c.tuple-in-more.ensures.closed in
    record {
      turns = goes_on-next (pushes Comma) tuple _ _ _ _ c.more.tokens c.skip.new.self _ _ _ _ refl c.more.invariant.turns refl (pushes_yes Comma c.more.tokens c.sees.result c.sees.ensures c.more-test.true) c.skip.ensures.value c.in_ok-tuple-2.ensures.read grown;
      begun = ap (λ t. t.begun) c.in_ok-close-2.ensures.ok;
    }

pub returns : goal.returns
returns c = rw c.in_ok-tuples.ensures (goes_on-end (pushes Comma) tuple _ _ _ c.more.tokens _ c.more.invariant.turns refl (pushes_no Comma c.more.tokens c.sees.result c.sees.ensures c.more-test.false))
