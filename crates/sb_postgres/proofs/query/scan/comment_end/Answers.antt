use Rattle.std.proofs.Common.{sym, ◌∙◌, arith}
use Rattle.sb_postgres.proofs.Scanning.{passes_close, passes_open, passes_other}
use Rattle.sb_postgres.proofs.query.scan.comment_end.Goals as goal

pub loop-rest-preserved-then-closes_comment : goal.loop-rest-preserved-then-closes_comment
loop-rest-preserved-then-closes_comment c = record {
  value = passes_close c.loop-rest.depth c.loop-rest.n c.loop-rest.rest.now _ c.loop-rest-test.true (sym c.closes_comment.ensures ∙ c.if-closes_comment.true) c.if-depth-eq0.false c.loop-rest.invariant.value;
  within = omega arith;
  shallow = omega arith;
}

pub loop-rest-preserved-then-opens_comment : goal.loop-rest-preserved-then-opens_comment
loop-rest-preserved-then-opens_comment c = record {
  value = passes_open c.loop-rest.depth c.loop-rest.n c.loop-rest.rest.now _ c.loop-rest-test.true (sym c.closes_comment.ensures ∙ c.if-closes_comment.false) (sym c.opens_comment.ensures ∙ c.if-opens_comment.true) c.loop-rest.invariant.value;
  within = omega arith;
  shallow = omega arith;
}

pub loop-rest-preserved : goal.loop-rest-preserved
loop-rest-preserved c = record {
  value = passes_other c.loop-rest.depth c.loop-rest.n c.loop-rest.rest.now _ c.loop-rest-test.true (sym c.closes_comment.ensures ∙ c.if-closes_comment.false) (sym c.opens_comment.ensures ∙ c.if-opens_comment.false) c.loop-rest.invariant.value;
  within = omega arith;
  shallow = omega arith;
}
