use Rattle.std.proofs.Common.{arith}
use Rattle.sb_postgres.proofs.Scanning.{passes_one, passes_two}
use Rattle.sb_postgres.proofs.query.scan.closing.Goals as goal

pub loop-rest-preserved-then-b-quote : goal.loop-rest-preserved-then-b-quote
loop-rest-preserved-then-b-quote c = record {
  value = passes_two c.args.quote c.loop-rest.n c.loop-rest.rest.now _ c.in-len1-up.len_at_least c.in-len1-up-more.len_at_least c.if-b-quote.true c.if-c-quote.false c.loop-rest.invariant.value;
  within = omega arith;
}

pub loop-rest-preserved : goal.loop-rest-preserved
loop-rest-preserved c = record {
  value = passes_one c.args.quote c.loop-rest.n c.loop-rest.rest.now _ c.in-len1-up.len_at_least c.if-b-quote.false c.loop-rest.invariant.value;
  within = omega arith;
}
