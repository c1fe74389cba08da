use Rattle.std.proofs.Common.{◌+◌, IfSome, drop, arith, sym, subst, ◌∙◌, ◌^◌, ◌≤◌}
use Rattle.sb_durable.specs.Blocks.{Stands}
use Rattle.sb_durable.specs.Ends.{Finds}
use Rattle.sb_durable.proofs.Walk.{walked_on, walked_end, walked_damaged}
use Rattle.sb_durable.proofs.recovery.find_end.Goals as goal

pub loop-size-preserved : goal.loop-size-preserved
loop-size-preserved g c =
    let i = c.loop-size.invariant in
    record {
      usable = c.block_at.ensures.usable;
      same = c.block_at.ensures.seen ∙ i.same;
      clean = λ clean. i.clean (c.block_at.ensures.clean clean);
      crash = λ file left. i.crash file (c.block_at.ensures.crash file left);
      within =
          let fits = subst (λ o. IfSome o (λ size. (size ≤ 2 ^ 20) × (c.loop-size.at + 5 + size ≤ c.args.len))) c.in-Ok-Some.field-0-is c.in-Ok-Some.ensures.fits in
          omega (arith, fits.1);
      walked = λ clean.
          let found = subst (λ f. Finds (drop c.loop-size.at f) c.in-Ok-Some.field-0) i.same (c.in-Ok-Some.ensures.found clean) in
          let begins = subst (λ o. Finds (drop c.loop-size.at (g.D.Disk.seen c.args.disk.now)) o) c.in-Ok-Some.field-0-is found in
          walked_on _ _ c.in-Ok-Some.size _ (i.walked (c.block_at.ensures.clean clean)) begins (omega arith);
    }

pub returns-in-Ok-None-clause-found : goal.returns-in-Ok-None-clause-found
returns-in-Ok-None-clause-found g c clean contents stands =
    let i = c.loop-size.invariant in
    let found = subst (λ f. Finds (drop c.loop-size.at f) c.in-Ok-None.field-0) i.same (c.in-Ok-None.ensures.found clean) in
    let over = subst (λ o. Finds (drop c.loop-size.at (g.D.Disk.seen c.args.disk.now)) o) c.in-Ok-None.field-0-is found in
    walked_end _ c.loop-size.at contents (i.walked (c.block_at.ensures.clean clean)) over stands

pub returns-in-Err-clause-damaged : goal.returns-in-Err-clause-damaged
returns-in-Err-clause-damaged g c is clean contents stands =
    let i = c.loop-size.invariant in
    walked_damaged _ c.loop-size.at contents (i.walked (c.block_at.ensures.clean clean))
    (λ back rest. c.in-Err.ensures.damaged is clean back (subst (λ f. Stands back (drop c.loop-size.at f)) (sym i.same) rest)) stands
