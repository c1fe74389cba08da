use Rattle.std.proofs.Common.{◌≤◌, IfSome, drop, sym, subst, ◌∙◌, refl}
use Rattle.sb_durable.specs.SegmentBlocks.{GoOn}
use Rattle.sb_durable.specs.Segment.{Bears}
use Rattle.sb_durable.specs.SegmentEnds.{Finds}
use Rattle.sb_durable.specs.declared.segment.place.Place.{Place}
use Rattle.sb_durable.proofs.Walking.{walked_start, walked_on, walked_less, walked_end, walked_damaged}
use Rattle.sb_durable.proofs.segment.walk.find_end.Goals as goal

pub loop-next-init : goal.loop-next-init
loop-next-init g c = record {
  usable = c.requires.usable;
  same = refl;
  clean = λ clean. clean;
  crash = λ file left. left;
  within = c.requires.within;
  walked = walked_start _ _ _;
}

pub loop-next-preserved : goal.loop-next-preserved
loop-next-preserved g c =
    let i = c.loop-next.invariant in
    let bears = subst (λ o. IfSome o (λ next. Bears c.loop-next.place c.block_at.new.content.items next)) c.in-Ok-Some.field-0-is c.in-Ok-Some.ensures.bears in
    let within = subst (λ o. IfSome o (λ (next : Place). next.at ≤ c.args.len)) c.in-Ok-Some.field-0-is c.in-Ok-Some.ensures.within in
    record {
      usable = c.block_at.ensures.usable;
      same = c.block_at.ensures.seen ∙ i.same;
      clean = λ clean. i.clean (c.block_at.ensures.clean clean);
      crash = λ file left. i.crash file (c.block_at.ensures.crash file left);
      within = within;
      walked = walked_on _ _ _ _ _ _ _ c.block_at.ensures.clean i.walked bears λ clean.
          let found = subst (λ f. Finds c.loop-next.place.chain (drop c.loop-next.place.at f) c.block_at.new.content.items c.in-Ok-Some.field-0) i.same (c.in-Ok-Some.ensures.found clean) in
          subst (λ o. Finds c.loop-next.place.chain (drop c.loop-next.place.at (g.D.Disk.seen c.args.disk.now)) c.block_at.new.content.items o) c.in-Ok-Some.field-0-is found;
    }

pub returns-in-Ok-None-clause-bears : goal.returns-in-Ok-None-clause-bears
returns-in-Ok-None-clause-bears g c = walked_less _ _ _ _ _ c.block_at.ensures.clean c.loop-next.invariant.walked

pub returns-in-Ok-None-clause-found : goal.returns-in-Ok-None-clause-found
returns-in-Ok-None-clause-found g c clean contents goes =
    let i = c.loop-next.invariant in
    let found = subst (λ f. Finds c.loop-next.place.chain (drop c.loop-next.place.at f) c.block_at.new.content.items c.in-Ok-None.field-0) i.same (c.in-Ok-None.ensures.found clean) in
    let over = subst (λ o. Finds c.loop-next.place.chain (drop c.loop-next.place.at (g.D.Disk.seen c.args.disk.now)) c.block_at.new.content.items o) c.in-Ok-None.field-0-is found in
    walked_end _ _ _ _ contents (c.block_at.ensures.clean clean) i.walked over goes

pub returns-in-Err-clause-damaged : goal.returns-in-Err-clause-damaged
returns-in-Err-clause-damaged g c is clean contents goes =
    let i = c.loop-next.invariant in
    walked_damaged _ _ _ _ contents (c.block_at.ensures.clean clean) i.walked
    (λ back rest. c.in-Err.ensures.damaged is clean back (subst (λ f. GoOn c.loop-next.place.chain back (drop c.loop-next.place.at f)) (sym i.same) rest)) goes
