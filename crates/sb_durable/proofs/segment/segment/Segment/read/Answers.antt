use Rattle.std.proofs.Common.{IfSome, drop, arith, sym, subst}
use Rattle.sb_durable.specs.SegmentBlocks.{GoOn}
use Rattle.sb_durable.specs.Segment.{Bears}
use Rattle.sb_durable.specs.SegmentEnds.{Finds}
use Rattle.sb_durable.proofs.SegmentPlaces.{at_end_reads, at_end_damaged, place_within, place_goes, no_end_before, block_reads, block_within}
use Rattle.sb_durable.proofs.segment.segment.Segment.read.Goals as goal

-- at the end
pub returns-then-place-self-2-clause-damaged : goal.returns-then-place-self-2-clause-damaged
returns-then-place-self-2-clause-damaged g c is clean front back knows here =
    at_end_damaged _ _ front c.args.place c.args.self.now.end here back knows.stands knows.end c.if-place-self.true c.if-place-self-2.true

pub returns-then-place-self-clause-found : goal.returns-then-place-self-clause-found
returns-then-place-self-clause-found g c clean front back knows here =
    at_end_reads _ _ front c.args.place c.args.self.now.end here back c.args.content.now.items knows.stands knows.end c.if-place-self.true

-- before it
pub returns-then-place-len-clause-damaged : goal.returns-then-place-len-clause-damaged
returns-then-place-len-clause-damaged g c is clean front back knows here =
    absurd (omega (arith, c.if-place-len.true, c.in_ok-len.ensures.len clean, place_within _ _ front c.args.place c.args.self.now.end here back knows.stands knows.end))

pub returns-then-next-self-clause-damaged : goal.returns-then-next-self-clause-damaged
returns-then-next-self-clause-damaged g c is clean front back knows here =
    let found = subst (λ f. Finds c.args.place.chain (drop c.args.place.at f) c.block_at.new.content.items c.in-Ok-Some.field-0) c.len.ensures.seen (c.in-Ok-Some.ensures.found clean) in
    let begins = subst (λ o. Finds c.args.place.chain (drop c.args.place.at (g.D.Disk.seen c.args.self.now.device)) c.block_at.new.content.items o) c.in-Ok-Some.field-0-is found in
    let bears = subst (λ o. IfSome o (λ next. Bears c.args.place c.block_at.new.content.items next)) c.in-Ok-Some.field-0-is c.in-Ok-Some.ensures.bears in
    block_within _ _ front c.args.place c.args.self.now.end here c.block_at.new.content.items begins.1 begins.0 begins.2 c.in-Ok-Some.next bears begins.3 back knows.stands knows.end c.if-next-self.true

pub returns-else-next-self-clause-found : goal.returns-else-next-self-clause-found
returns-else-next-self-clause-found g c clean front back knows here =
    let found = subst (λ f. Finds c.args.place.chain (drop c.args.place.at f) c.block_at.new.content.items c.in-Ok-Some.field-0) c.len.ensures.seen (c.in-Ok-Some.ensures.found clean) in
    let begins = subst (λ o. Finds c.args.place.chain (drop c.args.place.at (g.D.Disk.seen c.args.self.now.device)) c.block_at.new.content.items o) c.in-Ok-Some.field-0-is found in
    let bears = subst (λ o. IfSome o (λ next. Bears c.args.place c.block_at.new.content.items next)) c.in-Ok-Some.field-0-is c.in-Ok-Some.ensures.bears in
    block_reads _ _ front c.args.place c.args.self.now.end here c.block_at.new.content.items begins.1 begins.0 begins.2 c.in-Ok-Some.next bears begins.3 back knows.stands knows.end

pub returns-in-Ok-None-clause-damaged : goal.returns-in-Ok-None-clause-damaged
returns-in-Ok-None-clause-damaged g c is clean front back knows here =
    let found = subst (λ f. Finds c.args.place.chain (drop c.args.place.at f) c.block_at.new.content.items c.in-Ok-None.field-0) c.len.ensures.seen (c.in-Ok-None.ensures.found clean) in
    let over = subst (λ o. Finds c.args.place.chain (drop c.args.place.at (g.D.Disk.seen c.args.self.now.device)) c.block_at.new.content.items o) c.in-Ok-None.field-0-is found in
    no_end_before _ _ front c.args.place c.args.self.now.end here back knows.stands knows.end c.if-place-self.false over

pub returns-in-Err-clause-damaged : goal.returns-in-Err-clause-damaged
returns-in-Err-clause-damaged g c is clean front back knows here =
    c.in-Err.ensures.damaged is clean back (subst (λ f. GoOn c.args.place.chain back (drop c.args.place.at f)) (sym c.len.ensures.seen) (place_goes _ _ front c.args.place c.args.self.now.end here back knows.stands knows.end))
