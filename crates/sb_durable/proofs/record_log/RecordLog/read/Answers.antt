use Rattle.std.proofs.Common.{◌+◌, drop, arith, sym, subst, ◌∙◌}
use Rattle.sqlite_disk.specs.Disk.{Holds}
use Rattle.sb_durable.specs.Blocks.{Stands}
use Rattle.sb_durable.specs.Ends.{Finds}
use Rattle.sb_durable.proofs.Places.{place_within, place_stands, place_none, place_some}
use Rattle.sb_durable.proofs.record_log.RecordLog.read.Goals as goal

pub returns-then-at-len-clause-damaged : goal.returns-then-at-len-clause-damaged
returns-then-at-len-clause-damaged g c is clean front back has here =
    absurd (omega (arith, c.if-at-len.true, c.in_ok-len.ensures.len clean, place_within _ _ _ front back has c.args.at here))

pub returns-in_ok-fill-in-Ok-Some-clause-found : goal.returns-in_ok-fill-in-Ok-Some-clause-found
returns-in_ok-fill-in-Ok-Some-clause-found g c clean front back has here =
    let file = g.D.Disk.seen c.args.self.now.device in
    let found = subst (λ f. Finds (drop c.args.at f) c.in-Ok-Some.field-0) c.len.ensures.seen (c.in-Ok-Some.ensures.found (c.fill.ensures.clean clean)) in
    let begins = subst (λ o. Finds (drop c.args.at file) o) c.in-Ok-Some.field-0-is found in
    place_some _ _ _ front back has c.args.at here c.fill.new.bytes.items c.in-Ok-Some.size begins c.in_ok-fill-in-Ok-Some.ensures.size
    (λ some. subst (λ f. Holds f (c.args.at + 5) c.fill.new.bytes.items) (c.block_at.ensures.seen ∙ c.len.ensures.seen) (c.in_ok-fill-in-Ok-Some.ensures.read clean some))

pub returns-in-Ok-None-clause-found : goal.returns-in-Ok-None-clause-found
returns-in-Ok-None-clause-found g c clean front back has here =
    let file = g.D.Disk.seen c.args.self.now.device in
    let found = subst (λ f. Finds (drop c.args.at f) c.in-Ok-None.field-0) c.len.ensures.seen (c.in-Ok-None.ensures.found clean) in
    let over = subst (λ o. Finds (drop c.args.at file) o) c.in-Ok-None.field-0-is found in
    place_none _ _ _ front back has c.args.at here c.args.content.now.items over

pub returns-in-Err-clause-damaged : goal.returns-in-Err-clause-damaged
returns-in-Err-clause-damaged g c is clean front back has here =
    c.in-Err.ensures.damaged is clean back (subst (λ f. Stands back (drop c.args.at f)) (sym c.len.ensures.seen) (place_stands _ _ _ front back has c.args.at here))
