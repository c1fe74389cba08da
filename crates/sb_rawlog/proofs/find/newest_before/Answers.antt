use Rattle.std.proofs.Common.{◌∙◌, ◌-◌, ◌&&◌, sym, ap, arith}
use Rattle.std.proofs.lemmas.Bool.{le-leb}
use Rattle.sb_rawlog.specs.Keys.{fits}
use Rattle.sb_rawlog.proofs.Rises.{read, passed, found, none_older, walk-nil}
use Rattle.sb_rawlog.proofs.find.newest_before.Goals as goal

pub returns-then-time-since : goal.returns-then-time-since
returns-then-time-since c =
    let rs = c.args.items.now in let r = c.index-items-i.result in let k = c.loop-i.i - 1 in
    let e = read rs k r c.index-items-i.is (omega arith) in
    c.loop-i.invariant.passed
    ∙ none_older (fits c.args.key.now) c.args.since rs c.requires.rising.0 c.loop-i.i k r (omega arith) c.requires.rising.1 e c.if-time-since.true

pub returns-then-fits : goal.returns-then-fits
returns-then-fits c =
    let rs = c.args.items.now in let r = c.index-items-i.result in let k = c.loop-i.i - 1 in
    let e = read rs k r c.index-items-i.is (omega arith) in
    let chosen = ap (λ b. b && fits c.args.key.now r.1) (le-leb c.args.since r.0 c.if-time-since.false) ∙ sym c.fits.ensures ∙ c.if-fits.true in
    found (fits c.args.key.now) c.args.since rs _ c.requires.rising.0 c.loop-i.i k r (omega arith) c.requires.rising.1 e chosen c.loop-i.invariant.passed

pub loop-i-preserved : goal.loop-i-preserved
loop-i-preserved c =
    let rs = c.args.items.now in let r = c.index-items-i.result in let k = c.loop-i.i - 1 in
    let e = read rs k r c.index-items-i.is (omega arith) in
    let missed = ap (λ b. b && fits c.args.key.now r.1) (le-leb c.args.since r.0 c.if-time-since.false) ∙ sym c.fits.ensures ∙ c.if-fits.false in
    record {
      within = omega arith;
      passed = c.loop-i.invariant.passed ∙ passed (fits c.args.key.now) c.args.since rs c.loop-i.i k r (omega arith) e missed;
    }

pub returns : goal.returns
returns c = c.loop-i.invariant.passed ∙ walk-nil (fits c.args.key.now) c.args.since c.args.items.now c.loop-i.i (omega arith)
